-- The answer of asking which entries fail, and the output that it leaves.
-- Assumes nothing.
use Rattle.std.specs.Prelude.{ℕ, length, Bool, List}
use Rattle.blocks.specs.Entries.{entries_of}
use Rattle.blocks.specs.Refusals.{unless_refused}
use Rattle.earning.specs.Answer.{Asked, asked_of, contained, marked_bytes}
use Rattle.narrow.specs.Missing.{fails_at}
use Rattle.pairs.specs.Pairs.{under}

-- [X5] the pairs, input 1, input 2, and an output with no byte for each entry of D; [X1] else whether C is contained in D
unfoldable pub failing_of : List ℕ → List ℕ → List ℕ → List ℕ → Asked
failing_of P c d out = asked_of P c d d out (contained P c d)

-- [X2] entry n of D fails
abbrev pub fails : List ℕ → List ℕ → List ℕ → ℕ → Bool
fails P c d = fails_at (under P) (entries_of c) (entries_of d)

-- [X4] the output: a refusal leaves it
unfoldable pub failed_of : List ℕ → List ℕ → List ℕ → List ℕ → List ℕ
failed_of P c d out = unless_refused (λ e. out) (failing_of P c d out) (marked_bytes (fails P c d) (length (entries_of d)) out)
