-- The answer of asking which entries earn a yes, and the output that it leaves.
-- Assumes nothing.
use Rattle.std.specs.Prelude.{ℕ, eqb, ltb, drop, length, cond, Bool, ◌&&◌, List, ◌++◌, Result, Ok, Err}
use Rattle.base.proofs.Lists.{listed}
use Rattle.base.specs.Range.{bit}
use Rattle.blocks.specs.Entries.{entries_of}
use Rattle.blocks.specs.Reading.{reading_of}
use Rattle.blocks.specs.Refusals.{refused, unless_refused}
use Rattle.blocks.specs.declared.Cause.TheVariants.{Room}
use Rattle.blocks.specs.declared.Refusal.{Refusal}
use Rattle.blocks.specs.declared.Schema.TheVariants.{Description}
use Rattle.meaning.specs.Failing.{failing}
use Rattle.narrow.specs.Earned.{earned}
use Rattle.pairs.specs.Pairs.{pairs_reading, under}

-- contained or not, or a refusal
abbrev pub Asked : Type 0
Asked = Result Bool Refusal

-- C is contained in D
abbrev pub contained : List ℕ → List ℕ → List ℕ → Bool
contained P c d = eqb (failing (under P) (entries_of c) (entries_of d)) 0

-- two inputs under a list of pairs, refused in their order, and an output of a byte for each entry of `of`; then an answer
abbrev pub asked_of : {A : Type 0} → List ℕ → List ℕ → List ℕ → List ℕ → List ℕ → A → Result A Refusal
asked_of P c d of out a =
    unless_refused Err (pairs_reading P) (unless_refused Err (reading_of Description 1 c) (unless_refused Err (reading_of Description 2 d)
    (cond (ltb (length out) (length (entries_of of))) (refused Room 0 0) (Ok a))))

-- [A7] the pairs, input 1, input 2, and an output with no byte for each entry of C; [A1] else whether C is contained in D
unfoldable pub earning_of : List ℕ → List ℕ → List ℕ → List ℕ → Asked
earning_of P c d out = asked_of P c d c out (contained P c d)

-- [A2] [A5] entry n of C earns the yes; where there is none, no entry does
abbrev pub earns : List ℕ → List ℕ → List ℕ → ℕ → Bool
earns P c d n = contained P c d && earned (under P) (entries_of c) (entries_of d) n

-- a byte for each of n entries, 1 for those of a set, else 0, and behind them the bytes that were there
unfoldable pub marked_bytes : (ℕ → Bool) → ℕ → List ℕ → List ℕ
marked_bytes M n out = listed (λ k. bit (M k)) 1 n ++ drop n out

-- [A6] the output: a refusal leaves it
unfoldable pub earned_of : List ℕ → List ℕ → List ℕ → List ℕ → List ℕ
earned_of P c d out = unless_refused (λ e. out) (earning_of P c d out) (marked_bytes (earns P c d) (length (entries_of c)) out)
