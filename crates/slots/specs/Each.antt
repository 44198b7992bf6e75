-- Which entries of a second description a normal form does not hold, each by itself: the answer, and a byte for each.
-- Assumes nothing.
use Rattle.std.specs.Prelude.{ℕ, eqb, length, not, List, Result, Ok, Err}
use Rattle.base.proofs.Lists.{listed}
use Rattle.base.specs.Range.{bit}
use Rattle.base.specs.Stores.{stored}
use Rattle.blocks.specs.Entries.{entries_of}
use Rattle.blocks.specs.Reading.{reading_of}
use Rattle.blocks.specs.Refusals.{unless_refused}
use Rattle.blocks.specs.declared.Refusal.{Refusal}
use Rattle.blocks.specs.declared.Schema.TheVariants.{Description}
use Rattle.logic.specs.Background.{Background}
use Rattle.meaning.specs.Failing.{normal_of}
use Rattle.meaning.specs.First.{entry_holds}
use Rattle.pairs.specs.Pairs.{pairs_reading, under}
use Rattle.slots.specs.Holding.{failing_in}
use Rattle.slots.specs.declared.Judgement.{Judgement}

-- a byte for each entry of d: 1 where the normal form of c does not hold it, else 0
unfoldable pub failing_bytes : Background → List ℕ → List ℕ → List ℕ
failing_bytes b c d = listed (λ n. bit (not (entry_holds b (normal_of b (entries_of c)) (entries_of d) n))) 1 (length (entries_of d))

-- the pairs, input 1, input 2; else how many entries d has, and whether all of them hold
unfoldable pub each_of : List ℕ → List ℕ → List ℕ → Result Judgement Refusal
each_of P c d =
    unless_refused Err (pairs_reading P) (unless_refused Err (reading_of Description 1 c) (unless_refused Err (reading_of Description 2 d)
    (Ok (record { entries = length (entries_of d); contained = eqb (failing_in (under P) c d) 0 }))))

-- a table whose first bytes are these; where anything is refused it stays
unfoldable pub each_after : List ℕ → List ℕ → List ℕ → List ℕ → List ℕ
each_after P c d t = unless_refused (λ e. t) (each_of P c d) (stored t 0 (failing_bytes (under P) c d))
