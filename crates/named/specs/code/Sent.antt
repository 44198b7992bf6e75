-- The refusals where no name can be given, by those of plain descriptions, and what is known of a list that is accepted.
-- Assumes nothing.
use Rattle.std.specs.Prelude.{ℕ, eqb, cond, List, ◌≡◌, Result, Ok, Err}
use Rattle.blocks.specs.Entries.{entry_of}
use Rattle.blocks.specs.Refusals.{refusal}
use Rattle.blocks.specs.declared.Cause.{Cause}
use Rattle.blocks.specs.declared.Refusal.{Refusal}
use Rattle.names.specs.NamedReading.{cause_at}
use Rattle.pairs.specs.Pairs.{pairs_reading}

-- why s is refused at a place
abbrev pub sent_at : List ℕ → ℕ → Cause → Cause
sent_at s p k = cause_at (entry_of s p p) k

-- a refusal, where s is input i
unfoldable pub sent_as : List ℕ → ℕ → Refusal → Refusal
sent_as s i e = cond (eqb e.input i) (refusal (sent_at s e.place e.cause) i e.place) e

-- and an answer
abbrev pub sent_by : {A : Type 0} → List ℕ → ℕ → Result A Refusal → Result A Refusal
sent_by s i (Err e) = Err (sent_as s i e)
sent_by s i (Ok a) = Ok a

-- a list of pairs is accepted
pub record ListTaken (P : List ℕ) : Type 0 where
  pub count : ℕ
  pub taken : pairs_reading P ≡ Ok count
