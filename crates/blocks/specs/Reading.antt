-- What reading an input answers.
-- Assumes nothing.
use Rattle.std.specs.Prelude.{ℕ, List, Result, Ok, Err}
use Rattle.blocks.specs.Frame.{plain, total_in}
use Rattle.blocks.specs.Faults.{Finding, Clean, Faulty, faults, first}
use Rattle.blocks.specs.Refusals.{number_of, refused}
use Rattle.blocks.specs.declared.Refusal.{Refusal}
use Rattle.blocks.specs.declared.Schema.{Schema}

-- the answer for input i, which is `a` unless its first fault refuses it
abbrev pub answer : {A : Type 0} → ℕ → A → Finding → Result A Refusal
answer i a Clean = Ok a
answer i a (Faulty k p) = refused k i p

-- [R26] accepted where none of 1 to 6 refuses: reading s as input i, its number of entries or a refusal
abbrev pub Reading : Type 0
Reading = Result ℕ Refusal

unfoldable pub reading_of : Schema → ℕ → List ℕ → Reading
reading_of σ i s = answer i (total_in plain s) (first (faults σ s))

-- [K6] The numbers of each case: the number returned, 0 where nothing is refused, the input, the place, and the
-- entries of an accepted input.
pub record Returned : Type 0 where
  pub number : ℕ
  pub input : ℕ
  pub place : ℕ
  pub entries : ℕ

abbrev pub returned : Reading → Returned
returned (Ok total) = record { number = 0; input = 0; place = 0; entries = total }
returned (Err e) = record { number = number_of e.cause; input = e.input; place = e.place; entries = 0 }

-- how many entries an input has when it is read: its total where it is accepted, 0 where it is refused
unfoldable pub total_read : Schema → List ℕ → ℕ
total_read σ s = (returned (reading_of σ 1 s)).entries
