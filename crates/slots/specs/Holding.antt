-- Which entries of a second description a normal form holds: the answer.
-- Assumes nothing.
use Rattle.std.specs.Prelude.{ℕ, eqb, ltb, length, Bool, cond, false, true, List, None, Option, Some, Result, Ok, Err}
use Rattle.std.proofs.Math.Option as math
use Rattle.blocks.specs.Entries.{entries_of}
use Rattle.blocks.specs.Reading.{reading_of}
use Rattle.blocks.specs.Refusals.{number_of, refused, unless_refused}
use Rattle.blocks.specs.declared.Schema.TheVariants.{Description}
use Rattle.logic.specs.Background.{Background}
use Rattle.meaning.specs.Failing.{failing}
use Rattle.pairs.specs.Pairs.{pairs_reading, under}
use Rattle.slots.specs.code.Tables.{slots_of}
use Rattle.blocks.specs.declared.Refusal.{Refusal}
use Rattle.slots.specs.declared.Unheld.{Unheld}
use Rattle.blocks.specs.declared.Cause.TheVariants.{Room}

-- the number of the first entry of d that the normal form of c does not hold, 0 where it holds all, for the records that keep a background
unfoldable pub failing_in : Background → List ℕ → List ℕ → ℕ
failing_in b c d = failing b (entries_of c) (entries_of d)

-- the answer where both are accepted, by the number of slots and that number: none fails, or one does
abbrev pub holding_by : ℕ → ℕ → Option Unheld
holding_by used n = cond (eqb n 0) None (Some (record { entry = n; used = used }))

abbrev pub Holding : Type 0
Holding = Result (Option Unheld) Refusal

-- A lent table has a number for each entry, after number 0. Where it has not, the answer is 7, [R23] at input 0, and
-- nothing is written.
abbrev pub where_room : {A : Type 0} → ℕ → List ℕ → A → A → A
where_room room d short a = cond (ltb (length (entries_of d)) room) a short

-- [R25] input 1, then input 2, then 7, with so many numbers in the lent table
unfoldable pub holding_under : Background → ℕ → List ℕ → List ℕ → Holding
holding_under b room c d =
    unless_refused Err (reading_of Description 1 c) (unless_refused Err (reading_of Description 2 d)
    (where_room room c (refused Room 0 0) (Ok (holding_by (length (slots_of b c)) (failing_in b c d)))))

-- [R25] 11 before all else: the same under a list of pairs
unfoldable pub holding_of : List ℕ → ℕ → List ℕ → List ℕ → Holding
holding_of P room c d = unless_refused Err (pairs_reading P) (holding_under (under P) room c d)

-- [K6] The numbers of each case: whether all hold, and neither where an input is refused; the number of the first
-- that fails; the number returned, the input and the place. 0 where a case has none.
pub record HoldingReturned : Type 0 where
  pub all : math.Option Bool
  pub entry : ℕ
  pub number : ℕ
  pub input : ℕ
  pub place : ℕ

abbrev pub holding_returned : Holding → HoldingReturned
holding_returned (Ok None) = record { all = math.some true; entry = 0; number = 0; input = 0; place = 0 }
holding_returned (Ok (Some f)) = record { all = math.some false; entry = f.entry; number = 0; input = 0; place = 0 }
holding_returned (Err e) = record { all = math.none; entry = 0; number = number_of e.cause; input = e.input; place = e.place }
