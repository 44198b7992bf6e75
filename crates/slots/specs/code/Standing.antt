-- What stands in the lent tables after each answer.
-- Assumes nothing.
use Rattle.std.specs.Prelude.{◌<◌, min, ℕ, length, false, List, map, ◌≡◌, Ok, Err, None, Some}
use Rattle.base.specs.Stores.{stored}
use Rattle.blocks.specs.Reading.{reading_of, Reading}
use Rattle.blocks.specs.Refusals.{unless_refused, refused}
use Rattle.blocks.specs.declared.Schema.TheVariants.{Description}
use Rattle.logic.specs.Background.{Background}
use Rattle.pairs.specs.Pairs.{pairs_reading, under}
use Rattle.pairs.specs.Promise.{ListRead}
use Rattle.passes.specs.code.Slots.{inconsistent, nonempty, settled}
use Rattle.slots.specs.Holding.{Holding, holding_under, where_room}
use Rattle.slots.specs.code.Tables.{Settled, Tabled, marks_from, slot_word, slots_of}
use Rattle.blocks.specs.declared.Cause.TheVariants.{Room}

-- ---- filling

-- how many numbers each of three tables has
abbrev pub room_in : List ℕ → List ℕ → List ℕ → ℕ
room_in t bad full = min (length t) (min (length bad) (length full))

-- how many slots there are; or the refusal; or 7
unfoldable pub slotting_under : Background → ℕ → List ℕ → Reading
slotting_under b room d = unless_refused Err (reading_of Description 1 d) (where_room room d (refused Room 0 0) (Ok (length (slots_of b d))))

-- a table that is written where the input is accepted and there is room, and else stays
abbrev pub filled_in : ℕ → List ℕ → List ℕ → List ℕ → List ℕ
filled_in room d old new = unless_refused (λ e. old) (reading_of Description 1 d) (where_room room d old new)

-- the settled slots from number 1 on; all other numbers stay
unfoldable pub slots_stored : Background → List ℕ → List ℕ → List ℕ
slots_stored b d t = stored t 1 (map slot_word (settled 1 (slots_of b d)))

unfoldable pub table_under : Background → ℕ → List ℕ → List ℕ → List ℕ
table_under b room d t = filled_in room d t (slots_stored b d t)

-- which places are impossible
unfoldable pub bad_under : Background → ℕ → List ℕ → List ℕ → List ℕ
bad_under b room d bad = filled_in room d bad (marks_from (inconsistent 1 (slots_of b d)) 0 (length bad))

-- which places are not empty
unfoldable pub full_under : Background → ℕ → List ℕ → List ℕ → List ℕ
full_under b room d full = filled_in room d full (marks_from (nonempty 1 (settled 1 (slots_of b d))) 0 (length full))

-- the input is accepted, and its slots stand in the tables, settled
pub record Standing (b : Background) (d : List ℕ) (used : ℕ) (t bad full : List ℕ) : Type 0 where
  pub total : ℕ
  pub read : reading_of Description 1 d ≡ Ok total
  pub slots-settled : Settled b d used t bad full

-- by the answer: they stand there; or the input is refused, if there is room for any
abbrev pub FilledUnder : Background → ℕ → List ℕ → List ℕ → List ℕ → List ℕ → Reading → Type 0
FilledUnder b room d t bad full (Ok used) = Standing b d used t bad full
FilledUnder b room d t bad full (Err e) = 1008 < room → reading_of Description 1 d ≡ Err e

-- all that filling does, with the tables before and after
abbrev pub Fills : Background → List ℕ → List ℕ → List ℕ → List ℕ → Reading → List ℕ → List ℕ → List ℕ → Type 0
Fills b d t bad full r t' bad' full' =
    (r ≡ slotting_under b (room_in t bad full) d) × (t' ≡ table_under b (room_in t bad full) d t) × (bad' ≡ bad_under b (room_in t bad full) d bad)
    × (full' ≡ full_under b (room_in t bad full) d full) × FilledUnder b (room_in t bad full) d t' bad' full' r

-- [R25] 11 before all else: the same under a list of pairs
unfoldable pub slotting_of : List ℕ → ℕ → List ℕ → Reading
slotting_of P room d = unless_refused Err (pairs_reading P) (slotting_under (under P) room d)

unfoldable pub table_after : List ℕ → ℕ → List ℕ → List ℕ → List ℕ
table_after P room d t = unless_refused (λ e. t) (pairs_reading P) (table_under (under P) room d t)

unfoldable pub bad_after : List ℕ → ℕ → List ℕ → List ℕ → List ℕ
bad_after P room d bad = unless_refused (λ e. bad) (pairs_reading P) (bad_under (under P) room d bad)

unfoldable pub full_after : List ℕ → ℕ → List ℕ → List ℕ → List ℕ
full_after P room d full = unless_refused (λ e. full) (pairs_reading P) (full_under (under P) room d full)

-- what reading the list and then the first description answers
abbrev pub first_reading : List ℕ → List ℕ → Reading
first_reading P d = unless_refused Err (pairs_reading P) (reading_of Description 1 d)

abbrev pub FilledBy : List ℕ → ℕ → List ℕ → List ℕ → List ℕ → List ℕ → Reading → Type 0
FilledBy P room d t bad full (Ok used) = ListRead P × Standing (under P) d used t bad full
FilledBy P room d t bad full (Err e) = 1008 < room → first_reading P d ≡ Err e

-- ---- judging

-- the settled slots of c, where both inputs are accepted and there is room; else the table stays
unfoldable pub judged_under : Background → List ℕ → List ℕ → List ℕ → List ℕ
judged_under b c d t =
    unless_refused (λ e. t) (reading_of Description 1 c) (unless_refused (λ e. t) (reading_of Description 2 d)
    (where_room (length t) c t (slots_stored b c t)))

-- both inputs are accepted
pub record BothRead (c d : List ℕ) : Type 0 where
  pub first : ℕ
  pub second : ℕ
  pub first_read : reading_of Description 1 c ≡ Ok first
  pub second-read : reading_of Description 2 d ≡ Ok second

-- the slots of c stand in the table, settled, and their top is possible
pub record Judged (b : Background) (c d : List ℕ) (used : ℕ) (t : List ℕ) : Type 0 where
  pub read : BothRead c d
  pub tabled : Tabled b c used t
  pub possible : inconsistent 1 (slots_of b c) 0 ≡ false

-- by the answer: they stand there where an entry fails
abbrev pub FailedUnder : Background → List ℕ → List ℕ → List ℕ → Holding → Type 0
FailedUnder b c d t (Ok None) = Unit {0}
FailedUnder b c d t (Ok (Some f)) = Judged b c d f.used t
FailedUnder b c d t (Err e) = Unit {0}

-- all that judging does, with the table before and after
abbrev pub Judges : Background → List ℕ → List ℕ → List ℕ → Holding → List ℕ → Type 0
Judges b c d t r t' = (r ≡ holding_under b (length t) c d) × (t' ≡ judged_under b c d t) × FailedUnder b c d t' r

-- the same under a list of pairs, which leaves the table where it is refused
unfoldable pub table_judged : List ℕ → List ℕ → List ℕ → List ℕ → List ℕ
table_judged P c d t = unless_refused (λ e. t) (pairs_reading P) (judged_under (under P) c d t)

abbrev pub JudgedBy : List ℕ → List ℕ → List ℕ → List ℕ → Holding → Type 0
JudgedBy P c d t r = FailedUnder (under P) c d t r
