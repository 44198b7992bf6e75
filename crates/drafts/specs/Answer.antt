-- What each call on counters and memory answers, and what it leaves.
-- Assumes nothing.
use Rattle.std.specs.Prelude.{ℕ, zero, suc, ◌+◌, ◌-◌, ◌*◌, cond, max, ◌==◌, nat_lt, List, ◌++◌, drop, length, get_or, set, Ok}
use Rattle.std.specs.List.{copy_within}
use Rattle.base.specs.Stores.{stored}
use Rattle.blocks.specs.Encoding.{blocks_for, encode}
use Rattle.blocks.specs.Entries.{entry_bytes}
use Rattle.blocks.specs.Frame.{plain}
use Rattle.blocks.specs.Reading.{Reading}
use Rattle.blocks.specs.Refusals.{refused, unless_refused}
use Rattle.blocks.specs.declared.Cause.TheVariants as cause
use Rattle.drafts.specs.declared.Call.TheVariants as call
use Rattle.drafts.specs.declared.Call.{Call}
use Rattle.drafts.specs.Draft.{answered}
use Rattle.drafts.specs.Memory.{area, held_in}
use Rattle.drafts.specs.Sound.{memory_size, sound}
use Rattle.drafts.specs.declared.Desk.{Desk}

-- [R20] 20 comes first: a desk that no list of calls gives, or memory below its fixed size
abbrev pub no_desk : Reading
no_desk = refused cause.Desk 1 0

-- [O8] else what the call answers of what is held
unfoldable pub desk_answer : Desk → List ℕ → Call → Reading
desk_answer d m c = cond (sound d m) (answered (held_in d m) c) no_desk

-- ---- what is left where a call is not refused

-- the place of number s among the stands from j on, of so many; where none has it, the place behind them
unfoldable pub place_of : ℕ → List ℕ → ℕ → ℕ → ℕ
place_of s names j zero = j
place_of s names j (suc left) = cond (s == get_or names j 0) j (place_of s names (suc j) left)

abbrev pub place_in : Desk → ℕ → ℕ
place_in d s = place_of s d.names 0 d.stands

-- numbers without that of a place: later ones move down, and the last is 0
unfoldable pub closed_up : List ℕ → ℕ → List ℕ
closed_up xs i = set (copy_within xs (i + 1) 4 i) 3 0

-- [O10] the counters
unfoldable pub counters_moved : Desk → Call → Desk
counters_moved d (call.Add e) = record { count = d.count + 1; stands = d.stands; names = d.names; counts = d.counts }
counters_moved d call.TakeOff = record { count = d.count - 1; stands = d.stands; names = d.names; counts = d.counts }
counters_moved d (call.Name s) = record { count = d.count; stands = max d.stands (place_in d s + 1); names = set d.names (place_in d s) s; counts = set d.counts (place_in d s) d.count }
counters_moved d (call.GoBack s) = record { count = get_or d.counts (place_in d s) 0; stands = d.stands; names = d.names; counts = d.counts }
counters_moved d (call.Drop s) = record { count = d.count; stands = d.stands - 1; names = closed_up d.names (place_in d s); counts = closed_up d.counts (place_in d s) }

-- [O10] the memory: the bytes of an entry stored behind the last; the description's entries copied to a stand's area,
-- or a stand's to the description's; later areas moved down by one
unfoldable pub memory_moved : Desk → List ℕ → Call → List ℕ
memory_moved d m (call.Add e) = stored m (8 * d.count) (entry_bytes e)
memory_moved d m call.TakeOff = m
memory_moved d m (call.Name s) = copy_within m 0 (8 * d.count) (area (place_in d s))
memory_moved d m (call.GoBack s) = copy_within m (area (place_in d s)) (area (place_in d s) + 8 * get_or d.counts (place_in d s) 0) 0
memory_moved d m (call.Drop s) = copy_within m (area (place_in d s + 1)) memory_size (area (place_in d s))

-- ---- what is left after any call

-- [O8] a refused call alters no counter and no byte
unfoldable pub counters_after : Desk → List ℕ → Call → Desk
counters_after d m c = unless_refused (λ e. d) (desk_answer d m c) (counters_moved d c)

unfoldable pub memory_after : Desk → List ℕ → Call → List ℕ
memory_after d m c = unless_refused (λ e. m) (desk_answer d m c) (memory_moved d m c)

-- ---- writing out

-- [O7] after 20, 7 where the output is too short for the blocks of the description; else how many entries are written
unfoldable pub write_answer : Desk → List ℕ → List ℕ → Reading
write_answer d m out =
    cond (sound d m) (cond (nat_lt (length out) (512 * blocks_for plain d.count)) (refused cause.Room 0 0) (Ok d.count)) no_desk

-- the description's entries as blocks; later bytes stay
unfoldable pub output_after : Desk → List ℕ → List ℕ → List ℕ
output_after d m out =
    unless_refused (λ e. out) (write_answer d m out) (encode (held_in d m).draft ++ drop (512 * blocks_for plain (length (held_in d m).draft)) out)
