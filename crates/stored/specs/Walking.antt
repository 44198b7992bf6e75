-- A stored input: the lines by which it is refused, and the owners of its entries.
-- Assumes nothing.
use Rattle.std.specs.Prelude.{ℕ, zero, suc, ◌-◌, Bool, cond, not, ◌&&◌, ◌||◌, List, [], ◌∷◌, ◌++◌, length, ◌==◌, nat_le, nat_lt}
use Rattle.base.proofs.Lists.{listed}
use Rattle.blocks.specs.Entries.{form_ok}
use Rattle.blocks.specs.Faults.{Fault, fault, first, frame_faults, rows_from}
use Rattle.blocks.specs.Frame.{stored_frame, total_in}
use Rattle.blocks.specs.Reading.{Reading, answer}
use Rattle.blocks.specs.declared.Cause.TheVariants.{Depth, Form, Walking}
use Rattle.blocks.specs.declared.Entry.{Entry}
use Rattle.blocks.specs.declared.Schema.TheVariants.{Description}
use Rattle.stored.specs.Stored.{owned_entry, stored_entries, stored_nth}
use Rattle.stored.specs.declared.StoredEntry.{StoredEntry}

-- [T3] the nearest of the first n entries, from the last back, that is less deep than d: its number, 0 where none is
unfoldable pub nearest : List StoredEntry → ℕ → ℕ → ℕ
nearest xs d zero = 0
nearest xs d (suc k) = cond (nat_lt (stored_nth xs (suc k)).depth d) (suc k) (nearest xs d k)

-- [T3] the owner of entry n: the nearest earlier entry of lesser depth; at depth 0 there is none, and the top owns it
unfoldable pub stored_owner : List StoredEntry → ℕ → ℕ
stored_owner xs n = nearest xs (stored_nth xs n).depth (n - 1)

-- it is an 'every' of depth d - 1
abbrev pub may_own : StoredEntry → ℕ → Bool
may_own y d = y.kind == 5 && suc y.depth == d

-- the contrary of [R15]: the depth of entry n is 0, or the nearest earlier entry of lesser depth may own it
unfoldable pub walking_ok : List StoredEntry → ℕ → Bool
walking_ok xs n = (stored_nth xs n).depth == 0 || may_own (stored_nth xs (stored_owner xs n)) (stored_nth xs n).depth

-- [T4] the lines of entry n, in their order: [R4] form, [R15] walking, [R6] depth
abbrev pub stored_rows : List StoredEntry → ℕ → List Fault
stored_rows xs n =
    fault (not (form_ok Description (owned_entry 0 (stored_nth xs n)))) Form n
    ∷ fault (not (walking_ok xs n)) Walking n
    ∷ fault (not (nat_le (stored_nth xs n).depth 32)) Depth n
    ∷ []

-- [T4] number 1, of more than 12 blocks; then the lowest block that breaks 2 or 3; then the lowest entry that breaks
-- 4, 15 or 6
unfoldable pub stored_faults : List ℕ → List Fault
stored_faults s =
    frame_faults stored_frame 12 s ++ rows_from (stored_rows (stored_entries s)) 1 (length (stored_entries s))

-- reading s in the stored form, as input 1: its number of entries or a refusal
unfoldable pub stored_reading : List ℕ → Reading
stored_reading s = answer 1 (total_in stored_frame s) (first (stored_faults s))

-- [T3] the entries of a description that stored ones are, in the same order
unfoldable pub restored : List StoredEntry → List Entry
restored xs = listed (λ n. owned_entry (stored_owner xs n) (stored_nth xs n)) 1 (length xs)
