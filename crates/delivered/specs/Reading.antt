-- What reading a delivered record answers.
-- Assumes nothing.
use Rattle.std.specs.Prelude.{ℕ, ◌-◌, Bool, not, cond, ◌&&◌, ◌||◌, List, [], ◌∷◌, ◌++◌, length, eqb, leb, ltb, Err}
use Rattle.base.specs.Links.{is_single}
use Rattle.blocks.specs.Entries.{entries_of, nth}
use Rattle.blocks.specs.Faults.{Fault, fault, first, frame_faults, rows_from}
use Rattle.blocks.specs.Frame.{plain, total_in}
use Rattle.blocks.specs.Reading.{answer, Reading}
use Rattle.blocks.specs.Refusals.{unless_refused}
use Rattle.blocks.specs.declared.Cause.TheVariants.{Double, Form, Item}
use Rattle.blocks.specs.declared.Entry.{Entry}
use Rattle.clashes.specs.Clash.{clash_rows, one_of_first}
use Rattle.pairs.specs.Pairs.{pairs_reading}

-- ---- one entry

-- the contrary of [R4] for an entry of a delivered record: kind 1 with number 0, or kind 8 [J1], and a name
unfoldable pub form_ok : Entry → Bool
form_ok e = eqb e.reserved 0 && (ltb 0 e.name && cond (eqb e.kind 1) (eqb e.number 0) (eqb e.kind 8))

-- a number of an item [J2]
abbrev pub is_item : ℕ → ℕ → Bool
is_item total x = ltb 0 x && leb x total

-- the contrary of [R10]: the owner is an item, and so is what it is linked to
unfoldable pub items_ok : ℕ → Entry → Bool
items_ok total e = is_item total e.owner && (not (eqb e.kind 8) || is_item total e.number)

-- ---- entries before it

-- an entry links by a link that leads to one item only [S1]
abbrev pub single_link : Entry → Bool
single_link e = eqb e.kind 8 && is_single e.name

-- entry k links the owner of e by the same link, to another item
abbrev pub to_another : Entry → Entry → Bool
to_another e k = eqb k.kind 8 && (eqb k.owner e.owner && (eqb k.name e.name && not (eqb k.number e.number)))

-- [R9] in a delivered record: entry n links by such a link, and an earlier entry links its owner by the same to another
-- item; [J3] to the same item again is none
unfoldable pub another : List Entry → ℕ → Bool
another es n = single_link (nth es n) && one_of_first (to_another (nth es n)) es (n - 1)

-- ---- the whole

-- the lines of entry n: [J5] form, then item numbers, then a second item by a single link; neither owners nor depths are
-- looked at, since links may go round
abbrev pub delivered_rows : ℕ → List Entry → ℕ → List Fault
delivered_rows total es n =
    fault (not (form_ok (nth es n))) Form n ∷ fault (not (items_ok total (nth es n))) Item n ∷ fault (another es n) Double n ∷ []

-- [R10] how many items a record may have
abbrev pub total_wrong : ℕ → Bool
total_wrong total = eqb total 0 || ltb 256 total

-- [J1] a record has 1 to 32 blocks
abbrev pub most_blocks : ℕ
most_blocks = 32

-- [J5] the total, the length, the lowest block, the lowest entry by its lines, and then [R12] the lowest entry that
-- completes a pair
unfoldable pub delivered_faults : List ℕ → ℕ → List ℕ → List Fault
delivered_faults P total s =
    fault (total_wrong total) Item 0 ∷ (frame_faults plain most_blocks s ++
    (rows_from (delivered_rows total (entries_of s)) 1 (length (entries_of s)) ++
    rows_from (clash_rows P (entries_of s)) 1 (length (entries_of s))))

-- Reading a delivered record as input 1 under a list of pairs: [R25] 11 before all else, then the first line that applies
unfoldable pub delivered_reading : List ℕ → ℕ → List ℕ → Reading
delivered_reading P total s =
    unless_refused Err (pairs_reading P) (answer 1 (total_in plain s) (first (delivered_faults P total s)))
