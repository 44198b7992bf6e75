-- Slots as numbers of 64 bits in a table, as the code keeps them. No public promise names these.
-- Assumes nothing.
use Rattle.std.specs.Prelude.{◌%◌, ◌*◌, ◌+◌, ◌-◌, ◌/◌, ◌<◌, ◌≤◌, ◌≢◌, max, suc, zero, ℕ, eqb, ltb, drop, get_or, length, set, Bool, ◌&&◌, ◌||◌, cond, false, not, true, List, [], ◌∷◌, map, ◌≡◌}
use Rattle.std.proofs.Math.Option.{Option, none, some}
use Rattle.base.specs.Range.{bit}
use Rattle.base.specs.Chain.{last_where}
use Rattle.base.specs.Ways.{Ends, Passed, Planted, by_quotient}
use Rattle.blocks.specs.Entries.{Bounded, entries_of, nth}
use Rattle.blocks.specs.code.Blockwise.{Whole}
use Rattle.blocks.specs.declared.Entry.{Entry}
use Rattle.logic.specs.Background.{Background}
use Rattle.logic.specs.Normal.{found}
use Rattle.meaning.specs.Description.{row_of}
use Rattle.meaning.specs.Owned.{Owned}
use Rattle.passes.specs.code.Keys.{key_number}
use Rattle.pairs.specs.Pairs.{under}
use Rattle.passes.specs.code.Restrict.{excluded_at, slots_under}
use Rattle.passes.specs.code.Slots.{Slot, broken, build, inconsistent, nonempty, position, settled, slot, slots, tighten}

-- the number that stands for no upper bound: no bound of an entry is as large
abbrev pub no_bound : ℕ
no_bound = 65536

-- an upper bound as a number
abbrev pub high_number : Option ℕ → ℕ
high_number none = no_bound
high_number (some h) = h

abbrev pub high_in : ℕ → Option ℕ
high_in h = cond (ltb h no_bound) (some h) none

-- a slot as a number: its key, then its two bounds
unfoldable pub slot_number : ℕ → ℕ → ℕ → ℕ
slot_number key lo hi = 17179869184 * key + (131072 * lo + hi)

unfoldable pub key_in : ℕ → ℕ
key_in x = x / 17179869184

unfoldable pub low_part : ℕ → ℕ
low_part x = x / 131072 % 131072

unfoldable pub high_part : ℕ → ℕ
high_part x = x % 131072

abbrev pub slot_word : Slot → ℕ
slot_word (slot v b n lo hi) = slot_number (key_number v b n) lo (high_number hi)

unfoldable pub slot_in : ℕ → Slot
slot_in x = slot (key_in x / 131072) (eqb (key_in x / 65536 % 2) 1) (key_in x % 65536) (low_part x) (high_in (high_part x))

-- n slots of a table, from slot i on; slots count from 1
unfoldable pub slots_from : List ℕ → ℕ → ℕ → List Slot
slots_from t i zero = []
slots_from t i (suc n) = slot_in (get_or t i 0) ∷ slots_from t (suc i) n

abbrev pub slots_in : List ℕ → ℕ → List Slot
slots_in t used = slots_from t 1 used

-- the marks of n places from place v on: 1 where the test holds, else 0
unfoldable pub marks_from : (ℕ → Bool) → ℕ → ℕ → List ℕ
marks_from f v zero = []
marks_from f v (suc n) = bit (f v) ∷ marks_from f (suc v) n

-- what the passes are told of an accepted description: how many entries it has, that they are few, that each has its owner, and that
-- their blocks are all there
abbrev pub Readable : List ℕ → ℕ → Type 0
Readable d n = (n ≡ length (entries_of d)) × (n ≤ 1008) × Owned (entries_of d) × Whole d n

-- a table that has a number k and reads 0 everywhere
pub record Blank (k : ℕ) (l : List ℕ) : Type 0 where
  pub room : k < length l
  pub zero' : (j : ℕ) → get_or l j 0 ≡ 0

-- what the passes over n entries need beside the table of slots: blank cells, `most` of them for searches to begin in and two more for each
-- slot, and a blank number for each entry
pub record Cleared (n most : ℕ) (cells node : List ℕ) : Type 0 where
  pub wide : 251 ≤ most
  pub narrow : most ≤ 4093
  pub inside : most + 2 * n + 2 ≤ length cells
  pub small : length cells ≤ 8192
  pub zero' : (c : ℕ) → get_or cells c 0 ≡ 0
  pub nodes : Blank n node

-- a table that was `origin` before its slots were written: they have upper bounds of at most `no_bound`, and all other numbers stay
pub record Exact (origin t : List ℕ) (used : ℕ) : Type 0 where
  pub size : length t ≡ length origin
  pub high : (j : ℕ) → 1 ≤ j → j ≤ used → high_part (get_or t j 0) ≤ no_bound
  pub top : get_or t 0 0 ≡ get_or origin 0 0
  pub rest : (j : ℕ) → used < j → get_or t j 0 ≡ get_or origin j 0

-- the keys of a table
abbrev pub keys_of : List ℕ → ℕ → ℕ
keys_of t j = key_in (get_or t j 0)

-- A table of so many slots, no two of one key, each in a cell on the way of its key. Keys have 30 bits and their quotients 23, so that a search
-- looks at 24 cells at most, whatever names were chosen.
pub record Kept (t : List ℕ) (most : ℕ) (cells : List ℕ) (used : ℕ) : Type 0 where
  pub room : used < length t
  pub wide : 251 ≤ most
  pub narrow : most ≤ 4093
  pub small : length cells ≤ 8192
  pub keys : (j : ℕ) → 1 ≤ j → j ≤ used → keys_of t j < 1073741824
  pub planted : Planted (keys_of t) (by_quotient most) cells used
  pub apart : (i j : ℕ) → 1 ≤ i → i < j → j ≤ used → eqb (key_in (get_or t i 0)) (key_in (get_or t j 0)) ≡ false

-- what a search needs of such a table: its cells are there, and where it ends is the slot of its key, if there is one
pub record Searchable (t : List ℕ) (most : ℕ) (cells : List ℕ) (used : ℕ) : Type 0 where
  pub room : used < length t
  pub wide : 251 ≤ most
  pub narrow : most ≤ 4093
  pub small : length cells ≤ 8192
  pub low : (c : ℕ) → get_or cells c 0 ≤ used
  pub inside : (x turns c : ℕ) → Passed (keys_of t) cells (by_quotient most) x turns c → c < length cells
  pub last : (x c : ℕ) → x < 1073741824 → Passed (keys_of t) cells (by_quotient most) x 23 c → get_or cells c 0 ≢ 0 → keys_of t (get_or cells c 0) ≡ x
  pub at : (x c : ℕ) → Ends (keys_of t) cells (by_quotient most) 23 x c → get_or cells c 0 ≡ last_where (keys_of t) x used
  pub apart : (i j : ℕ) → 1 ≤ i → i < j → j ≤ used → eqb (key_in (get_or t i 0)) (key_in (get_or t j 0)) ≡ false

-- ---- the slot of an entry, by its kind number

-- its name is a link's
unfoldable pub link_kind : ℕ → Bool
link_kind k = cond (eqb k 3) true (cond (eqb k 4) true (eqb k 5))

-- at least so many
unfoldable pub low_kind : ℕ → ℕ → ℕ
low_kind k m = cond (eqb k 1) 1 (cond (eqb k 2) 0 (cond (eqb k 3) m (cond (eqb k 4) 0 (cond (eqb k 5) 0 1))))

-- at most so many
unfoldable pub high_kind : ℕ → ℕ → ℕ
high_kind k m = cond (eqb k 1) no_bound (cond (eqb k 2) 0 (cond (eqb k 3) no_bound (cond (eqb k 4) m (cond (eqb k 5) no_bound 0))))

-- both as one number, as they stand in a slot: the entry's number times one constant of its kind, and another on top
unfoldable pub bounds_times : ℕ → ℕ
bounds_times k = cond (eqb k 3) 131072 (cond (eqb k 4) 1 0)

unfoldable pub bounds_base : ℕ → ℕ
bounds_base k = cond (eqb k 1) 196608 (cond (eqb k 2) 0 (cond (eqb k 3) 65536 (cond (eqb k 4) 0 (cond (eqb k 5) 65536 131072))))

-- where the entries before entry n lead: the top to 0, an 'every' to its slot
unfoldable pub leads_to : List Entry → List ℕ → ℕ → ℕ → Option ℕ
leads_to es node n j = cond (eqb j 0 || (ltb j n && eqb (nth es j).kind 5)) (some (get_or node j 0)) none

-- what entering a place, class and name with two bounds does: slot r has them now
pub record Entered (t : List ℕ) (most : ℕ) (cells : List ℕ) (used v : ℕ) (b : Bool) (n lo hi r : ℕ) (t' cells' : List ℕ) : Type 0 where
  pub at : r ≡ position 1 (slots_in t used) v b n
  pub from : 1 ≤ r
  pub tightened : slots_in t' (max used r) ≡ tighten (slots_in t used) v b n lo (high_in hi)
  pub kept : Kept t' most cells' (max used r)
  pub sized : length cells' ≡ length cells
  pub exact : (origin : List ℕ) → Exact origin t used → Exact origin t' (max used r)

-- where entries lead to, as far as `used` slots
pub record Nodes (node : List ℕ) (used : ℕ) : Type 0 where
  pub top : get_or node 0 0 ≡ 0
  pub small : (j : ℕ) → get_or node j 0 ≤ used

-- the slots of a description, as they are built, and under a background
abbrev pub built_slots : List ℕ → List Slot
built_slots d = slots (map row_of (entries_of d))

abbrev pub slots_of : Background → List ℕ → List Slot
slots_of b d = slots_under b (map row_of (entries_of d))

-- the first n entries are entered, and the slots so far with those of the entries left are all of them; the tables have room for these
pub record Building (d : List ℕ) (n used : ℕ) (t : List ℕ) (most : ℕ) (cells node : List ℕ) : Type 0 where
  pub few : used ≤ n
  pub kept : Kept t most cells used
  pub nodes : Nodes node used
  pub slotted : built_slots d ≡ build (leads_to (entries_of d) node (suc n)) (slots_in t used) (suc n) (drop n (map row_of (entries_of d)))
  pub bounded : (j : ℕ) → 1 ≤ j → j ≤ n → Bounded (nth (entries_of d) j)
  pub room : length (entries_of d) < length t
  pub inside : most + 2 * length (entries_of d) + 2 ≤ length cells
  pub places : length (entries_of d) < length node

-- the slots ss, made of d, stand in the table, which was `origin` before
pub record Built (ss : List Slot) (d : List ℕ) (used : ℕ) (origin t : List ℕ) (most : ℕ) (cells : List ℕ) : Type 0 where
  pub slotted : ss ≡ slots_in t used
  pub exact : Exact origin t used
  pub kept : Kept t most cells used
  pub few : used ≤ length (entries_of d)
  pub bounded : (n : ℕ) → 1 ≤ n → n ≤ length (entries_of d) → Bounded (nth (entries_of d) n)

-- ---- the pass between the first and the second, under what every record keeps

-- the upper bound of a link that leads to one item: nothing meets it where more are asked for, and none where one or more are allowed
unfoldable pub single_high : ℕ → ℕ → ℕ
single_high lo hi = cond (ltb 1 lo || eqb hi 0) 0 no_bound

-- a link's slot under the rule: those from 32,768 up change
unfoldable pub link_word : ℕ → ℕ
link_word x = cond (ltb (key_in x % 131072) 98304) x (slot_number (key_in x) (low_part x) (single_high (low_part x) (high_part x)))

-- the upper bound of a property that is excluded: nothing meets it where the place has it, and none otherwise, since its lack is implied
unfoldable pub excluded_high : ℕ → ℕ
excluded_high lo = cond (eqb lo 0) no_bound 0

-- a property's slot, by whether it is excluded at its place
unfoldable pub property_word : Bool → ℕ → ℕ
property_word out x = cond out (slot_number (key_in x) (low_part x) (excluded_high (low_part x))) x

-- a slot under a list of pairs
unfoldable pub restricted_word : Bool → ℕ → ℕ
restricted_word out x = cond (ltb (key_in x % 131072) 65536) (property_word out x) (link_word x)

-- the name of a slot is excluded at its place, by the slots of a table
abbrev pub excluded_slot : List ℕ → List ℕ → ℕ → ℕ → Bool
excluded_slot P t used x = excluded_at (under P) (slots_in t used) (key_in x / 131072) (key_in x % 65536)

-- the slots up to slot s are under a list of pairs; `origin` is the table before the pass
pub record Restricted (P origin : List ℕ) (used s : ℕ) (t : List ℕ) : Type 0 where
  pub size : length t ≡ length origin
  pub changed : (j : ℕ) → 1 ≤ j → j ≤ s → get_or t j 0 ≡ restricted_word (excluded_slot P origin used (get_or origin j 0)) (get_or origin j 0)
  pub top : get_or t 0 0 ≡ get_or origin 0 0
  pub rest : (j : ℕ) → s < j → get_or t j 0 ≡ get_or origin j 0

-- ---- the second pass

-- each slot stands at a place of a lower number
pub record Placed (t : List ℕ) (used : ℕ) : Type 0 where
  pub lower : (j : ℕ) → 1 ≤ j → j ≤ used → key_in (get_or t j 0) / 131072 < j

-- the slots above slot s are settled, and `bad` and `full` are what they say of each place; `origin` is the table before the pass
pub record Settling (origin : List ℕ) (used s : ℕ) (t bad full : List ℕ) : Type 0 where
  pub size : length t ≡ length origin
  pub below : (j : ℕ) → j ≤ s → get_or t j 0 ≡ get_or origin j 0
  pub keys : (j : ℕ) → key_in (get_or t j 0) ≡ key_in (get_or origin j 0)
  pub highs : (j : ℕ) → high_part (get_or t j 0) ≤ high_part (get_or origin j 0)
  pub rest : (j : ℕ) → used < j → get_or t j 0 ≡ get_or origin j 0
  pub above : slots_from t (suc s) (used - s) ≡ settled (suc s) (slots_from origin (suc s) (used - s))
  pub bads : (v : ℕ) → get_or bad v 0 ≡ bit (inconsistent (suc s) (slots_from origin (suc s) (used - s)) v)
  pub fulls : (v : ℕ) → get_or full v 0 ≡ bit (nonempty (suc s) (settled (suc s) (slots_from origin (suc s) (used - s))) v)

-- what settling slot s does to the tables
abbrev pub closed_bound : List ℕ → List ℕ → ℕ → ℕ
closed_bound t bad s = cond (eqb (key_in (get_or t s 0) / 65536 % 2) 1 && not (eqb (get_or bad s 0) 0)) 0 (high_part (get_or t s 0))

pub record Slotted (t bad full : List ℕ) (s : ℕ) (t' bad' full' : List ℕ) : Type 0 where
  pub table : t' ≡ set t s (slot_number (key_in (get_or t s 0)) (low_part (get_or t s 0)) (closed_bound t bad s))
  pub badly : bad' ≡ cond (broken (eqb (key_in (get_or t s 0) / 65536 % 2) 1) (low_part (get_or t s 0)) (high_in (closed_bound t bad s))) (set bad (key_in (get_or t s 0) / 131072) 1) bad
  pub fully : full'
      ≡ cond (not (eqb (low_part (get_or t s 0)) 0) || (found (high_in (closed_bound t bad s)) || (eqb (key_in (get_or t s 0) / 65536 % 2) 1 && not (eqb (get_or full s 0) 0))))
      (set full (key_in (get_or t s 0) / 131072) 1) full

-- ---- what callers build on

-- the slots of a description under a background stand in the table, settled, each at a place of a lower number and with a key of its own
pub record Tabled (b : Background) (d : List ℕ) (used : ℕ) (t : List ℕ) : Type 0 where
  pub few : used ≤ 1008
  pub room : used < length t
  pub counted : used ≡ length (slots_of b d)
  pub slotted : slots_from t 1 used ≡ settled 1 (slots_of b d)
  pub apart : (i j : ℕ) → 1 ≤ i → i < j → j ≤ used → eqb (key_in (get_or t i 0)) (key_in (get_or t j 0)) ≡ false
  pub lower : (j : ℕ) → 1 ≤ j → j ≤ used → key_in (get_or t j 0) / 131072 < j
  pub bounded : (n : ℕ) → 1 ≤ n → n ≤ length (entries_of d) → Bounded (nth (entries_of d) n)

-- and `bad` and `full` are what they say of each place
pub record Settled (b : Background) (d : List ℕ) (used : ℕ) (t bad full : List ℕ) : Type 0 where
  pub tabled : Tabled b d used t
  pub bads : (v : ℕ) → get_or bad v 0 ≡ bit (inconsistent 1 (slots_of b d) v)
  pub fulls : (v : ℕ) → get_or full v 0 ≡ bit (nonempty 1 (settled 1 (slots_of b d)) v)

-- the same, with the cells that find them, in a table that was `origin` before
pub record Chained (b : Background) (d : List ℕ) (used : ℕ) (origin t : List ℕ) (most : ℕ) (cells bad full : List ℕ) : Type 0 where
  pub settled' : Settled b d used t bad full
  pub exact : Exact origin t used
  pub kept : Kept t most cells used

-- what judging by the slots of a description needs of them: they stand in the table, settled, in their cells, and it is known whether the
-- top is impossible
pub record Held (b : Background) (d : List ℕ) (used : ℕ) (t : List ℕ) (most : ℕ) (cells : List ℕ) (impossible : Bool) : Type 0 where
  pub kept : Searchable t most cells used
  pub tabled : Tabled b d used t
  pub top : impossible ≡ inconsistent 1 (slots_of b d) 0
