-- The slots of a description: what the fast normal form computes from its rows, pass by pass, on lists.
-- Assumes nothing.
use Rattle.std.specs.Prelude.{◌<◌, max, min, suc, ℕ, eqb, Bool, ◌&&◌, ◌||◌, cond, false, not, true, List, [], ◌∷◌, ◌≡◌}
use Rattle.std.proofs.Math.Option.{Option, none, some}
use Rattle.logic.specs.Normal.{found, under}
use Rattle.logic.specs.Place.{Atom, Kind, atom, has, lacks, least, most, nothing}
use Rattle.logic.specs.Tree.{Row, leaf_row, node_row}

-- A slot: the place where it stands, whether its name is a link's (else it is a property's), its name, the number of
-- items that there are at least, and the number that there are at most, if any. Slots count from 1. The place below a
-- link's slot has the slot's number, and the top is 0. A property has its slot too: having it is at least 1, lacking
-- it at most 0.
pub data Slot : Type 0 where
  slot : ℕ → Bool → ℕ → ℕ → Option ℕ → Slot

-- the place where a slot stands
abbrev pub stands_at : Slot → ℕ
stands_at (slot v b n lo hi) = v

-- its bounds
abbrev pub slot_low : Slot → ℕ
slot_low (slot v b n lo hi) = lo

abbrev pub slot_high : Slot → Option ℕ
slot_high (slot v b n lo hi) = hi

-- the slot of number j, where the slots count from k
unfoldable pub slot_at : ℕ → List Slot → ℕ → Slot
slot_at k [] j = slot 0 false 0 0 none
slot_at k (s ∷ ss) j = cond (eqb j k) s (slot_at (suc k) ss j)

-- of two upper bounds the smaller
abbrev pub smaller : Option ℕ → Option ℕ → Option ℕ
smaller none o = o
smaller (some h) none = some h
smaller (some h) (some h') = some (min h h')

-- whether the name of an atom is a link's
abbrev pub is_link : Kind → Bool
is_link has = false
is_link lacks = false
is_link least = true
is_link most = true
is_link nothing = false

-- the bounds that an atom gives its slot
abbrev pub low : Kind → ℕ → ℕ
low has m = 1
low lacks m = 0
low least m = m
low most m = 0
low nothing m = 1

abbrev pub high : Kind → ℕ → Option ℕ
high has m = none
high lacks m = some 0
high least m = none
high most m = some m
high nothing m = some 0

abbrev pub same_class : Bool → Bool → Bool
same_class true b = b
same_class false b = not b

-- of one class and name
abbrev pub same_name : Bool → ℕ → Bool → ℕ → Bool
same_name b n b' n' = same_class b b' && eqb n n'

-- of one place, class and name
abbrev pub same_key : ℕ → Bool → ℕ → ℕ → Bool → ℕ → Bool
same_key v b n v' b' n' = eqb v v' && same_name b n b' n'

-- a slot of that key is there
unfoldable pub taken : List Slot → ℕ → Bool → ℕ → Bool
taken [] v b n = false
taken (slot u b' n' lo hi ∷ ss) v b n = same_key u b' n' v b n || taken ss v b n

-- each slot stands at a place of a lower number, where the slots count from k
abbrev pub EarlySlots : ℕ → List Slot → Type 0
EarlySlots k [] = Unit {0}
EarlySlots k (s ∷ ss) = (stands_at s < k) × EarlySlots (suc k) ss

-- no two slots have one key
abbrev pub DistinctSlots : List Slot → Type 0
DistinctSlots [] = Unit {0}
DistinctSlots (slot u b n lo hi ∷ ss) = (taken ss u b n ≡ false) × DistinctSlots ss

-- ---- the first pass, first to last: each entry tightens its slot, or makes one

unfoldable pub tighten : List Slot → ℕ → Bool → ℕ → ℕ → Option ℕ → List Slot
tighten [] v b n lo hi = slot v b n lo hi ∷ []
tighten (slot v' b' n' lo' hi' ∷ ss) v b n lo hi =
    cond (same_key v' b' n' v b n)
    (slot v' b' n' (max lo' lo) (smaller hi' hi) ∷ ss)
    (slot v' b' n' lo' hi' ∷ tighten ss v b n lo hi)

-- the number of that slot, among those that count from k
unfoldable pub position : ℕ → List Slot → ℕ → Bool → ℕ → ℕ
position k [] v b n = k
position k (slot v' b' n' lo' hi' ∷ ss) v b n = cond (same_key v' b' n' v b n) k (position (suc k) ss v b n)

-- where an owner leads: the place of an 'every' that was passed, and nowhere otherwise. Now entry k leads to w.
abbrev pub leading : (ℕ → Option ℕ) → ℕ → ℕ → ℕ → Option ℕ
leading ν k w j = cond (eqb k j) (some w) (ν j)

-- the slots with the bounds of an entry whose owner leads to that place, and where the entry itself then leads
abbrev pub tighten_at : Option ℕ → List Slot → Bool → ℕ → ℕ → Option ℕ → List Slot
tighten_at none ss b n lo hi = ss
tighten_at (some v) ss b n lo hi = tighten ss v b n lo hi

abbrev pub leading_at : Option ℕ → (ℕ → Option ℕ) → ℕ → List Slot → ℕ → ℕ → Option ℕ
leading_at none ν k ss l = ν
leading_at (some v) ν k ss l = leading ν k (position 1 ss v true l)

-- the slots with those of the rows that count from k
unfoldable pub build : (ℕ → Option ℕ) → List Slot → ℕ → List (Row Atom ℕ) → List Slot
build ν ss k [] = ss
build ν ss k (leaf_row o (atom a n m) ∷ rs) = build ν (tighten_at (ν o) ss (is_link a) n (low a m) (high a m)) (suc k) rs
build ν ss k (node_row o l ∷ rs) = build (leading_at (ν o) ν k ss l) (tighten_at (ν o) ss true l 0 none) (suc k) rs

-- at first the top alone leads anywhere
abbrev pub at_top : ℕ → Option ℕ
at_top = leading (λ j. none) 0 0

unfoldable pub slots : List (Row Atom ℕ) → List Slot
slots rs = build at_top [] 1 rs

-- ---- the second pass, last to first: which places are impossible, what their slots become, which are not empty

-- the upper bound of a link, closed where the place below it is impossible: its owner's place gains at most 0 of its
-- link [N2]
abbrev pub closed : Bool → Option ℕ → Option ℕ
closed true hi = some 0
closed false hi = hi

-- a slot that nothing meets
abbrev pub broken : Bool → ℕ → Option ℕ → Bool
broken true lo hi = under lo hi
broken false lo hi = not (eqb lo 0) && found hi

-- the place v is inconsistent, [N2] impossible: nothing fits it
unfoldable pub inconsistent : ℕ → List Slot → ℕ → Bool
inconsistent k [] v = false
inconsistent k (slot u b n lo hi ∷ ss) v = (eqb v u && broken b lo (closed (b && inconsistent (suc k) ss k) hi)) || inconsistent (suc k) ss v

-- the slots, where the links to impossible places are closed
unfoldable pub settled : ℕ → List Slot → List Slot
settled k [] = []
settled k (slot u b n lo hi ∷ ss) = slot u b n lo (closed (b && inconsistent (suc k) ss k) hi) ∷ settled (suc k) ss

-- the place v is not empty: some of these settled slots asks something of it
unfoldable pub nonempty : ℕ → List Slot → ℕ → Bool
nonempty k [] v = false
nonempty k (slot u b n lo hi ∷ ss) v =
    (eqb v u && (not (eqb lo 0) || (found hi || (b && nonempty (suc k) ss k)))) || nonempty (suc k) ss v

-- ---- the slots of one place

-- a settled slot, seen from its place: its own number, its class and name, and its bounds
pub data Cell : Type 0 where
  cell : ℕ → Bool → ℕ → ℕ → Option ℕ → Cell

-- the cells of the place v, in the order of their numbers
unfoldable pub cells : ℕ → List Slot → ℕ → List Cell
cells k [] v = []
cells k (slot u b n lo hi ∷ ss) v =
    cond (eqb v u) (cell k b n lo (closed (b && inconsistent (suc k) ss k) hi) ∷ cells (suc k) ss v) (cells (suc k) ss v)

-- the cell of a class and name, if any
unfoldable pub lookup : List Cell → Bool → ℕ → Option Cell
lookup [] b n = none
lookup (cell j b' n' lo hi ∷ q) b n = cond (same_name b' n' b n) (some (cell j b' n' lo hi)) (lookup q b n)

-- its bounds; 0 and none where there is no such cell
abbrev pub low_of : Option Cell → ℕ
low_of none = 0
low_of (some (cell j b n lo hi)) = lo

abbrev pub high_of : Option Cell → Option ℕ
high_of none = none
high_of (some (cell j b n lo hi)) = hi

-- the number that a slot lists with a kind, if any
abbrev pub value : Kind → ℕ → Option ℕ → Option ℕ
value has lo hi = cond (eqb lo 0) none (some 0)
value lacks lo hi = cond (found hi) (some 0) none
value least lo hi = cond (eqb lo 0) none (some lo)
value most lo hi = hi
value nothing lo hi = none
