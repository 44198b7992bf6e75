-- The cells of one place: each name once, and the same in whatever order.
-- Assumes nothing.
use Prim.Native.Nat.{◌<◌, ◌≤◌, suc, ℕ}
use lib.Dec.{eqb}
use mathlib.Core.Bool.{Bool, ◌&&◌, false, true}
use mathlib.Core.List.Memᴰ
use mathlib.Core.List.{List, Memᴰ, [], ◌∷◌}
use mathlib.Core.Logic.{⊎_elim}
use mathlib.Core.Option.{Option, none, some}
use mathlib.Core.Path.{◌∙◌, ◌≡◌, ap, ap₂, refl, sym}
use native.Mathlib.Omega.{arith}
use Rattle.base.proofs.AscendingLaws.{AllApart, sort_sorted}
use Rattle.base.proofs.Missing.{not-true}
use Rattle.base.proofs.Tests.{and-swap, bool_cases, eqb-eq, eqb-sym, neither_left, neither_right, tests}
use Rattle.base.specs.Ascending.{Sorted, insert_in, sort}
use Rattle.base.specs.Range.{bit}
use Rattle.logic.proofs.PlaceTrees.Order.{before-not, before-total, before-trans}
use Rattle.passes.proofs.Cells.WrittenPasses.{all_cells}
use Rattle.passes.proofs.SlotLists.SlotLaws.{exchange, name-class, name-eq}
use Rattle.passes.specs.code.Pipeline.{before_cell}
use Rattle.passes.specs.code.Slots.{Cell, DistinctSlots, Slot, cell, cells, lookup, same_key, same_name, slot, stands_at, taken}

-- ---- the order of cells

pub cell-trans : (x y z : Cell) → before_cell x y ≡ true → before_cell y z ≡ true → before_cell x z ≡ true
cell-trans (cell j b n lo hi) (cell j' b' n' lo' hi') (cell j'' b'' n'' lo'' hi'') e f = before-trans (bit b) n (bit b') n' (bit b'') n'' e f

pub cell-irreflexive : (x : Cell) → before_cell x x ≡ true → ⊥
cell-irreflexive (cell j b n lo hi) e = before-not (bit b) n e

bit-name : (b : Bool) (n : ℕ) (b' : Bool) (n' : ℕ) → same_name b' n' b n ≡ false → (eqb (bit b) (bit b') && eqb n n') ≡ false
bit-name true n true n' e = eqb-sym n n' ∙ e
bit-name true n false n' e = refl
bit-name false n true n' e = refl
bit-name false n false n' e = eqb-sym n n' ∙ e

-- ---- looking a name up

-- what holds of no cell, and of each cell of that name, holds of what is found
pub lookup-cases : (P : Option Cell → Type 0) (q : List Cell) (b : Bool) (n : ℕ) → P none
    → ((j lo : ℕ) (hi : Option ℕ) → Memᴰ (cell j b n lo hi) q → P (some (cell j b n lo hi))) → P (lookup q b n)
unfolding lookup
lookup-cases P [] b n y f = y
lookup-cases P (cell j b' n' lo hi ∷ q) b n y f =
    bool_cases (same_name b' n' b n)
    (λ e.
    let i : cell j b' n' lo hi ≡ cell j b n lo hi = ap₂ (λ (z : Bool) (m : ℕ). cell j z m lo hi) (name-class b' n' b n e) (name-eq b' n' b n e) in
    rw (e, i) (f j lo hi (Memᴰ.head (sym i))))
    (λ e. rw e (lookup-cases P q b n y (λ j' lo' hi' m. f j' lo' hi' (Memᴰ.tail m))))

other_name : (j : ℕ) (b : Bool) (n lo : ℕ) (hi : Option ℕ) (q : List Cell) (b' : Bool) (n' : ℕ) → lookup (cell j b n lo hi ∷ q) b' n' ≡ none → same_name b n b' n' ≡ false
unfolding lookup
other_name j b n lo hi q b' n' e = not-true (λ z. let y : some (cell j b n lo hi) ≡ none = rw z at e in let w : ◌≡◌ {A = ℕ} 0 1 = cc in omega arith)

rest-free : (j : ℕ) (b : Bool) (n lo : ℕ) (hi : Option ℕ) (q : List Cell) (b' : Bool) (n' : ℕ) → lookup (cell j b n lo hi ∷ q) b' n' ≡ none → lookup q b' n' ≡ none
unfolding lookup
rest-free j b n lo hi q b' n' e = rw (other_name j b n lo hi q b' n' e) at e

-- no cell has a name that is not found
free_names : (q : List Cell) (b : Bool) (n : ℕ) → lookup q b n ≡ none → (j' : ℕ) (b' : Bool) (n' lo' : ℕ) (hi' : Option ℕ) → Memᴰ (cell j' b' n' lo' hi') q → same_name b' n' b n ≡ false
free_names [] b n e j' b' n' lo' hi' m = absurd (Memᴰ.not-nil m)
free_names (cell j b₀ n₀ lo hi ∷ q) b n e j' b' n' lo' hi' m =
    ⊎_elim
    (λ i. let ib : b' ≡ b₀ = cc in let in' : n' ≡ n₀ = cc in rw (ib, in') (other_name j b₀ n₀ lo hi q b n e))
    (λ i. free_names q b n (rest-free j b₀ n₀ lo hi q b n e) j' b' n' lo' hi' i)
    (Memᴰ.cases_cons m)

-- each name once
abbrev pub DistinctCells : List Cell → Type 0
DistinctCells [] = Unit {0}
DistinctCells (cell j b n lo hi ∷ q) = (lookup q b n ≡ none) × DistinctCells q

distinct_apart : (q : List Cell) → DistinctCells q → AllApart before_cell cell-trans q
distinct_apart [] d = tt
distinct_apart (cell j b n lo hi ∷ q) d = (apart, distinct_apart q d.1)
  where
    apart : (y : Cell) → Memᴰ y q → before_cell (cell j b n lo hi) y ≡ false → before_cell y (cell j b n lo hi) ≡ true
    apart (cell j' b' n' lo' hi') m e = before-total (bit b) n (bit b') n' e (bit-name b n b' n' (free_names q b n d.0 j' b' n' lo' hi' m))

-- ---- sorting them

lookup-insert : (j : ℕ) (b : Bool) (n lo : ℕ) (hi : Option ℕ) (q : List Cell) → lookup q b n ≡ none → (x : Bool) (m : ℕ)
    → lookup (insert_in before_cell (cell j b n lo hi) q) x m ≡ lookup (cell j b n lo hi ∷ q) x m
unfolding insert_in lookup
lookup-insert j b n lo hi [] e x m = refl
lookup-insert j b n lo hi (cell j' b' n' lo' hi' ∷ q) e x m =
    bool_cases (before-it)
    (λ z. rw z)
    (λ z. rw (z, lookup-insert j b n lo hi q (rest-free j' b' n' lo' hi' q b n e) x m)
    (exchange (same_name b' n' x m) (same_name b n x m) (some (cell j' b' n' lo' hi')) (some (cell j b n lo hi)) (lookup q x m) apart))
  where
    before-it : Bool
    before-it = before_cell (cell j b n lo hi) (cell j' b' n' lo' hi')

    apart : same_name b n x m ≡ true → same_name b' n' x m ≡ false
    apart h = rw (← (name-class b n x m h), ← (name-eq b n x m h)) (other_name j' b' n' lo' hi' q b n e)

-- sorted cells say the same of each name
pub lookup-sort : (q : List Cell) → DistinctCells q → (b : Bool) (n : ℕ) → lookup (sort before_cell q) b n ≡ lookup q b n
unfolding sort lookup
lookup-sort [] d b n = refl
lookup-sort (cell j b₀ n₀ lo hi ∷ q) d b n =
    lookup-insert j b₀ n₀ lo hi (sort before_cell q) (lookup-sort q d.1 b₀ n₀ ∙ d.0) b n ∙ rw (lookup-sort q d.1 b n)

all_insert : (p : Cell → Bool) (c : Cell) (q : List Cell) → all_cells p (insert_in before_cell c q) ≡ p c && all_cells p q
unfolding insert_in all_cells
all_insert p c [] = refl
all_insert p c (d ∷ q) = bool_cases (before_cell c d) (λ z. rw z) (λ z. rw (z, all_insert p c q) (and-swap (p d) (p c) (all_cells p q)))

-- and pass the same tests
pub all-sort : (p : Cell → Bool) (q : List Cell) → all_cells p (sort before_cell q) ≡ all_cells p q
unfolding sort all_cells
all-sort p [] = refl
all-sort p (c ∷ q) = all_insert p c (sort before_cell q) ∙ rw (all-sort p q)

-- ---- the cells of a place of the slots

pub cells-from : (k : ℕ) (ss : List Slot) (v j : ℕ) (b : Bool) (n lo : ℕ) (hi : Option ℕ) → Memᴰ (cell j b n lo hi) (cells k ss v) → k ≤ j
unfolding cells
cells-from k [] v j b n lo hi m = absurd (Memᴰ.not-nil m)
cells-from k (slot u b₀ n₀ lo₀ hi₀ ∷ ss) v j b n lo hi m =
    bool_cases (eqb v u)
    (λ q. ⊎_elim (λ i. let e : j ≡ k = cc in omega arith) (λ i. omega (arith, cells-from (suc k) ss v j b n lo hi i)) (Memᴰ.cases_cons (rw q at m)))
    (λ q. omega (arith, cells-from (suc k) ss v j b n lo hi (rw q at m)))

-- a slot of an earlier place has no cell here
pub cells-skip : (k : ℕ) (s : Slot) (ss : List Slot) (v : ℕ) → stands_at s < k → k ≤ v → cells k (s ∷ ss) v ≡ cells (suc k) ss v
unfolding cells
cells-skip k (slot u b n lo hi) ss v h g = let z : eqb v u ≡ false = omega tests in rw z

cells_free : (k : ℕ) (ss : List Slot) (v : ℕ) (b : Bool) (n : ℕ) → taken ss v b n ≡ false → lookup (cells k ss v) b n ≡ none
unfolding taken cells lookup
cells_free k [] v b n e = refl
cells_free k (slot u b' n' lo hi ∷ ss) v b n e =
    let ih : lookup (cells (suc k) ss v) b n ≡ none = cells_free (suc k) ss v b n (neither_right (same_key u b' n' v b n) (taken ss v b n) e) in
    bool_cases (eqb v u)
    (λ q.
    let z : eqb u v ≡ true = eqb-sym u v ∙ q in
    let y : same_name b' n' b n ≡ false = rw z at (neither_left (same_key u b' n' v b n) (taken ss v b n) e) in
    rw (q, y) ih)
    (λ q. rw q ih)

pub cells-distinct : (k : ℕ) (ss : List Slot) (v : ℕ) → DistinctSlots ss → DistinctCells (cells k ss v)
unfolding cells
cells-distinct k [] v d = tt
cells-distinct k (slot u b n lo hi ∷ ss) v d =
    bool_cases (eqb v u)
    (λ q.
    let f : taken ss v b n ≡ false = ap (λ (x : ℕ). taken ss x b n) (eqb-eq q) ∙ d.0 in
    rw q (cells_free (suc k) ss v b n f, cells-distinct (suc k) ss v d.1))
    (λ q. rw q (cells-distinct (suc k) ss v d.1))

-- the cells of a place, sorted, ascend
pub cells-sorted : (k : ℕ) (ss : List Slot) (v : ℕ) → DistinctSlots ss → Sorted before_cell (sort before_cell (cells k ss v))
cells-sorted k ss v d = sort_sorted before_cell cell-trans (cells k ss v) (distinct_apart (cells k ss v) (cells-distinct k ss v d))
