-- The cells of slots under a background: where none is broken, all that they say tells something.
-- Assumes nothing.
use Prim.Native.Nat.{suc, ℕ}
use lib.Dec.{eqb, ltb}
use mathlib.Core.Bool.{Bool, ◌&&◌, ◌||◌, false, false≢true, not, true}
use mathlib.Core.List.{List, [], ◌∷◌}
use mathlib.Core.Option.{Option, none, some}
use mathlib.Core.Path.{◌≡◌, refl}
use Rattle.base.proofs.Missing.{opt_cases}
use Rattle.base.proofs.Tests.{and_both, and_left, and_right, bool_cases, both_ways, eqb-eq, eqb-self, false_of_not, not-to-true, tests}
use Rattle.logic.specs.Background.{Background, LawfulBackground}
use Rattle.logic.specs.Normal.{at_most, found, under}
use Rattle.passes.proofs.CellPlaces.FormMeaning.{cell_whole}
use Rattle.passes.proofs.Cells.WrittenPasses.{all_cells}
use Rattle.passes.specs.code.Restrict.{idle, restrict_by, restricted_high}
use Rattle.passes.specs.code.Slots.{Cell, Slot, cell, cells, closed, inconsistent, slot}

-- bounds that say nothing of a property
abbrev pub mute : ℕ → Option ℕ → Bool
mute lo hi = eqb lo 0 && not (found hi)

-- A cell whose bounds tell something under a background: no more of a link is asked for than its cap allows, no at most is one that
-- the cap says, and nothing is said of a property that is excluded, as x tells.
abbrev pub cell_tells : Background → (ℕ → Bool) → Cell → Bool
cell_tells b x (cell j true n lo hi) = not (under lo (b.cap n)) && not (idle (b.cap n) hi)
cell_tells b x (cell j false n lo hi) = not (x n) || mute lo hi

-- what asks for no item asks for no more than a cap allows
pub none-asked : (o : Option ℕ) (lo : ℕ) → ltb 0 lo ≡ false → under lo o ≡ false
none-asked none lo e = refl
none-asked (some m) lo e = omega tests

module _ {b : Background} (law : LawfulBackground b) where
  -- caps allow an item, so none says an at most 0
  pub cap-open : (l : ℕ) → at_most 0 (b.cap l) ≡ false
  cap-open l = opt_cases (b.cap l) (λ q. rw q) (λ m q. rw q (omega (tests, law.some_item l m q)))

  -- a link with at most 0 that is whole asks for none
  closed-tells : (n lo : ℕ) → not (ltb 0 lo) ≡ true → (not (under lo (b.cap n)) && not (at_most 0 (b.cap n))) ≡ true
  closed-tells n lo w = and_both (not-to-true (none-asked (b.cap n) lo (false_of_not (ltb 0 lo) w))) (not-to-true (cap-open n))

  -- one slot
  slot-tells : (x : ℕ → Bool) (j : ℕ) (d i : Bool) (n lo : ℕ) (hi : Option ℕ)
      → cell_whole (cell j d n lo (closed (d && i) (restricted_high b d (x n) n lo hi))) ≡ true
      → cell_tells b x (cell j d n lo (closed (d && i) (restricted_high b d (x n) n lo hi))) ≡ true
  slot-tells x j true true n lo hi w = closed-tells n lo w
  slot-tells x j true false n lo hi w =
      bool_cases (under lo (b.cap n))
      (λ q. both_ways q (none-asked (b.cap n) lo (false_of_not (ltb 0 lo) (rw q at w))))
      (λ q. bool_cases (idle (b.cap n) hi) (λ r. rw (q, r)) (λ r. rw (q, r, r)))
  slot-tells x j false i n lo hi w =
      bool_cases (x n)
      (λ q. bool_cases (eqb lo 0) (λ r. rw (q, r)) (λ r. let y : false ≡ true = rw (q, r) at w in absurd (false≢true y)))
      (λ q. rw q)

  -- all slots of a place
  pub restricted-tell : (x : ℕ → ℕ → Bool) (k : ℕ) (ss : List Slot) (v : ℕ)
      → all_cells cell_whole (cells k (restrict_by b x ss) v) ≡ true → all_cells (cell_tells b (x v)) (cells k (restrict_by b x ss) v) ≡ true
  unfolding cells restrict_by all_cells
  restricted-tell x k [] v w = refl
  restricted-tell x k (slot u d n lo hi ∷ ss) v w =
      let ss' : List Slot = restrict_by b x ss in
      bool_cases (eqb v u)
      (λ q.
      let i : v ≡ u = eqb-eq q in
      let c : Cell = cell k d n lo (closed (d && inconsistent (suc k) ss' k) (restricted_high b d (x u n) n lo hi)) in
      let others : Bool = all_cells cell_whole (cells (suc k) ss' u) in
      let w' : (cell_whole c && others) ≡ true = rw (i, eqb-self u) at w in
      rw (i, eqb-self u) (and_both
      (slot-tells (x u) k d (inconsistent (suc k) ss' k) n lo hi (and_left (cell_whole c) others w'))
      (restricted-tell x (suc k) ss u (and_right (cell_whole c) others w'))))
      (λ q. rw q (restricted-tell x (suc k) ss v (rw q at w)))
