-- The second pass: which places are impossible, which are empty, and what the others mean.
-- Assumes nothing.
use Prim.Native.Nat.{◌<◌, suc, ℕ}
use lib.Dec.{eqb, leb}
use mathlib.Core.Bool.{Bool, ◌&&◌, ◌||◌, false, not, true}
use mathlib.Core.List.{List, [], ◌∷◌}
use mathlib.Core.Option.{Option, none, some}
use mathlib.Core.Path.{◌∙◌, ◌≡◌, ap, refl, sym}
use Rattle.base.proofs.Missing.{and-never}
use Rattle.base.proofs.Tests.{and_left, and_right, and_zero, bool_cases, false_of_not, tests}
use Rattle.logic.proofs.NormalForm.Fits.{linked-bottom, linked-none}
use Rattle.logic.specs.Normal.{found, is_end, under}
use Rattle.logic.specs.Place.{Place}
use Rattle.logic.specs.Record.{Record, each_linked, fits, successors}
use Rattle.passes.proofs.CellPlaces.Forms.{Formed, formed-here, formed-next}
use Rattle.passes.proofs.Cells.CellLaws.{all-sort}
use Rattle.passes.proofs.Cells.WrittenMeaning.{cell_fits, cell_says, written-end, written-fits}
use Rattle.passes.proofs.Cells.WrittenPasses.{all_cells}
use Rattle.passes.proofs.SlotLists.SlotBounds.{below-agree, capped, each_below, inside}
use Rattle.passes.proofs.SlotLists.SlotMeaning.{asks}
use Rattle.passes.specs.code.Slots.{Cell, EarlySlots, Slot, broken, cell, cells, closed, inconsistent, nonempty, settled, slot}

either : (a d : Bool) → (a || not d) ≡ not (not a && d)
either true d = refl
either false d = refl

-- ---- impossible places

-- a cell that something may meet
abbrev pub cell_whole : Cell → Bool
cell_whole (cell j b n lo hi) = not (broken b lo hi)

-- a place is possible if all its cells are
pub inconsistent-cells : (k : ℕ) (ss : List Slot) (v : ℕ) → inconsistent k ss v ≡ not (all_cells cell_whole (cells k ss v))
unfolding inconsistent cells all_cells
inconsistent-cells k [] v = refl
inconsistent-cells k (slot u b n lo hi ∷ ss) v =
    bool_cases (eqb v u)
    (λ q. rw (q, inconsistent-cells (suc k) ss v) (either (broken b lo (closed (b && inconsistent (suc k) ss k) hi)) (all_cells cell_whole (cells (suc k) ss v))))
    (λ q. rw (q, inconsistent-cells (suc k) ss v))

no-count : (lo s : ℕ) (hi : Option ℕ) → under lo hi ≡ true → (leb lo s && capped hi s) ≡ false
no-count lo s none e = cc
no-count lo s (some h) e = and-never {a = leb lo s} {b = leb s h} (λ p q. omega tests)

broken-inside : (c : Record) (b : Bool) (n lo : ℕ) (hi : Option ℕ) (x : ℕ) → broken b lo hi ≡ true → inside c b n lo hi x ≡ false
broken-inside c true n lo hi x e = no-count lo (successors c n x) hi e
broken-inside c false n lo hi x e =
    let p : eqb lo 0 ≡ false = false_of_not (eqb lo 0) (and_left (not (eqb lo 0)) (found hi) e) in
    let q : found hi ≡ true = and_right (not (eqb lo 0)) (found hi) e in
    rw (p, q) (bool_cases (c.property n x) (λ z. rw z) (λ z. rw z))

cells-bottom : (c : Record) (T : ℕ → Place) (x : ℕ) (q : List Cell) → all_cells cell_whole q ≡ false → all_cells (cell_fits c T x) q ≡ false
unfolding all_cells
cells-bottom c T x [] e = e
cells-bottom c T x (cell j b n lo hi ∷ q) e =
    bool_cases (broken b lo hi)
    (λ z. rw (broken-inside c b n lo hi x z))
    (λ z. rw (cells-bottom c T x q (rw z at e)) (and_zero (inside c b n lo hi x && each_below c b n x (λ y. fits c (T j) y))))

-- no item fits what the cells of an impossible place ask
pub inconsistent-empty : (c : Record) (T : ℕ → Place) (x k : ℕ) (ss : List Slot) (v : ℕ) → inconsistent k ss v ≡ true → all_cells (cell_fits c T x) (cells k ss v) ≡ false
inconsistent-empty c T x k ss v e =
    cells-bottom c T x (cells k ss v) (false_of_not (all_cells cell_whole (cells k ss v)) (sym (inconsistent-cells k ss v) ∙ e))

-- ---- what the cells of a place mean

module _ (c : Record) (T : ℕ → Place) where
  -- a link to an impossible place is closed
  closed-link : (n lo : ℕ) (hi : Option ℕ) (x : ℕ) (p q : ℕ → Bool) → ((y : ℕ) → y < c.size → q y ≡ false)
      → (inside c true n lo (some 0) x && each_linked c n x p) ≡ (inside c true n lo hi x && each_linked c n x q)
  closed-link n lo hi x p q f =
      let e : each_linked c n x q ≡ leb (successors c n x) 0
      = below-agree c true n x q (λ y. false) f ∙ linked-bottom c n x (λ y. false) (λ y. refl) in
      bool_cases (leb (successors c n x) 0)
      (λ z. rw (e, z, linked-none c n x p (omega tests), zero-capped hi (successors c n x) (omega tests)))
      (λ z. rw (e, z) (drop-both (leb lo (successors c n x)) (capped hi (successors c n x)) (each_linked c n x p)))
    where
      zero-capped : (o : Option ℕ) (s : ℕ) → s ≡ 0 → capped o s ≡ true
      zero-capped none s i = refl
      zero-capped (some h) s i = omega tests

      drop-both : (a b d : Bool) → ((a && false) && d) ≡ ((a && b) && false)
      drop-both a b d = rw (and_zero a) (sym (and_zero (a && b)))

  -- what one slot asks, settled or not
  slot-means : (k : ℕ) (ss : List Slot) (b : Bool) (n lo : ℕ) (hi : Option ℕ) (x : ℕ)
      → ((y : ℕ) → y < c.size → fits c (T k) y ≡ asks c (suc k) ss (λ v x. true) k y)
      → (inconsistent (suc k) ss k ≡ true → (y : ℕ) → y < c.size → asks c (suc k) ss (λ v x. true) k y ≡ false)
      → (inside c b n lo (closed (b && inconsistent (suc k) ss k) hi) x && each_below c b n x (λ y. fits c (T k) y))
      ≡ (inside c b n lo hi x && each_below c b n x (λ y. asks c (suc k) ss (λ v x. true) k y))
  slot-means k ss true n lo hi x f g =
      bool_cases (inconsistent (suc k) ss k)
      (λ d. rw d (closed-link n lo hi x (λ y. fits c (T k) y) (λ y. asks c (suc k) ss (λ v x. true) k y) (g d)))
      (λ d. rw d (ap (λ (z : Bool). inside c true n lo hi x && z) (below-agree c true n x _ _ f)))
  slot-means k ss false n lo hi x f g = refl

  -- the cells of each place ask what its slots ask
  pub cells-mean : (k : ℕ) (ss : List Slot) → EarlySlots k ss → Formed T k ss → (v x : ℕ) → x < c.size
      → all_cells (cell_fits c T x) (cells k ss v) ≡ asks c k ss (λ v x. true) v x
  unfolding asks cells all_cells
  cells-mean k [] e h v x i = refl
  cells-mean k (slot u b n lo hi ∷ ss) e h v x i =
      let s : Slot = slot u b n lo hi in
      let ih : (w y : ℕ) → y < c.size → all_cells (cell_fits c T y) (cells (suc k) ss w) ≡ asks c (suc k) ss (λ v x. true) w y
      = cells-mean (suc k) ss e.1 (formed-next T k s ss e h) in
      let f : (y : ℕ) → y < c.size → fits c (T k) y ≡ asks c (suc k) ss (λ v x. true) k y
      = λ y j. ap (λ (t : Place). fits c t y) (formed-here T k s ss e h) ∙ written-fits c T y _ ∙ all-sort (cell_fits c T y) (cells (suc k) ss k) ∙ ih k y j in
      let g : inconsistent (suc k) ss k ≡ true → (y : ℕ) → y < c.size → asks c (suc k) ss (λ v x. true) k y ≡ false
      = λ d y j. sym (ih k y j) ∙ inconsistent-empty c T y (suc k) ss k d in
      bool_cases (eqb v u)
      (λ q. rw (q, slot-means k ss b n lo hi x f g, ih v x i))
      (λ q. rw q (ih v x i))

-- ---- empty places

-- a place has anything to say unless no cell has
pub cells_say : (T : ℕ → Place) (k : ℕ) (ss : List Slot) → EarlySlots k ss → Formed T k ss → (v : ℕ)
    → nonempty k (settled k ss) v ≡ not (all_cells (λ c. not (cell_says T c)) (cells k ss v))
unfolding nonempty settled cells all_cells
cells_say T k [] e h v = refl
cells_say T k (slot u b n lo hi ∷ ss) e h v =
    let s : Slot = slot u b n lo hi in
    let ih : (w : ℕ) → nonempty (suc k) (settled (suc k) ss) w ≡ not (all_cells (λ c. not (cell_says T c)) (cells (suc k) ss w))
    = cells_say T (suc k) ss e.1 (formed-next T k s ss e h) in
    let f : nonempty (suc k) (settled (suc k) ss) k ≡ not (is_end (T k))
    = ih k ∙ ap not (sym (ap is_end (formed-here T k s ss e h) ∙ written-end T _ ∙ all-sort (λ c. not (cell_says T c)) (cells (suc k) ss k))) in
    bool_cases (eqb v u)
    (λ q. rw (q, f, ih v) (either (cell_says T (cell k b n lo (closed (b && inconsistent (suc k) ss k) hi))) (all_cells (λ c. not (cell_says T c)) (cells (suc k) ss v))))
    (λ q. rw (q, ih v))
