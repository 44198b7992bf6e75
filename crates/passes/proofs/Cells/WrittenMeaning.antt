-- Which items fit a place that is written from cells, and when it is empty.
-- Assumes nothing.
use Prim.Native.Nat.{ℕ}
use lib.Dec.{eqb, leb}
use mathlib.Core.Bool.{Bool, ◌&&◌, ◌||◌, and_assoc, false, not, true}
use mathlib.Core.List.{List}
use mathlib.Core.Option.{Option, none, some}
use mathlib.Core.Path.{◌∙◌, ◌≡◌, refl, sym}
use Rattle.base.proofs.Missing.{and-cong}
use Rattle.base.proofs.Tests.{bool_cases, tests}
use Rattle.logic.proofs.NormalForm.Fits.{end-sound, linked-none}
use Rattle.logic.specs.Normal.{at_most, found, is_end}
use Rattle.logic.specs.Place.{Place, has, lacks, least, most}
use Rattle.logic.specs.Record.{Record, each_linked, fits, meets, successors}
use Rattle.logic.specs.Tree.{end, leaf, node}
use Rattle.passes.proofs.Cells.WrittenPasses.{all_cells, cell_passes, cells_ext, if_listed, passes, written-passes}
use Rattle.passes.proofs.SlotLists.SlotBounds.{below_true, capped, each_below, inside}
use Rattle.passes.specs.code.Forms.{kept, written}
use Rattle.passes.specs.code.Slots.{Cell, cell, value}

-- ---- when it is empty

-- a cell that asks something
abbrev pub cell_says : (ℕ → Place) → Cell → Bool
cell_says T (cell j b n lo hi) = not (eqb lo 0) || (found hi || (b && not (is_end (T j))))

end-passes : (t : Place) → is_end t ≡ passes (λ a. false) (λ l s. false) t
unfolding passes
end-passes end = refl
end-passes (leaf a r) = refl
end-passes (node l s r) = refl

cell-silent : (T : ℕ → Place) (c : Cell) → cell_passes (λ a. false) (λ l s. false) T c ≡ not (cell_says T c)
cell-silent T (cell j true n lo none) =
    bool_cases (eqb lo 0) (λ p. bool_cases (is_end (T j)) (λ q. rw (p, q)) (λ q. rw (p, q))) (λ p. rw p)
cell-silent T (cell j true n lo (some h)) = bool_cases (eqb lo 0) (λ p. rw p) (λ p. rw p)
cell-silent T (cell j false n lo none) = bool_cases (eqb lo 0) (λ p. rw p) (λ p. rw p)
cell-silent T (cell j false n lo (some h)) = bool_cases (eqb lo 0) (λ p. rw p) (λ p. rw p)

-- the place is empty if no cell asks anything
pub written-end : (T : ℕ → Place) (q : List Cell) → is_end (written T q) ≡ all_cells (λ c. not (cell_says T c)) q
written-end T q =
    end-passes (written T q) ∙ written-passes (λ a. false) (λ l s. false) T q ∙ cells_ext _ (λ c. not (cell_says T c)) q (cell-silent T)

-- ---- which items fit it

module _ (c : Record) (T : ℕ → Place) (x : ℕ) where
  -- what a cell asks of an item x
  abbrev pub cell_fits : Cell → Bool
  cell_fits (cell j b n lo hi) = inside c b n lo hi x && each_below c b n x (λ y. fits c (T j) y)

  fits-passes : (t : Place) → fits c t x ≡ passes (λ a. meets c a x) (λ l s. each_linked c l x (λ y. fits c s y)) t
  unfolding passes fits
  fits-passes end = refl
  fits-passes (leaf a r) = rw (fits-passes r)
  fits-passes (node l s r) = rw (fits-passes r)

  has_listed : (n lo : ℕ) (hi : Option ℕ) → if_listed (λ a. meets c a x) (λ l s. each_linked c l x (λ y. fits c s y)) has n (value has lo hi) ≡ (eqb lo 0 || c.property n x)
  has_listed n lo hi = bool_cases (eqb lo 0) (λ q. rw q) (λ q. rw q)

  lacks-listed : (n lo : ℕ) (hi : Option ℕ) → if_listed (λ a. meets c a x) (λ l s. each_linked c l x (λ y. fits c s y)) lacks n (value lacks lo hi) ≡ (not (found hi) || not (c.property n x))
  lacks-listed n lo none = refl
  lacks-listed n lo (some h) = refl

  least-listed : (n lo : ℕ) (hi : Option ℕ) → if_listed (λ a. meets c a x) (λ l s. each_linked c l x (λ y. fits c s y)) least n (value least lo hi) ≡ leb lo (successors c n x)
  least-listed n lo hi = bool_cases (eqb lo 0) (λ q. let z : leb lo (successors c n x) ≡ true = omega tests in rw (q, z)) (λ q. rw q)

  most-listed : (n : ℕ) (hi : Option ℕ) → if_listed (λ a. meets c a x) (λ l s. each_linked c l x (λ y. fits c s y)) most n hi ≡ capped hi (successors c n x)
  most-listed n none = refl
  most-listed n (some h) = refl

  no-successors : (n : ℕ) (hi : Option ℕ) → at_most 0 hi ≡ true → capped hi (successors c n x) ≡ true → successors c n x ≡ 0
  no-successors n none e h = cc
  no-successors n (some q) e h = omega tests

  -- an 'every' that is not written asks nothing more
  every-listed : (j n : ℕ) (hi : Option ℕ) → capped hi (successors c n x) ≡ true
      → (not (kept T j true hi) || each_linked c n x (λ y. fits c (T j) y)) ≡ each_linked c n x (λ y. fits c (T j) y)
  every-listed j n hi e =
      bool_cases (is_end (T j))
      (λ q. rw q (sym (below_true c true n x (λ y. fits c (T j) y) (λ y. end-sound c (T j) y q))))
      (λ q. bool_cases (at_most 0 hi)
      (λ z. rw (q, z) (sym (linked-none c n x (λ y. fits c (T j) y) (no-successors n hi z e))))
      (λ z. rw (q, z)))

  cell-fits : (d : Cell) → cell_passes (λ a. meets c a x) (λ l s. each_linked c l x (λ y. fits c s y)) T d ≡ cell_fits d
  cell-fits (cell j true n lo hi) =
      rw (least-listed n lo hi, most-listed n hi, and_assoc (leb lo (successors c n x)) (capped hi (successors c n x)))
      (and-cong (leb lo (successors c n x)) (λ _. and-cong (capped hi (successors c n x)) (every-listed j n hi)))
  cell-fits (cell j false n lo hi) = rw (has_listed n lo hi, lacks-listed n lo hi) (sym (and_assoc (eqb lo 0 || c.property n x) (not (found hi) || not (c.property n x)) true))

  -- the items that fit what each cell asks
  pub written-fits : (q : List Cell) → fits c (written T q) x ≡ all_cells cell_fits q
  written-fits q =
      fits-passes (written T q) ∙ written-passes (λ a. meets c a x) (λ l s. each_linked c l x (λ y. fits c s y)) T q ∙ cells_ext _ cell_fits q cell-fits
