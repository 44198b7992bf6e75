-- The passes write exactly the rows of the normal form, however the cells are sorted.
-- Assumes nothing.
use Prim.Native.Nat.{◌≤◌, ℕ}
use lib.ListN.{length}
use mathlib.Core.List.{List}
use mathlib.Core.Path.{◌≡◌, ap, fun_ext, refl}
use native.Mathlib.Omega.{arith}
use Rattle.base.proofs.AscendingLaws.{Within, sort-within, sorted-one, within-sort}
use Rattle.base.proofs.Tests.{bool_cases}
use Rattle.base.specs.Ascending.{Sorted, sort}
use Rattle.logic.proofs.NormalForm.NormalSize.{nf-nodes}
use Rattle.logic.proofs.TreeRows.LayoutLaws.{write-length}
use Rattle.logic.proofs.TreeRows.MergedRows.{tree-nodes}
use Rattle.logic.specs.Background.{Background, LawfulBackground}
use Rattle.logic.specs.Layout.{lay, weight, write}
use Rattle.logic.specs.Normal.{nf}
use Rattle.logic.specs.Place.{Atom}
use Rattle.logic.specs.Tree.{Row, tree}
use Rattle.passes.proofs.CellPlaces.FormNormal.{form-top, top-nothing}
use Rattle.passes.proofs.Cells.CellLaws.{cell-irreflexive, cell-trans, cells-sorted}
use Rattle.passes.proofs.SlotLists.RestrictLaws.{under-distinct}
use Rattle.passes.specs.code.Forms.{normal_rows}
use Rattle.passes.specs.code.Pipeline.{before_cell, sorted_cells}
use Rattle.passes.specs.code.Restrict.{slots_under}
use Rattle.passes.specs.code.Slots.{Cell, Slot, cells, inconsistent}

module _ {b : Background} (law : LawfulBackground b) (rs : List (Row Atom ℕ)) where
  abbrev ss : List Slot
  ss = slots_under b rs

  -- they are those of the normal form, row by row
  pub normal-exact : normal_rows b rs ≡ write (nf b (tree 1 rs 0))
  unfolding normal_rows
  normal-exact =
      bool_cases (inconsistent 1 ss 0)
      (λ z. rw (z, top-nothing law rs z) (unfold write lay weight in refl))
      (λ z. rw z (ap write (form-top law rs z)))

  -- there are no more of them than of the description
  pub normal-length : length (write (nf b (tree 1 rs 0))) ≤ length rs
  normal-length = rw (write-length (nf b (tree 1 rs 0))) (omega (arith, nf-nodes b (tree 1 rs 0), tree-nodes rs))

  -- cells that ascend, the same at each place, are the sorted ones
  pub arranged : (S : ℕ → List Cell) → ((v : ℕ) → Sorted before_cell (S v)) → ((v : ℕ) → Within (cells 1 (slots_under b rs) v) (S v))
      → ((v : ℕ) → Within (S v) (cells 1 (slots_under b rs) v)) → S ≡ sorted_cells (slots_under b rs)
  unfolding sorted_cells
  arranged S s f g =
      fun_ext (λ v. sorted-one before_cell cell-trans cell-irreflexive (S v) (sort before_cell (cells 1 ss v)) (s v)
      (cells-sorted 1 ss v (under-distinct b rs))
      (λ x m. within-sort before_cell (cells 1 ss v) x (g v x m)) (λ x m. f v x (sort-within before_cell (cells 1 ss v) x m)))
