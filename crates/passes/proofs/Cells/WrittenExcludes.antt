-- Which properties are excluded at a place that is written from cells: those that its slots exclude.
-- Assumes nothing.
use Prim.Native.Nat.{suc, ℕ}
use lib.Dec.{eqb}
use mathlib.Core.Bool.{Bool, not-not, ◌&&◌, and-true, false, not, true}
use mathlib.Core.List.{List, [], ◌∷◌}
use mathlib.Core.Option.{none, some}
use mathlib.Core.Path.{◌∙◌, ◌≡◌, ap, refl, sym}
use Rattle.base.proofs.Tests.{bool_cases, or-one}
use Rattle.base.specs.Ascending.{sort}
use Rattle.logic.specs.Background.{Background}
use Rattle.logic.specs.Normal.{excluded, rank}
use Rattle.logic.specs.Place.{Atom, Place, atom, has}
use Rattle.logic.specs.Tree.{end, leaf, node}
use Rattle.passes.proofs.Cells.CellLaws.{all-sort}
use Rattle.passes.proofs.Cells.WrittenPasses.{all_cells, cell_passes, cells_ext, passes, written-passes}
use Rattle.passes.specs.code.Forms.{kept, written}
use Rattle.passes.specs.code.Pipeline.{before_cell}
use Rattle.passes.specs.code.Restrict.{excluded_at}
use Rattle.passes.specs.code.Slots.{Cell, Slot, cell, cells, slot}

module _ (b : Background) (p : ℕ) where
  -- an atom, or a cell, leaves p alone: no property that it asks for excludes it
  abbrev atom_spares : Atom → Bool
  atom_spares (atom k n m) = not (eqb (rank has) (rank k) && b.excludes n p)

  abbrev cell_spares : Cell → Bool
  cell_spares (cell j d n lo hi) = not (not d && (not (eqb lo 0) && b.excludes n p))

  excluded-passes : (t : Place) → not (excluded b p t) ≡ passes atom_spares (λ l s. true) t
  unfolding excluded passes
  excluded-passes end = refl
  excluded-passes (leaf (atom k n m) r) =
      bool_cases (eqb (rank has) (rank k) && b.excludes n p) (λ z. rw z) (λ z. rw z (excluded-passes r))
  excluded-passes (node l s r) = excluded-passes r

  cell-spares : (T : ℕ → Place) (c : Cell) → cell_passes atom_spares (λ l s. true) T c ≡ cell_spares c
  cell-spares T (cell j true n lo none) =
      let e = or-one (not (kept T j true none)) in bool_cases (eqb lo 0) (λ q. rw q e) (λ q. rw q e)
  cell-spares T (cell j true n lo (some h)) =
      let e = or-one (not (kept T j true (some h))) in bool_cases (eqb lo 0) (λ q. rw q e) (λ q. rw q e)
  cell-spares T (cell j false n lo none) = bool_cases (eqb lo 0) (λ q. rw q) (λ q. rw q (and-true (not (b.excludes n p))))
  cell-spares T (cell j false n lo (some h)) = bool_cases (eqb lo 0) (λ q. rw q) (λ q. rw q (and-true (not (b.excludes n p))))

  written-spares : (T : ℕ → Place) (q : List Cell) → not (excluded b p (written T q)) ≡ all_cells cell_spares q
  written-spares T q =
      excluded-passes (written T q) ∙ written-passes atom_spares (λ l s. true) T q ∙ cells_ext _ cell_spares q (cell-spares T)

  slots-spare : (k : ℕ) (ss : List Slot) (v : ℕ) → not (excluded_at b ss v p) ≡ all_cells cell_spares (cells k ss v)
  unfolding excluded_at cells all_cells
  slots-spare k [] v = refl
  slots-spare k (slot u d n lo hi ∷ ss) v =
      bool_cases (eqb v u)
      (λ q. bool_cases (not d && (not (eqb lo 0) && b.excludes n p))
      (λ z. rw (q, z))
      (λ z. rw (q, z) (slots-spare (suc k) ss v)))
      (λ q. rw q (slots-spare (suc k) ss v))

  -- the place excludes what its slots do
  pub written-excluded : (T : ℕ → Place) (k : ℕ) (ss : List Slot) (v : ℕ)
      → excluded b p (written T (sort before_cell (cells k ss v))) ≡ excluded_at b ss v p
  written-excluded T k ss v =
      let place : Place = written T (sort before_cell (cells k ss v)) in
      sym (not-not (excluded b p place))
      ∙ ap not (written-spares T (sort before_cell (cells k ss v)) ∙ all-sort cell_spares (cells k ss v) ∙ sym (slots-spare k ss v))
      ∙ not-not (excluded_at b ss v p)
