-- What the places of a description's slots under a background list, own and exclude, and which are empty.
-- Assumes nothing.
use Prim.Native.Nat.{ℕ}
use mathlib.Core.Bool.{not, true}
use mathlib.Core.List.{List}
use mathlib.Core.Option.{Option}
use mathlib.Core.Path.{◌∙◌, ◌≡◌, ap, sym}
use Rattle.base.specs.Ascending.{sort}
use Rattle.logic.specs.Background.{Background}
use Rattle.logic.specs.Normal.{excluded, find, is_end, sub}
use Rattle.logic.specs.Place.{Atom, Kind, Place}
use Rattle.logic.specs.Tree.{Row}
use Rattle.passes.proofs.CellPlaces.FormMeaning.{cells_say}
use Rattle.passes.proofs.CellPlaces.Forms.{Formed, form-written}
use Rattle.passes.proofs.Cells.CellLaws.{all-sort, cells-distinct, cells-sorted, lookup-sort}
use Rattle.passes.proofs.Cells.WrittenExcludes.{written-excluded}
use Rattle.passes.proofs.Cells.WrittenLists.{below, listed, written-find, written-sub}
use Rattle.passes.proofs.Cells.WrittenMeaning.{cell_says, written-end}
use Rattle.passes.proofs.Cells.WrittenPasses.{all_cells}
use Rattle.passes.proofs.SlotLists.RestrictLaws.{excluded-restricted, under-distinct, under-early}
use Rattle.passes.specs.code.Forms.{form, written}
use Rattle.passes.specs.code.Pipeline.{before_cell, sorted_cells}
use Rattle.passes.specs.code.Restrict.{excluded_at, restrict, slots_under}
use Rattle.passes.specs.code.Slots.{Cell, Slot, cells, is_link, lookup, nonempty, settled, slots}

module _ (b : Background) (rs : List (Row Atom ℕ)) where
  abbrev ss : List Slot
  ss = slots_under b rs

  -- each place is written from its cells
  pub form-cells : (v : ℕ) → form (slots_under b rs) v
      ≡ written (form (slots_under b rs)) (sort before_cell (cells 1 (slots_under b rs) v))
  unfolding sorted_cells
  form-cells v = form-written ss (under-early b rs) v

  pub form-formed : Formed (form (slots_under b rs)) 1 (slots_under b rs)
  form-formed v i = form-cells v

  -- a place lists what its cells say
  pub form-find : (v : ℕ) (a : Kind) (n : ℕ) → find a n (form (slots_under b rs) v)
      ≡ listed a (lookup (cells 1 (slots_under b rs) v) (is_link a) n)
  form-find v a n =
      rw (form-cells v)
      (written-find (form ss) (sort before_cell (cells 1 ss v)) (cells-sorted 1 ss v (under-distinct b rs)) a n
      ∙ rw (lookup-sort (cells 1 ss v) (cells-distinct 1 ss v (under-distinct b rs)) (is_link a) n))

  pub form-sub : (v l : ℕ) → sub l (form (slots_under b rs) v)
      ≡ below (form (slots_under b rs)) (lookup (cells 1 (slots_under b rs) v) true l)
  form-sub v l =
      ap (λ (t : Place). sub l t) (form-cells v)
      ∙ written-sub (form ss) (sort before_cell (cells 1 ss v)) (cells-sorted 1 ss v (under-distinct b rs)) l
      ∙ ap (λ (o : Option Cell). below (form ss) o)
      (lookup-sort (cells 1 ss v) (cells-distinct 1 ss v (under-distinct b rs)) true l)

  -- it excludes what the slots of the place do
  pub form-excluded : (v p : ℕ) → excluded b p (form (slots_under b rs) v) ≡ excluded_at b (slots rs) v p
  form-excluded v p =
      ap (λ (t : Place). excluded b p t) (form-cells v) ∙ written-excluded b p (form ss) 1 ss v
      ∙ (unfold slots_under restrict in excluded-restricted b (excluded_at b (slots rs)) (slots rs) v p)

  -- it has anything to say unless it is empty
  pub form-nonempty : (v : ℕ) → nonempty 1 (settled 1 (slots_under b rs)) v ≡ not (is_end (form (slots_under b rs) v))
  form-nonempty v =
      let empty : is_end (form ss v) ≡ all_cells (λ c. not (cell_says (form ss) c)) (cells 1 ss v)
      = ap is_end (form-cells v) ∙ written-end (form ss) _ ∙ all-sort (λ c. not (cell_says (form ss) c)) (cells 1 ss v) in
      cells_say (form ss) 1 ss (under-early b rs) form-formed v ∙ ap not (sym empty)
