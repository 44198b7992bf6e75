-- The places of the slots of a description, as trees: each is written from its sorted cells, kind by kind. No public promise names these.
-- Assumes nothing.
use Rattle.std.specs.Prelude.{suc, ℕ, eqb, Bool, ◌&&◌, cond, not, List, [], ◌∷◌}
use Rattle.std.proofs.Math.Option.{Option, none, some}
use Rattle.base.specs.Ascending.{sort}
use Rattle.logic.specs.Background.{Background}
use Rattle.logic.specs.Layout.{write}
use Rattle.logic.specs.Normal.{at_most, is_end}
use Rattle.logic.specs.Place.{Atom, Kind, Place, atom, has, lacks, least, most, nothing}
use Rattle.logic.specs.Tree.{Row, end, leaf, leaf_row, node}
use Rattle.passes.specs.code.Pipeline.{before_cell, sorted_cells}
use Rattle.passes.specs.code.Restrict.{slots_under}
use Rattle.passes.specs.code.Slots.{Cell, Slot, cell, cells, inconsistent, is_link, same_class, value}

-- ---- one place, where T gives those below it

abbrev pub leaf_if : Kind → ℕ → Option ℕ → Place → Place
leaf_if a n none r = r
leaf_if a n (some m) r = leaf (atom a n m) r

-- the entries of one kind, then r
unfoldable pub of_kind : Kind → List Cell → Place → Place
of_kind a [] r = r
of_kind a (cell j b n lo hi ∷ q) r = cond (same_class b (is_link a)) (leaf_if a n (value a lo hi) (of_kind a q r)) (of_kind a q r)

-- an 'every' is written if its place, which T gives, has entries and its link is not at most 0
abbrev pub kept : (ℕ → Place) → ℕ → Bool → Option ℕ → Bool
kept T j b hi = b && (not (is_end (T j)) && not (at_most 0 hi))

-- the 'every' entries
unfoldable pub of_every : (ℕ → Place) → List Cell → Place
of_every T [] = end
of_every T (cell j b n lo hi ∷ q) = cond (kept T j b hi) (node n (T j) (of_every T q)) (of_every T q)

-- all entries
unfoldable pub written : (ℕ → Place) → List Cell → Place
written T q = of_kind has q (of_kind lacks q (of_kind least q (of_kind most q (of_every T q))))

-- ---- all places

-- the place below slot j, for the slots that count from k
unfoldable pub formed : ℕ → List Slot → ℕ → Place
formed k [] j = end
formed k (s ∷ ss) j = cond (eqb j k) (written (λ i. formed (suc k) ss i) (sort before_cell (cells (suc k) ss k))) (formed (suc k) ss j)

-- the place of number v: the top, or the place below slot v
unfoldable pub form : List Slot → ℕ → Place
form ss v = cond (eqb v 0) (written (λ i. formed 1 ss i) (sorted_cells ss 0)) (formed 1 ss v)

-- the rows of the normal form of a description, for the records that keep a background
unfoldable pub normal_rows : Background → List (Row Atom ℕ) → List (Row Atom ℕ)
normal_rows b rs = cond (inconsistent 1 (slots_under b rs) 0) (leaf_row 0 (atom nothing 0 0) ∷ []) (write (form (slots_under b rs) 0))
