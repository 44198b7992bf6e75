-- The fast normal form of small descriptions, by computing.
-- Assumes nothing.
use lib.Dec.{eqb}
use mathlib.Core.Bool.{◌&&◌, ◌||◌}
use mathlib.Core.List.{[], ◌∷◌}
use mathlib.Core.Option.{none}
use mathlib.Core.Path.{◌≡◌, refl}
use Rattle.base.specs.Ascending.{insert_in, sort}
use Rattle.logic.specs.Background.{Background, standing}
use Rattle.logic.specs.Layout.{lay, later, weight, write}
use Rattle.logic.specs.Place.{atom, has, lacks, least, most, nothing}
use Rattle.logic.specs.Tree.{leaf_row, node_row}
use Rattle.passes.specs.code.Forms.{form, formed, normal_rows, of_every, of_kind, written}
use Rattle.passes.specs.code.Pipeline.{sorted_cells}
use Rattle.passes.specs.code.Restrict.{excluded_at, restrict, restrict_by, slots_under}
use Rattle.passes.specs.code.Slots.{build, cells, inconsistent, position, slots, tighten}

-- 'every' entries of one link merge, and names ascend
merging : normal_rows standing (node_row 0 7 ∷ leaf_row 1 (atom has 5 0) ∷ node_row 0 7 ∷ leaf_row 3 (atom has 4 0) ∷ [])
    ≡ node_row 0 7 ∷ leaf_row 1 (atom has 4 0) ∷ leaf_row 1 (atom has 5 0) ∷ []
unfolding normal_rows slots_under restrict restrict_by excluded_at slots build tighten position inconsistent cells sort insert_in sorted_cells form formed written of_kind of_every write weight lay later
merging = refl

-- an impossible place: at most 0 of its link; of several at most the smallest, at least 0 goes
closing : normal_rows standing (leaf_row 0 (atom least 9 0) ∷ node_row 0 7 ∷ leaf_row 2 (atom lacks 5 0) ∷ leaf_row 0 (atom most 8 4) ∷ leaf_row 2 (atom has 5 0) ∷ leaf_row 0 (atom most 8 3) ∷ [])
    ≡ leaf_row 0 (atom most 7 0) ∷ leaf_row 0 (atom most 8 3) ∷ []
unfolding normal_rows slots_under restrict restrict_by excluded_at slots build tighten position inconsistent cells sort insert_in sorted_cells form formed written of_kind of_every write weight lay later
closing = refl

-- at least 2 and at most 1 of one link: nothing fits
impossible : normal_rows standing (leaf_row 0 (atom least 7 2) ∷ leaf_row 0 (atom has 3 0) ∷ leaf_row 0 (atom most 7 1) ∷ []) ≡ leaf_row 0 (atom nothing 0 0) ∷ []
unfolding normal_rows slots_under restrict restrict_by excluded_at slots build tighten position inconsistent cells sort insert_in sorted_cells form formed written of_kind of_every write weight lay later
impossible = refl

-- places below places, breadth first; an 'every' that owns nothing goes
deep : normal_rows standing (node_row 0 7 ∷ node_row 1 8 ∷ leaf_row 2 (atom has 1 0) ∷ node_row 0 6 ∷ node_row 4 9 ∷ node_row 1 5 ∷ leaf_row 6 (atom lacks 2 0) ∷ [])
    ≡ node_row 0 7 ∷ node_row 1 5 ∷ node_row 1 8 ∷ leaf_row 2 (atom lacks 2 0) ∷ leaf_row 3 (atom has 1 0) ∷ []
unfolding normal_rows slots_under restrict restrict_by excluded_at slots build tighten position inconsistent cells sort insert_in sorted_cells form formed written of_kind of_every write weight lay later
deep = refl

-- ---- under a background

-- a link that leads to one item only: at most 1 goes, and with it the 'every' that it alone filled; at least 2 is impossible
single : normal_rows standing
    (node_row 0 7 ∷ leaf_row 1 (atom most 32768 1) ∷ node_row 0 8 ∷ leaf_row 3 (atom least 32768 2) ∷ leaf_row 0 (atom most 32767 1) ∷ [])
    ≡ leaf_row 0 (atom most 8 0) ∷ leaf_row 0 (atom most 32767 1) ∷ []
unfolding normal_rows slots_under restrict restrict_by excluded_at slots build tighten position inconsistent cells sort insert_in sorted_cells form formed written of_kind of_every write weight lay later
single = refl

-- 1 and 2 never hold of one item
abbrev apart : Background
apart = record { cap = λ l. none; excludes = λ p q. (eqb p 1 && eqb q 2) || (eqb p 2 && eqb q 1) }

-- a place with one lacks the other; a place with both is impossible
excluding : normal_rows apart
    (leaf_row 0 (atom lacks 2 0) ∷ leaf_row 0 (atom has 1 0) ∷ node_row 0 7 ∷ leaf_row 3 (atom has 1 0) ∷ leaf_row 3 (atom has 2 0) ∷ [])
    ≡ leaf_row 0 (atom has 1 0) ∷ leaf_row 0 (atom most 7 0) ∷ []
unfolding normal_rows slots_under restrict restrict_by excluded_at slots build tighten position inconsistent cells sort insert_in sorted_cells form formed written of_kind of_every write weight lay later
excluding = refl
