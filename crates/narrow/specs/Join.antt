-- The narrowest place that contains two others, as it is made: place by place, kind by kind, names in ascending order.
-- Assumes nothing.
use Rattle.std.specs.Prelude.{max, min, ℕ, eqb, Bool, ◌&&◌, ◌||◌, cond, false, not, true, List, [], ◌++◌, map}
use Rattle.std.proofs.Math.Option.{Option, none, some}
use Rattle.logic.specs.Background.{Background}
use Rattle.logic.specs.Normal.{find, found, is_bottom, rank, sub, supports}
use Rattle.logic.specs.Place.{Place, atom, has, lacks, least, most}
use Rattle.logic.specs.Tree.{end, leaf, node}
use Rattle.logic.specs.Witness.{names, once, or_zero}
use Rattle.passes.specs.code.Forms.{written}
use Rattle.passes.specs.code.Slots.{Cell, cell}

-- the links of the 'every' entries of a place, put into a list
unfoldable pub every_names : Place → List ℕ → List ℕ
every_names end ys = ys
every_names (leaf a r) ys = every_names r ys
every_names (node l s r) ys = once l (every_names r ys)

-- some property that both places have excludes p
unfoldable pub implied : Background → ℕ → Place → Place → Bool
implied b p end u = false
implied b p (leaf (atom k q m) r) u =
    (eqb (rank has) (rank k) && (found (find has q u) && b.excludes q p)) || implied b p r u
implied b p (node l s r) u = implied b p r u

-- a property is listed where both have it, its lack where both support that, unless a property that both have implies
-- it
abbrev pub property_cell : Background → Place → Place → ℕ → Cell
property_cell b t u p =
    cell 0 false p (cond (found (find has p t) && found (find has p u)) 1 0)
    (cond ((supports b t (atom lacks p 0) && supports b u (atom lacks p 0)) && not (implied b p t u)) (some 0) none)

-- of two upper bounds the larger, where both are there
abbrev pub larger : Option ℕ → Option ℕ → Option ℕ
larger none o = none
larger (some m) none = none
larger (some m) (some n) = some (max m n)

-- of a link the smaller at least and the larger at most
abbrev pub link_cell : Place → Place → ℕ → Cell
link_cell t u l =
    cell l true l (min (or_zero (find least l t)) (or_zero (find least l u))) (larger (find most l t) (find most l u))

-- the names of a joined place: ps are those of the list of pairs
abbrev pub property_names : List ℕ → Place → Place → List ℕ
property_names ps t u = names has t (names lacks t (names lacks u ps))

abbrev pub link_names : Place → Place → List ℕ
link_names t u = names least t (names most t (every_names t (every_names u [])))

unfoldable pub joined_cells : Background → List ℕ → Place → Place → List Cell
joined_cells b ps t u = map (property_cell b t u) (property_names ps t u) ++ map (link_cell t u) (link_names t u)

-- below a link of which one side has at most 0 the other's place stands whole; else s, the two places joined
abbrev pub place_below : Background → Place → Place → ℕ → Place → Place
place_below b t u l s = cond (supports b u (atom most l 0)) (sub l t) (cond (supports b t (atom most l 0)) (sub l u) s)

abbrev pub make : Background → List ℕ → (ℕ → Place → Place) → Place → Place → Place
make b ps f t u = written (λ l. place_below b t u l (f l (sub l u))) (joined_cells b ps t u)

-- what t owns by link l, joined with v in the same way
unfoldable pub joined_below : Background → List ℕ → Place → ℕ → Place → Place
joined_below b ps end l v = end
joined_below b ps (leaf a r) l v = joined_below b ps r l v
joined_below b ps (node l' s r) l v =
    cond (eqb l l') (make b ps (λ l'' w. joined_below b ps s l'' w) s v) (joined_below b ps r l v)

unfoldable pub joined_place : Background → List ℕ → Place → Place → Place
joined_place b ps t u = make b ps (λ l v. joined_below b ps t l v) t u

-- where one is impossible, the other
unfoldable pub narrowest : Background → List ℕ → Place → Place → Place
narrowest b ps t u = cond (is_bottom t) u (cond (is_bottom u) t (joined_place b ps t u))
