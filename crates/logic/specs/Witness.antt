-- The specimen of a comparison: an item that fits a normal place and does not meet an entry that the place does not hold.
-- Assumes nothing.
use Rattle.std.specs.Prelude.{max, pred, suc, ℕ, eqb, ltb, Bool, ◌||◌, cond, false, List, [], ◌∷◌}
use Rattle.std.proofs.Math.Option.{Option, none, some}
use Rattle.logic.specs.Normal.{find, rank}
use Rattle.logic.specs.Place.{Atom, Kind, Place, atom, has, lacks, least, most, nothing}
use Rattle.logic.specs.SpecimenTree.{SpecimenTree, group}
use Rattle.logic.specs.Tree.{end, leaf, node}

-- ---- the target

-- what a place of the specimen is to refute: nothing, or the atom at the links w
pub data Target : Type 0 where
  off : Target
  on : List ℕ → Atom → Target

-- the target of the place that link l leads to
abbrev pub next : Target → ℕ → Target
next off l = off
next (on [] a) l = off
next (on (l' ∷ w) a) l = cond (eqb l l') (on w a) off

-- the items that an atom asks for, to be refuted: [C10] one more than the at most that is to fail
abbrev pub want_at : Atom → ℕ → ℕ
want_at (atom has n m) l = 0
want_at (atom lacks n m) l = 0
want_at (atom least n m) l = 0
want_at (atom most n m) l = cond (eqb l n) (suc m) 0
want_at (atom nothing n m) l = 0

-- the items that a target asks for: [C10] one on the way to W
abbrev pub want : Target → ℕ → ℕ
want off l = 0
want (on [] a) l = want_at a l
want (on (l' ∷ w) a) l = cond (eqb l l') 1 0

-- the links of which an atom, or a target, asks for items
abbrev pub links_at : Atom → List ℕ
links_at (atom has n m) = []
links_at (atom lacks n m) = []
links_at (atom least n m) = []
links_at (atom most n m) = n ∷ []
links_at (atom nothing n m) = []

abbrev pub target_links : Target → List ℕ
target_links off = []
target_links (on [] a) = links_at a
target_links (on (l ∷ w) a) = l ∷ []

-- the properties that an atom, or a target, asks for: [C11] the property that is to be lacked
abbrev pub properties_at : Atom → List ℕ
properties_at (atom has n m) = []
properties_at (atom lacks n m) = n ∷ []
properties_at (atom least n m) = []
properties_at (atom most n m) = []
properties_at (atom nothing n m) = []

abbrev pub target_properties : Target → List ℕ
target_properties off = []
target_properties (on [] a) = properties_at a
target_properties (on (l ∷ w) a) = []

-- ---- counts and names

abbrev pub or_zero : Option ℕ → ℕ
or_zero none = 0
or_zero (some m) = m

-- [C10] the count is N's at least, or what the target asks for, if that is more
abbrev pub count_for : Place → Target → ℕ → ℕ
count_for t g l = max (or_zero (find least l t)) (want g l)

-- a number is in a list
unfoldable pub member : ℕ → List ℕ → Bool
member x [] = false
member x (y ∷ ys) = eqb x y || member x ys

-- a number put before the first larger one
unfoldable pub put_ascending : ℕ → List ℕ → List ℕ
put_ascending x [] = x ∷ []
put_ascending x (y ∷ ys) = cond (ltb x y) (x ∷ y ∷ ys) (y ∷ put_ascending x ys)

-- a number put into an ascending list, once
unfoldable pub once : ℕ → List ℕ → List ℕ
once x ys = cond (member x ys) ys (put_ascending x ys)

-- the names of the entries of kind k of a place, put into a list
unfoldable pub names : Kind → Place → List ℕ → List ℕ
names k end ys = ys
names k (leaf (atom k' n m) r) ys = cond (eqb (rank k) (rank k')) (once n (names k r ys)) (names k r ys)
names k (node l s r) ys = names k r ys

-- ---- the specimen

-- groups by the links of a list, f l items by l, each as s l says: [C10] a count above 0 is a group
unfoldable pub groups_by : List ℕ → (ℕ → ℕ) → (ℕ → SpecimenTree) → SpecimenTree
groups_by [] f s = end
groups_by (l ∷ ls) f s = cond (eqb (f l) 0) (groups_by ls f s) (node (group l (pred (f l))) (s l) (groups_by ls f s))

-- properties before the groups
unfoldable pub with_properties : List ℕ → SpecimenTree → SpecimenTree
with_properties [] s = s
with_properties (p ∷ ps) s = leaf p (with_properties ps s)

-- The specimen of a place, given those of the places below it: [C11] the properties that N has there, and the one to
-- be lacked, and groups, [C10] each filled in the same way.
unfoldable pub build : (ℕ → Target → SpecimenTree) → Place → Target → SpecimenTree
build f t g =
    with_properties (names has t (target_properties g)) (groups_by (names least t (target_links g)) (count_for t g) (λ l. f l (next g l)))

-- the specimen of a place that asks nothing
unfoldable pub path : List ℕ → Atom → SpecimenTree
path [] a = build (λ l g. end) end (on [] a)
path (l ∷ w) a = node (group l 0) (path w a) end

abbrev pub path_of : Target → SpecimenTree
path_of off = end
path_of (on w a) = path w a

-- the specimen of the place that link l leads to
unfoldable pub below : Place → ℕ → Target → SpecimenTree
below end l g = path_of g
below (leaf a r) l g = below r l g
below (node l' s r) l g = cond (eqb l l') (build (λ l'' g'. below s l'' g') s g) (below r l g)

-- [C9] one place for each path of links
unfoldable pub witness : Place → Target → SpecimenTree
witness t g = build (λ l g'. below t l g') t g
