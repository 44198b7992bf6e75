-- What entries say as a tree of places: the place of entries is that of their tree, and what holds of each entry
-- holds in walking order.
-- Assumes nothing.
use Rattle.std.proofs.Common.{◌≡◌, ℕ, suc, ◌+◌, ◌<◌, ◌≤◌, cond, eqb, List, [], ◌∷◌, ◌++◌, map, length, get_or, refl, ap, arith}
use mathlib.Core.List.{map-append}
use Rattle.base.proofs.Tests.{bool_cases}
use Rattle.blocks.specs.Entries.{zero_entry}
use Rattle.blocks.specs.Promise.{Legal}
use Rattle.blocks.specs.declared.Entry.{Entry}
use Rattle.blocks.specs.declared.Schema.TheVariants.{Description}
use Rattle.logic.proofs.TreeRows.AllEntries.{AllEntries, AllRows, tree_all}
use Rattle.logic.specs.Place.{Place}
use Rattle.logic.specs.Size.{levels, measure}
use Rattle.logic.specs.Tree.{Tree, end, leaf, node, tree}
use Rattle.meaning.proofs.Descriptions.PlaceSize.{place-levels}
use Rattle.meaning.specs.Description.{atom_of, place_of, row_of}
use Rattle.stored.proofs.StoredBytes.{AllIn}
use Rattle.stored.specs.Stored.{owned_entry}
use Rattle.stored.specs.Walked.{Mark, at_depth, bare, entries_under, entry_row, leaf_at, mark_stored, node_at, walk_of, walked}
use Rattle.stored.specs.declared.StoredEntry.{StoredEntry}

-- ---- as places

-- what a tree of entries says
unfoldable pub said : Tree Entry Entry → Place
said end = end
said (leaf e r) = leaf (atom_of e) (said r)
said (node e s r) = node e.name (said s) (said r)

said-rows : (k : ℕ) (es : List Entry) (o : ℕ) → tree k (map row_of es) o ≡ said (tree k (map entry_row es) o)
unfolding tree said row_of entry_row
said-rows k [] o = refl
said-rows k (e ∷ es) o =
    bool_cases (eqb e.kind 5)
    (λ q. bool_cases (eqb o e.owner)
    (λ w. rw (row_of, entry_row, q, tree, w, said-rows (suc k) es k, said-rows (suc k) es o) refl)
    (λ w. rw (row_of, entry_row, q, tree, w, said-rows (suc k) es o) refl))
    (λ q. bool_cases (eqb o e.owner)
    (λ w. rw (row_of, entry_row, q, tree, w, said-rows (suc k) es o) refl)
    (λ w. rw (row_of, entry_row, q, tree, w, said-rows (suc k) es o) refl))

-- entries with one tree are one place
pub place-said : (es : List Entry) (o : ℕ) → place_of es o ≡ said (entries_under es o)
unfolding place_of entries_under
place-said es o = said-rows 1 es o

levels-said : (t : Tree Entry Entry) → levels (said t) ≡ levels t
unfolding said measure
levels-said end = refl
levels-said (leaf e r) = rw (levels-said r)
levels-said (node e s r) = rw (levels-said s, levels-said r)

pub levels-most : (es : List Entry) → Legal Description es → levels (entries_under es 0) ≤ 33
levels-most es L = omega (arith, levels-said (entries_under es 0), ap levels (place-said es 0), place-levels es L)

-- ---- in walking order

abbrev pub stored_marks : ℕ → Tree Entry Entry → List StoredEntry
stored_marks d t = map mark_stored (walked d t)

-- of two parts
all-append : {A : Type 0} (P : A → Type 0) (xs ys : List A) → AllIn P xs → AllIn P ys → AllIn P (xs ++ ys)
all-append P [] ys p q = q
all-append P (x ∷ xs) ys p q = (p.0, all-append P xs ys p.1 q)

all-map : {A B : Type 0} (P : B → Type 0) (f : A → B) (xs ys : List A) → AllIn P (map f xs) → AllIn P (map f ys) → AllIn P (map f (xs ++ ys))
all-map P f [] ys p q = q
all-map P f (x ∷ xs) ys p q = (p.0, all-map P f xs ys p.1 q)

-- no entry is as deep as the levels from its own on
deep-marks : (m d : ℕ) (t : Tree Entry Entry) → d + levels t ≤ m → AllIn (λ (x : StoredEntry). x.depth < m) (stored_marks d t)
unfolding walked measure
deep-marks m d end h = tt
deep-marks m d (leaf e r) h = (omega arith, deep-marks m d r (omega arith))
deep-marks m d (node e s r) h =
    (omega arith, all-map (λ (x : StoredEntry). x.depth < m) mark_stored (walked (suc d) s) (walked d r) (deep-marks m (suc d) s (omega arith)) (deep-marks m d r (omega arith)))

pub walk-deep : (es : List Entry) → Legal Description es → AllIn (λ (x : StoredEntry). x.depth < 33) (walk_of es)
unfolding walk_of
walk-deep es L = deep-marks 33 0 (entries_under es 0) (omega (arith, levels-most es L))

-- what holds of each entry without its owner
module _ (G : Entry → Type 0) where
  abbrev Bare : Entry → Type 0
  Bare e = G (bare e)

  rows-bare : (es : List Entry) → ((k : ℕ) → k < length es → G (bare (get_or es k zero_entry))) → AllRows Bare Bare (map entry_row es)
  unfolding entry_row
  rows-bare [] h = tt
  rows-bare (e ∷ es) h =
      let r = rows-bare es (λ k l. h (suc k) (omega arith)) in
      let g : G (bare e) = h 0 (omega arith) in
      bool_cases (eqb e.kind 5) (λ q. rw (entry_row, q) (g, r)) (λ q. rw (entry_row, q) (g, r))

  bare-marks : (d : ℕ) (t : Tree Entry Entry) → AllEntries Bare Bare t → AllIn (λ (x : StoredEntry). G (owned_entry 0 x)) (stored_marks d t)
  unfolding walked
  bare-marks d end h = tt
  bare-marks d (leaf e r) h = (h.0, bare-marks d r h.1)
  bare-marks d (node e s r) h =
      (h.0, all-map (λ (x : StoredEntry). G (owned_entry 0 x)) mark_stored (walked (suc d) s) (walked d r) (bare-marks (suc d) s h.1) (bare-marks d r h.2))

  pub walk-bare : (es : List Entry) → ((k : ℕ) → k < length es → G (bare (get_or es k zero_entry))) → AllIn (λ (x : StoredEntry). G (owned_entry 0 x)) (walk_of es)
  unfolding walk_of entries_under
  walk-bare es h = bare-marks 0 (entries_under es 0) (tree_all Bare Bare 1 (map entry_row es) 0 (rows-bare es h))

-- ---- marks

-- an entry as a mark
abbrev pub mark_of : StoredEntry → Mark Entry Entry
mark_of x = cond (eqb x.kind 5) (node_at x.depth (owned_entry 0 x)) (leaf_at x.depth (owned_entry 0 x))

pub marked : (x : StoredEntry) → mark_stored (mark_of x) ≡ x
marked x = bool_cases (eqb x.kind 5) (λ q. rw q refl) (λ q. rw q refl)

-- a mark that is made from an entry of its kind
abbrev Leaf : Entry → Type 0
Leaf e = (d : ℕ) → mark_of (at_depth d e) ≡ leaf_at d e

abbrev Node : Entry → Type 0
Node e = (d : ℕ) → mark_of (at_depth d e) ≡ node_at d e

rows-marked : (es : List Entry) → AllRows Leaf Node (map entry_row es)
unfolding entry_row
rows-marked [] = tt
rows-marked (e ∷ es) =
    let r = rows-marked es in
    bool_cases (eqb e.kind 5)
    (λ q. rw (entry_row, q) ((λ (d : ℕ). rw q refl), r))
    (λ q. rw (entry_row, q) ((λ (d : ℕ). rw q refl), r))

marks-again : (d : ℕ) (t : Tree Entry Entry) → AllEntries Leaf Node t → map mark_of (stored_marks d t) ≡ walked d t
unfolding walked
marks-again d end h = refl
marks-again d (leaf e r) h = rw (h.0 d, marks-again d r h.1)
marks-again d (node e s r) h = rw (h.0 d) (ap (λ (l : List (Mark Entry Entry)). node_at d e ∷ l)
    (both (walked (suc d) s) (walked d r) (marks-again (suc d) s h.1) (marks-again d r h.2)))
  where
    both : (xs ys : List (Mark Entry Entry)) → map mark_of (map mark_stored xs) ≡ xs → map mark_of (map mark_stored ys) ≡ ys
        → map mark_of (map mark_stored (xs ++ ys)) ≡ xs ++ ys
    both xs ys p q = rw (map-append mark_stored xs ys, map-append mark_of (map mark_stored xs) (map mark_stored ys), p, q) refl

-- the entries in walking order are marks of their kinds
pub walk-marks : (es : List Entry) → map mark_of (walk_of es) ≡ walked 0 (entries_under es 0)
unfolding walk_of entries_under
walk-marks es = marks-again 0 (entries_under es 0) (tree_all Leaf Node 1 (map entry_row es) 0 (rows-marked es))
