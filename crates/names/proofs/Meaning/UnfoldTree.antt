-- The tree of an unfolded description: the trees of the contents, put in at the places of their names.
-- Assumes nothing.
use Prim.Native.Nat.{◌+◌, ◌≤◌, suc, ℕ}
use lib.Dec.{eqb}
use lib.ListN.{length, length-map}
use mathlib.Core.Bool.{Bool, cond, false, true}
use mathlib.Core.List.{List, [], ◌∷◌, map, map-append}
use mathlib.Core.Logic.{◌⊎◌, inl, inr}
use mathlib.Core.Path.{◌∙◌, ◌≡◌, refl}
use native.Mathlib.Omega.{arith}
use Rattle.base.proofs.Tests.{bool_cases, eq-cases, eq-eqb, eqb-eq, eqb-self, ne_eqb, tests}
use Rattle.blocks.specs.Entries.{is_named}
use Rattle.blocks.specs.declared.Entry.{Entry}
use Rattle.logic.specs.Place.{Atom, Place}
use Rattle.logic.specs.Tree.{Row, Tree, end, leaf, leaf_row, node, node_row, tree}
use Rattle.meaning.specs.Description.{atom_of, place_of, row_of}
use Rattle.names.proofs.Entries.Numbers.{Numbering, numbering-entry, numbering-name, numbering-top, owning, owning-before, owning-none, owning-other, same-owner, top_owns}
use Rattle.names.proofs.Entries.OwnerSteps.{Owners, name-owns-none, unfold-entry, unfold-name}
use Rattle.names.proofs.Meaning.JoinedTrees.{Avoids, join, move_row, moved_apart, moved-avoids, tree-append, tree-moved}
use Rattle.names.specs.NamedMeaning.{named_place, named_row}
use Rattle.names.specs.Unfold.{noted, owned_by, relocate, unfold_from, unfolded}

-- [D3] put in at the place of the entry: P gives the top of what each name stands for
unfoldable pub graft : (ℕ → Place) → Tree Entry ℕ → Place
graft P end = end
graft P (leaf e r) = cond (is_named e) (join (P e.name) (graft P r)) (leaf (atom_of e) (graft P r))
graft P (node l s r) = node l (graft P s) (graft P r)

-- ---- rows of entries

row-every : (e : Entry) → eqb e.kind 5 ≡ true → row_of e ≡ node_row e.owner e.name
unfolding row_of
row-every e h = rw h

row_other : (e : Entry) → eqb e.kind 5 ≡ false → row_of e ≡ leaf_row e.owner (atom_of e)
unfolding row_of
row_other e h = rw h

named-every : (e : Entry) → eqb e.kind 5 ≡ true → named_row e ≡ node_row e.owner e.name
unfolding named_row
named-every e h = rw h

named_other : (e : Entry) → eqb e.kind 5 ≡ false → named_row e ≡ leaf_row e.owner e
unfolding named_row
named_other e h = rw h

-- moved entries are moved rows
rows-moved : (m o : ℕ) (es : List Entry) → map row_of (map (relocate m o) es) ≡ map (move_row m o) (map row_of es)
rows-moved m o [] = refl
rows-moved m o (e ∷ es) =
    bool_cases (eqb e.kind 5)
    (λ q. rw (row-every e q, row-every (relocate m o e) q, rows-moved m o es))
    (λ q. rw (row_other e q, row_other (relocate m o e) q, rows-moved m o es))

module _ (T : ℕ → List Entry) where
  -- the top of the contents of a name
  abbrev top : ℕ → Place
  top n = place_of (T n) 0

  -- no entry is owned by a number that no owner has
  unfold-avoids : (lo hi : ℕ) (own : ℕ → Bool) (ν : ℕ → ℕ) (k m : ℕ) (es : List Entry) → Owners own k es
      → ((j : ℕ) → own j ≡ true → (ν j ≤ lo) ⊎ (hi ≤ ν j)) → hi ≤ suc m → Avoids lo hi (map row_of (unfold_from T ν k m es))
  unfolding unfold_from
  unfold-avoids lo hi own ν k m [] w h l = tt
  unfold-avoids lo hi own ν k m (e ∷ es) w h l =
      bool_cases (is_named e)
      (λ q.
      let n : ℕ = length (T e.name) in
      let rest = unfold-avoids lo hi (owning own k e) ν (suc k) (m + n) es w.1 (λ j g. h j (owning-none own k e j (name-owns-none e q) g)) (omega arith) in
      rw (unfold-name T ν k m e es q, map-append, rows-moved m (ν e.owner) (T e.name))
      (moved-avoids lo hi m (ν e.owner) (map row_of (T e.name)) (map row_of (unfold_from T ν (suc k) (m + n) es)) (h e.owner w.0) l rest))
      (λ q.
      let here = h e.owner w.0 in
      let rest = unfold-avoids lo hi (owning own k e) (noted ν k (suc m)) (suc k) (suc m) es w.1
      (λ j g. eq-cases j k (λ p. rw (eq-eqb p) (inr l)) (λ p. rw (ne_eqb p) (h j (owning-other own k e j (ne_eqb p) g)))) (omega arith) in
      bool_cases (eqb e.kind 5)
      (λ p. rw (unfold-entry T ν k m e es q, row-every (owned_by (ν e.owner) e) p) (here, rest))
      (λ p. rw (unfold-entry T ν k m e es q, row_other (owned_by (ν e.owner) e) p) (here, rest)))

  -- what a name puts in
  tree-name : (own : ℕ → Bool) (ν : ℕ → ℕ) (k m : ℕ) (e : Entry) (es : List Entry) → Owners own k (e ∷ es) → Numbering own ν k m → is_named e ≡ true
      → (j : ℕ) → own j ≡ true
      → tree (suc (m + length (T e.name))) (map row_of (unfold_from T ν (suc k) (m + length (T e.name)) es)) (ν j) ≡ graft top (tree (suc k) (map named_row es) j)
      → tree (suc m) (map row_of (unfold_from T ν k m (e ∷ es))) (ν j) ≡ graft top (tree k (map named_row (e ∷ es)) j)
  unfolding tree graft place_of
  tree-name own ν k m e es w N q j h ih =
      let o : ℕ = e.owner in
      let n : ℕ = length (T e.name) in
      let rs : List (Row Atom ℕ) = map row_of (T e.name) in
      let xs : List (Row Atom ℕ) = map (move_row m (ν o)) rs in
      let ys : List (Row Atom ℕ) = map row_of (unfold_from T ν (suc k) (m + n) es) in
      let size : length xs ≡ n = length-map rs (move_row m (ν o)) ∙ length-map (T e.name) row_of in
      let none : eqb e.kind 5 ≡ false = name-owns-none e q in
      let rest : Avoids m (suc (m + n)) ys
      = unfold-avoids m (suc (m + n)) (owning own k e) ν (suc k) (m + n) es w.1 (λ i g. inl (N.bound i (owning-none own k e i none g))) (omega arith) in
      let after : suc m + length xs ≡ suc (m + n) = omega arith in
      let split = tree-append (suc m) xs ys m (omega arith) (rw after rest) (ν j) in
      let there : suc m ≡ m + 1 = omega arith in
      rw (unfold-name T ν k m e es q, map-append, rows-moved m (ν o) (T e.name), named_other e none)
      (split ∙ rw (after, ih) (bool_cases (eqb j o)
      (λ p.
      let i : j ≡ o = eqb-eq p in
      let moved : tree (suc m) xs (ν o) ≡ tree 1 rs 0 = rw there (tree-moved m (ν o) 1 rs (N.bound o w.0) (omega arith) 0) in
      rw (p, q, i, moved))
      (λ p. rw (p, moved_apart m (ν o) (suc m) rs (ν j) (N.bound j h) (same-owner N j o h w.0 ∙ p)) (unfold join in refl))))

  -- unfolding is putting the contents in at their places
  pub unfold-tree-from : (own : ℕ → Bool) (ν : ℕ → ℕ) (k m : ℕ) (es : List Entry) → Owners own k es → Numbering own ν k m
      → (j : ℕ) → own j ≡ true → tree (suc m) (map row_of (unfold_from T ν k m es)) (ν j) ≡ graft top (tree k (map named_row es) j)
  unfolding unfold_from tree graft
  unfold-tree-from own ν k m [] w N j h = refl
  unfold-tree-from own ν k m (e ∷ es) w N j h =
      bool_cases (is_named e)
      (λ q. tree-name own ν k m e es w N q j h
      (unfold-tree-from (owning own k e) ν (suc k) (m + length (T e.name)) es w.1 (numbering-name N (length (T e.name)) e (name-owns-none e q)) j
      (owning-before own k e j h)))
      (λ q.
      let o : ℕ = e.owner in
      let jk : eqb j k ≡ false = omega (tests, N.early j h) in
      let ih : (i : ℕ) → owning own k e i ≡ true
      → tree (suc (suc m)) (map row_of (unfold_from T (noted ν k (suc m)) (suc k) (suc m) es)) (noted ν k (suc m) i) ≡ graft top (tree (suc k) (map named_row es) i)
      = unfold-tree-from (owning own k e) (noted ν k (suc m)) (suc k) (suc m) es w.1 (numbering-entry N e) in
      let here = rw jk at (ih j (owning-before own k e j h)) in
      bool_cases (eqb e.kind 5)
      (λ p.
      let below = rw (eqb-self k) at (ih k (rw (eqb-self k, p))) in
      rw (unfold-entry T ν k m e es q, row-every (owned_by (ν o) e) p, named-every e p, same-owner N j o h w.0, here, below)
      (bool_cases (eqb j o) (λ z. rw z) (λ z. rw z)))
      (λ p.
      rw (unfold-entry T ν k m e es q, row_other (owned_by (ν o) e) p, named_other e p, same-owner N j o h w.0, here)
      (bool_cases (eqb j o) (λ z. rw (z, q)) (λ z. rw z))))

  -- a whole description
  pub unfold-tree : (es : List Entry) → Owners top_owns 1 es → place_of (unfolded T es) 0 ≡ graft top (named_place es 0)
  unfolding unfolded place_of named_place
  unfold-tree es w = unfold-tree-from top_owns (λ j. j) 1 0 es w numbering-top 0 refl
