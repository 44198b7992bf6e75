-- The entries of several owners together.
-- Assumes nothing.
use Prim.Native.Nat.{◌+◌, ◌≤◌, suc, ℕ}
use lib.Dec.{eqb}
use lib.ListN.{length}
use mathlib.Core.Bool.{Bool, ◌&&◌, ◌||◌, and_assoc, cond, false, true}
use mathlib.Core.List.{List, [], ◌∷◌}
use mathlib.Core.Path.{◌≡◌, refl, sym}
use native.Mathlib.Omega.{arith}
use Rattle.base.proofs.Tests.{and-swap, bool_cases, eqb-eq, tests}
use Rattle.logic.specs.Place.{Atom}
use Rattle.logic.specs.Record.{Record, each_linked, fits, meets}
use Rattle.logic.specs.Size.{measure, nodes}
use Rattle.logic.specs.Tree.{Row, Tree, end, leaf, leaf_row, node, node_row, tree}

module _ {A B : Type 0} where
  -- the entries of the owners that pass, among the rows that count from k
  unfoldable pub merged : ℕ → List (Row A B) → (ℕ → Bool) → Tree A B
  merged k [] p = end
  merged k (leaf_row o a ∷ rs) p = cond (p o) (leaf a (merged (suc k) rs p)) (merged (suc k) rs p)
  merged k (node_row o b ∷ rs) p = cond (p o) (node b (merged (suc k) rs (λ j. eqb k j)) (merged (suc k) rs p)) (merged (suc k) rs p)

  -- one owner
  pub merged-tree : (k : ℕ) (rs : List (Row A B)) (o : ℕ) → merged k rs (λ j. eqb o j) ≡ tree k rs o
  unfolding merged tree
  merged-tree k [] o = refl
  merged-tree k (leaf_row o' a ∷ rs) o = rw (merged-tree (suc k) rs o)
  merged-tree k (node_row o' b ∷ rs) o = rw (merged-tree (suc k) rs o, merged-tree (suc k) rs k)

  -- ---- sizes

  nodes-or : (k : ℕ) (rs : List (Row A B)) (p q : ℕ → Bool) → ((j : ℕ) → (p j && q j) ≡ false)
      → nodes (merged k rs (λ j. p j || q j)) ≡ nodes (merged k rs p) + nodes (merged k rs q)
  unfolding merged measure
  nodes-or k [] p q h = refl
  nodes-or k (leaf_row o a ∷ rs) p q h =
      let ih : nodes (merged (suc k) rs (λ j. p j || q j)) ≡ nodes (merged (suc k) rs p) + nodes (merged (suc k) rs q) = nodes-or (suc k) rs p q h in
      bool_cases (p o)
      (λ y. let z : q o ≡ false = rw y at (h o) in rw (y, z) (omega arith))
      (λ y. bool_cases (q o) (λ z. rw (y, z) (omega arith)) (λ z. rw (y, z) ih))
  nodes-or k (node_row o b ∷ rs) p q h =
      let ih : nodes (merged (suc k) rs (λ j. p j || q j)) ≡ nodes (merged (suc k) rs p) + nodes (merged (suc k) rs q) = nodes-or (suc k) rs p q h in
      bool_cases (p o)
      (λ y. let z : q o ≡ false = rw y at (h o) in rw (y, z) (omega arith))
      (λ y. bool_cases (q o) (λ z. rw (y, z) (omega arith)) (λ z. rw (y, z) ih))

  -- owners that stand before the rows own no more entries than there are rows
  merged-nodes : (k : ℕ) (rs : List (Row A B)) (p : ℕ → Bool) → ((j : ℕ) → k ≤ j → p j ≡ false) → nodes (merged k rs p) ≤ length rs
  unfolding merged measure
  merged-nodes k [] p h = omega arith
  merged-nodes k (leaf_row o a ∷ rs) p h =
      let ih : nodes (merged (suc k) rs p) ≤ length rs = merged-nodes (suc k) rs p (λ j i. h j (omega arith)) in
      bool_cases (p o) (λ y. rw y (omega arith)) (λ y. rw y (omega arith))
  merged-nodes k (node_row o b ∷ rs) p h =
      let ih : nodes (merged (suc k) rs (λ j. eqb k j || p j)) ≤ length rs
      = merged-nodes (suc k) rs (λ j. eqb k j || p j) (λ j i. let z : eqb k j ≡ false = omega tests in rw (z, h j (omega arith))) in
      let e : nodes (merged (suc k) rs (λ j. eqb k j || p j)) ≡ nodes (merged (suc k) rs (λ j. eqb k j)) + nodes (merged (suc k) rs p)
      = nodes-or (suc k) rs (λ j. eqb k j) p (λ j. bool_cases (eqb k j) (λ y. let i : k ≡ j = eqb-eq y in rw (y, h j (omega arith))) (λ y. rw y)) in
      bool_cases (p o) (λ y. rw y (omega arith)) (λ y. rw y (omega arith))

  -- a tree has no more entries than its rows
  pub tree-nodes : (rs : List (Row A B)) → nodes (tree 1 rs 0) ≤ length rs
  tree-nodes rs = rw (← (merged-tree 1 rs 0)) (merged-nodes 1 rs (λ j. eqb 0 j) (λ j i. omega tests))

-- ---- fitting

twice : (a b c : Bool) → (a && (b && c)) ≡ ((a && b) && (a && c))
twice true b c = refl
twice false b c = refl

module _ (c : Record) where
  pub merged-none : (k : ℕ) (rs : List (Row Atom ℕ)) (p : ℕ → Bool) (x : ℕ) → ((j : ℕ) → p j ≡ false) → fits c (merged k rs p) x ≡ true
  unfolding merged fits
  merged-none k [] p x h = refl
  merged-none k (leaf_row o a ∷ rs) p x h = rw (h o) (merged-none (suc k) rs p x h)
  merged-none k (node_row o l ∷ rs) p x h = rw (h o) (merged-none (suc k) rs p x h)

  -- an entry e before the rest, for two sets of owners
  both-sets : (a b e f g : Bool) {h : Bool} → h ≡ f && g → cond (a || b) (e && h) h ≡ cond a (e && f) f && cond b (e && g) g
  both-sets true true e f g h = rw h (twice e f g)
  both-sets true false e f g h = rw h (sym (and_assoc e f g))
  both-sets false true e f g h = rw h (and-swap e f g)
  both-sets false false e f g h = h

  fits-cond : (a : Bool) (t u : Tree Atom ℕ) (x : ℕ) → fits c (cond a t u) x ≡ cond a (fits c t x) (fits c u x)
  fits-cond true t u x = refl
  fits-cond false t u x = refl

  -- what two sets of owners ask
  pub merged-or : (k : ℕ) (rs : List (Row Atom ℕ)) (p q : ℕ → Bool) (x : ℕ)
      → fits c (merged k rs (λ j. p j || q j)) x ≡ fits c (merged k rs p) x && fits c (merged k rs q) x
  unfolding merged fits
  merged-or k [] p q x = refl
  merged-or k (leaf_row o a ∷ rs) p q x = simp fits-cond (both-sets (p o) (q o) (meets c a x) _ _ (merged-or (suc k) rs p q x))
  merged-or k (node_row o l ∷ rs) p q x =
      simp fits-cond
      (both-sets (p o) (q o) (each_linked c l x (λ y. fits c (merged (suc k) rs (λ j. eqb k j)) y)) _ _ (merged-or (suc k) rs p q x))
