-- Trees of rows that stand in a row, and of rows that were moved.
-- Assumes nothing.
use Prim.Native.Nat.{◌+◌, ◌<◌, ◌≤◌, suc, zero, ℕ}
use lib.Dec.{eqb}
use lib.ListN.{length}
use mathlib.Core.Bool.{false}
use mathlib.Core.List.{List, [], ◌++◌, ◌∷◌, map}
use mathlib.Core.Logic.{◌⊎◌, inr, ⊎_elim}
use mathlib.Core.Path.{◌∙◌, ◌≡◌, ap, refl}
use native.Mathlib.Nat.{add-suc, add-zero}
use native.Mathlib.Omega.{arith}
use Rattle.base.proofs.Tests.{bool_cases, tests}
use Rattle.logic.specs.Tree.{Row, Tree, end, leaf, leaf_row, node, node_row, row_owner, tree}
use Rattle.names.proofs.Entries.Numbers.{shifted-apart, shifted-later, shifted-same}
use Rattle.names.specs.Unfold.{shifted}

module _ {A B : Type 0} where
  -- ---- rows in a row

  -- the entries of one place after those of another
  unfoldable pub join : Tree A B → Tree A B → Tree A B
  join end t = t
  join (leaf a r) t = leaf a (join r t)
  join (node b s r) t = node b s (join r t)

  join-end : (t : Tree A B) → join t end ≡ t
  unfolding join
  join-end end = refl
  join-end (leaf a r) = rw (join-end r)
  join-end (node b s r) = rw (join-end r)

  -- no row is owned by a number above lo and below hi
  abbrev pub Avoids : ℕ → ℕ → List (Row A B) → Type 0
  Avoids lo hi [] = Unit {0}
  Avoids lo hi (r ∷ rs) = ((row_owner r ≤ lo) ⊎ (hi ≤ row_owner r)) × Avoids lo hi rs

  -- such a number owns nothing
  avoids-none : (k lo hi : ℕ) (rs : List (Row A B)) → Avoids lo hi rs → (o : ℕ) → lo < o → o < hi → tree k rs o ≡ end
  unfolding tree
  avoids-none k lo hi [] h o a b = refl
  avoids-none k lo hi (leaf_row o' x ∷ rs) h o a b =
      let z : eqb o o' ≡ false = ⊎_elim (λ (y : o' ≤ lo). omega tests) (λ (y : hi ≤ o'). omega tests) h.0 in
      rw z (avoids-none (suc k) lo hi rs h.1 o a b)
  avoids-none k lo hi (node_row o' x ∷ rs) h o a b =
      let z : eqb o o' ≡ false = ⊎_elim (λ (y : o' ≤ lo). omega tests) (λ (y : hi ≤ o'). omega tests) h.0 in
      rw z (avoids-none (suc k) lo hi rs h.1 o a b)

  -- rows after rows that own none of them: what both give an owner stands in a row
  pub tree-append : (k : ℕ) (rs qs : List (Row A B)) (lo : ℕ) → lo < k → Avoids lo (k + length rs) qs → (o : ℕ)
      → tree k (rs ++ qs) o ≡ join (tree k rs o) (tree (k + length rs) qs o)
  unfolding tree join
  tree-append k [] qs lo l h o = rw add-zero
  tree-append k (leaf_row o' x ∷ rs) qs lo l h o =
      let e : k + suc (length rs) ≡ suc k + length rs = omega arith in
      let ih = tree-append (suc k) rs qs lo (omega arith) (rw e at h) o in
      rw (e, ih) (bool_cases (eqb o o') (λ q. rw q) (λ q. rw q))
  tree-append k (node_row o' x ∷ rs) qs lo l h o =
      let e : k + suc (length rs) ≡ suc k + length rs = omega arith in
      let h' : Avoids lo (suc k + length rs) qs = rw e at h in
      let ih = tree-append (suc k) rs qs lo (omega arith) h' o in
      let below : tree (suc k) (rs ++ qs) k ≡ tree (suc k) rs k =
      tree-append (suc k) rs qs lo (omega arith) h' k
      ∙ ap (join (tree (suc k) rs k)) (avoids-none (suc k + length rs) lo (suc k + length rs) qs h' k l (omega arith))
      ∙ join-end (tree (suc k) rs k) in
      rw (e, ih, below) (bool_cases (eqb o o') (λ q. rw q) (λ q. rw q))

  -- ---- moved rows

  abbrev pub move_row : ℕ → ℕ → Row A B → Row A B
  move_row m o (leaf_row j a) = leaf_row (shifted m o j) a
  move_row m o (node_row j b) = node_row (shifted m o j) b

  -- they make the same tree
  pub tree-moved : (m o k : ℕ) (rs : List (Row A B)) → o ≤ m → 1 ≤ k → (j : ℕ) → tree (m + k) (map (move_row m o) rs) (shifted m o j) ≡ tree k rs j
  unfolding tree
  tree-moved m o k [] l p j = refl
  tree-moved m o k (leaf_row j' a ∷ rs) l p j = rw (shifted-same m o j j' l, ← (add-suc m k), tree-moved m o (suc k) rs l (omega arith) j)
  tree-moved m o k (node_row j' b ∷ rs) l p j =
      let below : tree (m + suc k) (map (move_row m o) rs) (m + k) ≡ tree (suc k) rs k
      = rw (shifted-later m o k p) at (tree-moved m o (suc k) rs l (omega arith) k) in
      rw (shifted-same m o j j' l, ← (add-suc m k), tree-moved m o (suc k) rs l (omega arith) j, below)

  -- no other number up to m owns any of them
  pub moved_apart : (m o k : ℕ) (rs : List (Row A B)) (i : ℕ) → i ≤ m → eqb i o ≡ false → tree k (map (move_row m o) rs) i ≡ end
  unfolding tree
  moved_apart m o k [] i l z = refl
  moved_apart m o k (leaf_row j a ∷ rs) i l z = rw (shifted-apart m o i j l z) (moved_apart m o (suc k) rs i l z)
  moved_apart m o k (node_row j b ∷ rs) i l z = rw (shifted-apart m o i j l z) (moved_apart m o (suc k) rs i l z)

  -- nor does any between those of the rows that stood before them and their own
  pub moved-avoids : (lo hi m o : ℕ) (rs qs : List (Row A B)) → (o ≤ lo) ⊎ (hi ≤ o) → hi ≤ suc m → Avoids lo hi qs
      → Avoids lo hi (map (move_row m o) rs ++ qs)
  moved-avoids lo hi m o [] qs h l g = g
  moved-avoids lo hi m o (leaf_row zero a ∷ rs) qs h l g = (h, moved-avoids lo hi m o rs qs h l g)
  moved-avoids lo hi m o (leaf_row (suc j) a ∷ rs) qs h l g = (inr (omega arith), moved-avoids lo hi m o rs qs h l g)
  moved-avoids lo hi m o (node_row zero b ∷ rs) qs h l g = (h, moved-avoids lo hi m o rs qs h l g)
  moved-avoids lo hi m o (node_row (suc j) b ∷ rs) qs h l g = (inr (omega arith), moved-avoids lo hi m o rs qs h l g)
