-- A description's tree of places has no more entries than its list of entries, and at most 33 levels.
-- Assumes nothing.
use Prim.Native.Nat.{◌+◌, ◌-◌, ◌<◌, ◌≤◌, max, suc, zero, ℕ}
use lib.Dec.{eqb, leb}
use lib.ListN.{length, length-map}
use mathlib.Core.Bool.{◌&&◌, cond, false, true}
use mathlib.Core.List.{List, [], ◌∷◌, map}
use mathlib.Core.Path.{◌∙◌, ◌≡◌, refl}
use native.Mathlib.Omega.{arith}
use Rattle.base.proofs.Tests.{bool_cases, eq-cases, eq-eqb, iff-eq, and_both, and_left, and_right, leb-le, ne_eqb, or-none, tests}
use Rattle.blocks.proofs.Refusing.Legal.{owner-earlier}
use Rattle.blocks.proofs.Refusing.LevelLaws.{depth-under}
use Rattle.blocks.specs.Entries.{nth}
use Rattle.blocks.specs.Owners.{depth_of, depth_ok, owner_of}
use Rattle.blocks.specs.Promise.{Legal}
use Rattle.blocks.specs.declared.Entry.{Entry}
use Rattle.blocks.specs.declared.Schema.{Schema}
use Rattle.logic.proofs.Records.Counting.{sum_in}
use Rattle.logic.proofs.SpecimenTrees.Names.{Different}
use Rattle.logic.proofs.SpecimenTrees.Sums.{sum-le, sum-once, sum-zero}
use Rattle.logic.specs.Place.{Place}
use Rattle.logic.specs.Size.{levels, measure, nodes}
use Rattle.logic.specs.Tree.{Row, end, leaf, leaf_row, node, node_row, tree}
use Rattle.logic.specs.Witness.{member}
use Rattle.meaning.proofs.Descriptions.OwnedLaws.{owned-of}
use Rattle.meaning.proofs.Descriptions.Places.{all_here, place-owned}
use Rattle.meaning.specs.Description.{place_of, row_of}

-- ---- entries

-- each number of the list is below k
abbrev Below : ℕ → List ℕ → Type 0
Below k [] = Unit {0}
Below k (o ∷ os) = (o < k) × Below k os

below-member : (k : ℕ) (os : List ℕ) → Below k os → member k os ≡ false
unfolding member
below-member k [] h = refl
below-member k (o ∷ os) h = let i : o < k = h.0 in or-none {a = eqb k o} (omega tests) (below-member k os h.1)

below_suc : (k : ℕ) (os : List ℕ) → Below k os → Below (suc k) os
below_suc k [] h = tt
below_suc k (o ∷ os) h = (omega (arith, h.0), below_suc k os h.1)

module _ {A B : Type 0} where
  -- what different earlier numbers own has together no more entries than there are rows
  rows-nodes : (k : ℕ) (rs : List (Row A B)) (os : List ℕ) → Different os → Below k os → sum_in (λ o. nodes (tree k rs o)) os ≤ length rs
  unfolding tree measure sum_in
  rows-nodes k [] os u h = omega (arith, sum-zero os)
  rows-nodes k (leaf_row o' a ∷ rs) os u h =
      omega (
        arith,
        sum-le (λ o. nodes (tree k (leaf_row o' a ∷ rs) o)) (λ o. cond (eqb o o') (1 + nodes (tree (suc k) rs o)) (nodes (tree (suc k) rs o))) os
            (λ o. bool_cases (eqb o o') (λ q. rw q (omega arith)) (λ q. rw q (omega arith))),
        sum-once 1 o' (λ o. nodes (tree (suc k) rs o)) os u,
        rows-nodes (suc k) rs os u (below_suc k os h),
      )
  rows-nodes k (node_row o' b ∷ rs) os u h =
      let own : ℕ = nodes (tree (suc k) rs k) in
      let ih : own + sum_in (λ o. nodes (tree (suc k) rs o)) os ≤ length rs
      = rows-nodes (suc k) rs (k ∷ os) (below-member k os h, u) (omega arith, below_suc k os h) in
      omega (
        arith,
        sum-le (λ o. nodes (tree k (node_row o' b ∷ rs) o)) (λ o. cond (eqb o o') (suc own + nodes (tree (suc k) rs o)) (nodes (tree (suc k) rs o))) os
            (λ o. bool_cases (eqb o o') (λ q. rw q (omega arith)) (λ q. rw q (omega arith))),
        sum-once (suc own) o' (λ o. nodes (tree (suc k) rs o)) os u,
      )

  -- a tree that is read from rows has no more entries than there are rows
  pub tree-nodes : (rs : List (Row A B)) → nodes (tree 1 rs 0) ≤ length rs
  unfolding member sum_in
  tree-nodes rs = omega (arith, rows-nodes 1 rs (0 ∷ []) (refl, tt) (omega arith, tt))

-- the top of a description has no more entries than the description
pub place-nodes : (d : List Entry) → nodes (place_of d 0) ≤ length d
unfolding place_of
place-nodes d = omega (arith, tree-nodes (map row_of d), length-map d row_of)

-- ---- levels

max-leb : (a b k : ℕ) → leb (max a b) k ≡ leb a k && leb b k
max-leb a b k =
    iff-eq
    (λ e. and_both {a = leb a k} (omega tests) (omega tests))
    (λ e. let x : leb a k ≡ true = and_left (leb a k) (leb b k) e in let y : leb b k ≡ true = and_right (leb a k) (leb b k) e in omega tests)

-- a place has at most k levels if its entries allow it
pub levels-here : (k : ℕ) (t : Place) → leb (levels t) k ≡ all_here (λ a. leb 1 k) (λ l u. leb (suc (levels u)) k) t
unfolding measure all_here
levels-here k end = omega tests
levels-here k (leaf a r) = max-leb 1 (levels r) k ∙ rw (levels-here k r)
levels-here k (node l s r) = max-leb (suc (levels s)) (levels r) k ∙ rw (levels-here k r)

module _ {σ : Schema} (d : List Entry) (L : Legal σ d) where
  -- no entry is deeper than 32
  pub depth-most : (n : ℕ) → 1 ≤ n → n ≤ length d → depth_of d n ≤ 32
  unfolding depth_ok
  depth-most n lo hi = leb-le (L.depth n lo hi)

  -- what an entry owns is one deeper
  pub depth-owned : (m n : ℕ) → 1 ≤ n → 1 ≤ m → m ≤ length d → owner_of d m ≡ n → depth_of d m ≡ suc (depth_of d n)
  depth-owned m n pos lo hi q =
      let r = depth-under d m (λ k a b. owner-earlier L k a (omega arith)) (owner-earlier L m lo hi) (λ z. omega arith) in rw q at r

  -- places near the end first: a place whose entries have depth e or more has at most 33 - e levels
  place-levels-from : (left o e : ℕ) → length d ≤ o + left → e ≤ 33 → ((n : ℕ) → 1 ≤ n → n ≤ length d → owner_of d n ≡ o → e ≤ depth_of d n)
      → leb (levels (place_of d o)) (33 - e) ≡ true
  place-levels-from zero o e b small deep =
      levels-here (33 - e) (place_of d o) ∙ place-owned d L (λ a. leb 1 (33 - e)) (λ l u. leb (suc (levels u)) (33 - e)) o
      ∙ owned-of _ d o (length d) (λ n lo hi q. absurd (omega (arith, owner-earlier L n lo hi)))
  place-levels-from (suc left) o e b small deep =
      levels-here (33 - e) (place_of d o) ∙ place-owned d L (λ a. leb 1 (33 - e)) (λ l u. leb (suc (levels u)) (33 - e)) o
      ∙ owned-of _ d o (length d)
      (λ n lo hi q.
      let x = deep n lo hi q in
      let y = depth-most n lo hi in
      eq-cases (nth d n).kind 5
      (λ z.
      let ih = place-levels-from left n (suc e) (omega (arith, owner-earlier L n lo hi)) (omega arith)
      (λ m lo' hi' p. omega (arith, depth-owned m n lo lo' hi' p)) in
      rw (eq-eqb z) (omega tests))
      (λ z. rw (ne_eqb z) (omega tests)))

  -- no description is deeper than 33 levels
  pub place-levels : levels (place_of d 0) ≤ 33
  place-levels = leb-le (place-levels-from (length d) 0 0 (omega arith) (omega arith) (λ n lo hi q. omega arith))
