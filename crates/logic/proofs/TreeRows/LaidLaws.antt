-- How a place is laid out, its leaves and then its nodes, and the steps that it takes.
-- Assumes nothing.
use Prim.Native.Nat.{◌+◌, suc, zero, ℕ}
use lib.ListN.{length}
use mathlib.Core.List.{List, [], ◌++◌, ◌∷◌}
use mathlib.Core.Path.{◌∙◌, ◌≡◌, ap, refl}
use native.Mathlib.Nat.{add-zero}
use native.Mathlib.Omega.{arith}
use Rattle.logic.specs.Laying.{Joint, codes, joint, joint_rows, joints, leaf_rows, leaves}
use Rattle.logic.proofs.TreeRows.LayoutLaws.{load, load-later}
use Rattle.logic.specs.Filling.{later_each}
use Rattle.logic.specs.Layout.{Queue, done, job, later, lay, weight}
use Rattle.logic.specs.Tree.{Row, Tree, leaf_row, node_row}

-- ---- one code for each node

pub codes-length : {B : Type 0} (ns : List (Joint B)) → length (codes ns) ≡ length ns
unfolding codes
codes-length [] = refl
codes-length (joint b c ∷ ns) = ap suc (codes-length ns)

-- ---- the rows of a place are as many as its leaves and nodes

pub leaf-length : {A : Type 0} (B : Type 0) (o : ℕ) (ls : List A) → length (leaf_rows {A = A} {B = B} o ls) ≡ length ls
unfolding leaf_rows
leaf-length B o [] = refl
leaf-length B o (a ∷ ls) = ap suc (leaf-length B o ls)

pub joint-length : (A : Type 0) {B : Type 0} (o : ℕ) (ns : List (Joint B)) → length (joint_rows {A = A} {B = B} o ns) ≡ length ns
unfolding joint_rows
joint-length A o [] = refl
joint-length A o (joint b c ∷ ns) = ap suc (joint-length A o ns)

module _ {A B : Type 0} where
  -- ---- a place that is laid out

  -- leaves take one step each
  leaves-laid : (ls : List A) (f g k o : ℕ) (t : Tree A B) (Q : Queue (Tree A B)) → g ≡ length ls + f
      → lay g k (job o (leaves ls t) Q) ≡ leaf_rows o ls ++ lay f (k + length ls) (job o t Q)
  unfolding lay leaves leaf_rows
  leaves-laid [] f g k o t Q e =
      let g' : g ≡ f = omega arith in
      rw (g', add-zero k)
  leaves-laid (a ∷ ls) f g k o t Q e =
      let g' : g ≡ suc (length ls + f) = omega arith in
      let k' : k + suc (length ls) ≡ suc k + length ls = omega arith in
      rw (g', k') (ap (λ (l : List (Row A B)). leaf_row o a ∷ l) (leaves-laid ls f (length ls + f) (suc k) o t Q refl))

  -- so do nodes, and the end takes one more
  joints-laid : (T : ℕ → Tree A B) (ns : List (Joint B)) (f g k o : ℕ) (Q : Queue (Tree A B)) → g ≡ suc (length ns) + f
      → lay g k (job o (joints T ns) Q) ≡ joint_rows o ns ++ lay f (k + length ns) (later_each T Q k (codes ns))
  unfolding lay joints joint_rows codes later_each
  joints-laid T [] f g k o Q e =
      let g' : g ≡ suc f = omega arith in
      rw (g', add-zero k)
  joints-laid T (joint b c ∷ ns) f g k o Q e =
      let g' : g ≡ suc (suc (length ns) + f) = omega arith in
      let k' : k + suc (length ns) ≡ suc k + length ns = omega arith in
      rw (g', k') (ap (λ (l : List (Row A B)). node_row o b ∷ l) (joints-laid T ns f (suc (length ns) + f) (suc k) o (later Q k (T c)) refl))

  -- one step for each leaf and each node, and one for the end of the place; the places below wait
  pub place-laid : (T : ℕ → Tree A B) (ls : List A) (ns : List (Joint B)) (f g k o : ℕ) (Q : Queue (Tree A B)) → g ≡ length ls + (suc (length ns) + f)
      → lay g k (job o (leaves ls (joints T ns)) Q)
      ≡ leaf_rows o ls ++ (joint_rows o ns ++ lay f (k + length ls + length ns) (later_each T Q (k + length ls) (codes ns)))
  place-laid T ls ns f g k o Q e =
      leaves-laid ls (suc (length ns) + f) g k o (joints T ns) Q e
      ∙ ap (λ (l : List (Row A B)). leaf_rows o ls ++ l) (joints-laid T ns f (suc (length ns) + f) (k + length ls) o Q refl)

  -- without jobs there are no rows
  pub done-laid : (f k : ℕ) → lay {A = A} {B = B} f k done ≡ []
  unfolding lay
  done-laid zero k = refl
  done-laid (suc f) k = refl

  -- ---- the steps that it takes

  -- one for each leaf
  leaves-weight : (ls : List A) (t : Tree A B) → weight (leaves ls t) ≡ length ls + weight t
  unfolding leaves weight
  leaves-weight [] t = omega arith
  leaves-weight (a ∷ ls) t = omega (arith, leaves-weight ls t)

  -- one for each node, one for the end, and those of the places below, which may as well wait as jobs
  joints-weight : (T : ℕ → Tree A B) (ns : List (Joint B)) (Q : Queue (Tree A B)) (k : ℕ)
      → weight (joints T ns) + load Q ≡ suc (length ns) + load (later_each T Q k (codes ns))
  unfolding joints codes later_each weight
  joints-weight T [] Q k = refl
  joints-weight T (joint b c ∷ ns) Q k = omega (arith, joints-weight T ns (later Q k (T c)) (suc k), load-later Q k (T c))

  -- those of a whole place
  pub place-load : (T : ℕ → Tree A B) (ls : List A) (ns : List (Joint B)) (k o : ℕ) (Q : Queue (Tree A B))
      → load (job o (leaves ls (joints T ns)) Q) ≡ length ls + (suc (length ns) + load (later_each T Q k (codes ns)))
  unfolding load
  place-load T ls ns k o Q = omega (arith, leaves-weight ls (joints T ns), joints-weight T ns Q k)
