-- What holds of each entry of a tree: it holds of the rows that are written from the tree, and of the tree that is read from rows.
-- Assumes nothing.
use Prim.Native.Nat.{◌<◌, suc, zero, ℕ}
use lib.Dec.{eqb}
use lib.ListN.{get_or, length}
use mathlib.Core.List.{List, [], ◌∷◌, map}
use native.Mathlib.Omega.{arith}
use Rattle.base.proofs.Tests.{bool_cases}
use Rattle.logic.specs.Layout.{Queue, done, job, later, lay, weight, write}
use Rattle.logic.specs.Tree.{Row, Tree, end, leaf, leaf_row, node, node_row, tree}

module _ {A B : Type 0} (P : A → Type 0) (Q : B → Type 0) where
  -- P of each entry that owns nothing, Q of each that may own others
  abbrev pub AllEntries : Tree A B → Type 0
  AllEntries end = Unit {0}
  AllEntries (leaf a r) = P a × AllEntries r
  AllEntries (node b s r) = Q b × AllEntries s × AllEntries r

  abbrev pub OfRow : Row A B → Type 0
  OfRow (leaf_row o a) = P a
  OfRow (node_row o b) = Q b

  abbrev pub AllRows : List (Row A B) → Type 0
  AllRows [] = Unit {0}
  AllRows (r ∷ rs) = OfRow r × AllRows rs

  abbrev AllJobs : Queue (Tree A B) → Type 0
  AllJobs done = Unit {0}
  AllJobs (job o t q) = AllEntries t × AllJobs q

  -- ---- read

  pub tree_all : (k : ℕ) (rs : List (Row A B)) (o : ℕ) → AllRows rs → AllEntries (tree k rs o)
  unfolding tree
  tree_all k [] o h = tt
  tree_all k (leaf_row o' a ∷ rs) o h =
      bool_cases (eqb o o') (λ q. rw q (h.0, tree_all (suc k) rs o h.1)) (λ q. rw q (tree_all (suc k) rs o h.1))
  tree_all k (node_row o' b ∷ rs) o h =
      bool_cases (eqb o o')
      (λ q. rw q (h.0, tree_all (suc k) rs k h.1, tree_all (suc k) rs o h.1))
      (λ q. rw q (tree_all (suc k) rs o h.1))

  -- ---- written

  jobs-later : (q : Queue (Tree A B)) (k : ℕ) (t : Tree A B) → AllJobs q → AllEntries t → AllJobs (later q k t)
  unfolding later
  jobs-later done k t h e = (e, tt)
  jobs-later (job o t' q) k t h e = (h.0, jobs-later q k t h.1 e)

  lay-all : (f k : ℕ) (q : Queue (Tree A B)) → AllJobs q → AllRows (lay f k q)
  unfolding lay
  lay-all zero k q h = tt
  lay-all (suc f) k done h = tt
  lay-all (suc f) k (job o end q) h = lay-all f k q h.1
  lay-all (suc f) k (job o (leaf a r) q) h = (h.0.0, lay-all f (suc k) (job o r q) (h.0.1, h.1))
  lay-all (suc f) k (job o (node b s r) q) h =
      (h.0.0, lay-all f (suc k) (job o r (later q k s)) (h.0.2, jobs-later q k s h.1 h.0.1))

  pub write-all : (t : Tree A B) → AllEntries t → AllRows (write t)
  unfolding write
  write-all t h = lay-all (weight t) 1 (job 0 t done) (h, tt)

  -- what follows for each row, made into something else, by its number
  pub row-all : {X : Type 0} (f : Row A B → X) (R : X → Type 0) → ((r : Row A B) → OfRow r → R (f r)) → (rs : List (Row A B)) → AllRows rs
      → (z : X) (i : ℕ) → i < length rs → R (get_or (map f rs) i z)
  row-all f R g [] h z i l = absurd (omega arith)
  row-all f R g (r ∷ rs) h z zero l = g r h.0
  row-all f R g (r ∷ rs) h z (suc i) l = row-all f R g rs h.1 z i (omega arith)
