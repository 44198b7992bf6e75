-- A tree whose places ascend by kind and name, written as rows: their entries ascend by owner, then kind, then name. The places of a
-- description and the groups of a specimen are two uses.
-- Assumes nothing.
use Prim.Native.Nat.{◌<◌, ◌≤◌, suc, zero, ℕ}
use lib.Dec.{ltb}
use mathlib.Core.Bool.{true}
use mathlib.Core.List.{map}
use mathlib.Core.Path.{◌≡◌, refl}
use native.Mathlib.Omega.{arith}
use Rattle.base.proofs.Tests.{and_both, eqb-self, lt-ltb, or_left, or_right}
use Rattle.base.specs.Ascending.{AllAfter, Sorted}
use Rattle.blocks.specs.declared.Entry.{Entry}
use Rattle.logic.specs.Layout.{Queue, done, job, later, lay, weight, write}
use Rattle.logic.specs.Normal.{before}
use Rattle.logic.specs.Tree.{Row, Tree, end, leaf, leaf_row, node, node_row, row_owner}
use Rattle.meaning.specs.RowEntries.{entry_before}

module _ {A B : Type 0} (entry : Row A B → Entry) where
  -- a row's leaf or node, as the top owns it: kind and name go by it
  abbrev pub top : Row A B → Entry
  top (leaf_row o a) = entry (leaf_row 0 a)
  top (node_row o b) = entry (node_row 0 b)

  -- what is asked of a row's entry: its owner is the row's; its kind and name are the same whoever owns it
  abbrev pub Keyed : Row A B → Type 0
  Keyed x = ((entry x).owner ≡ row_owner x) × ((entry x).kind ≡ (top x).kind) × ((entry x).name ≡ (top x).name)

  -- each entry of a place stands after kind k and name n
  abbrev pub After : ℕ → ℕ → Tree A B → Type 0
  After k n end = Unit {0}
  After k n (leaf a r) = (before k n (entry (leaf_row 0 a)).kind (entry (leaf_row 0 a)).name ≡ true) × After k n r
  After k n (node b s r) = (before k n (entry (node_row 0 b)).kind (entry (node_row 0 b)).name ≡ true) × After k n r

  -- the entries of a place, and of each place below it, ascend
  abbrev pub Deep : Tree A B → Type 0
  Deep end = Unit {0}
  Deep (leaf a r) = After (entry (leaf_row 0 a)).kind (entry (leaf_row 0 a)).name r × Deep r
  Deep (node b s r) = After (entry (node_row 0 b)).kind (entry (node_row 0 b)).name r × Deep s × Deep r

  -- the jobs' owners ascend from `lo` on and stand before number k
  abbrev Rising : ℕ → ℕ → Queue (Tree A B) → Type 0
  Rising k lo done = Unit {0}
  Rising k lo (job o t q) = (lo ≤ o) × (o < k) × Deep t × Rising k (suc o) q

  rising-more : (k lo : ℕ) (q : Queue (Tree A B)) → Rising k lo q → Rising (suc k) lo q
  rising-more k lo done h = tt
  rising-more k lo (job o t q) h = (h.0, omega (arith, h.1), h.2, rising-more k (suc o) q h.3)

  rising-later : (k lo : ℕ) (q : Queue (Tree A B)) (s : Tree A B) → lo ≤ k → Deep s → Rising k lo q → Rising (suc k) lo (later q k s)
  unfolding later
  rising-later k lo done s i d h = (i, omega arith, d, tt)
  rising-later k lo (job o t q) s i d h = (h.0, omega (arith, h.1), h.2, rising-later k (suc o) q s (omega (arith, h.1)) d h.3)

  -- the jobs after the next entry of a place
  after-leaf : (k lo o : ℕ) (a : A) (r : Tree A B) (q : Queue (Tree A B)) → Rising k lo (job o (leaf a r) q) → Rising (suc k) lo (job o r q)
  after-leaf k lo o a r q h = (h.0, omega (arith, h.1), h.2.1, rising-more k (suc o) q h.3)

  after-node : (k lo o : ℕ) (b : B) (s r : Tree A B) (q : Queue (Tree A B)) → Rising k lo (job o (node b s r) q)
      → Rising (suc k) lo (job o r (later q k s))
  after-node k lo o b s r q h = (h.0, omega (arith, h.1), h.2.2, rising-later k (suc o) q s (omega (arith, h.1)) h.2.1 h.3)

  module _ (keyed : (x : Row A B) → Keyed x) where
    -- a row of a later owner, and one of the same owner with a later kind and name
    over : (e : Entry) (x : Row A B) → e.owner < row_owner x → entry_before e (entry x) ≡ true
    over e x i = rw (keyed x).0 (or_left _ (lt-ltb i))

    beside : (x y : Row A B) → row_owner x ≡ row_owner y → before (top x).kind (top x).name (top y).kind (top y).name ≡ true
        → entry_before (entry x) (entry y) ≡ true
    beside x y e b =
        rw ((keyed x).0, (keyed x).1, (keyed x).2, (keyed y).0, (keyed y).1, (keyed y).2, e) (or_right (ltb (row_owner y) (row_owner y)) (and_both (eqb-self (row_owner y)) b))

    -- an entry of a lower owner stands before all rows of the jobs
    lay-over : (f k lo : ℕ) (q : Queue (Tree A B)) (e : Entry) → e.owner < lo → Rising k lo q → AllAfter entry_before e (map entry (lay f k q))
    unfolding lay
    lay-over zero k lo q e i h = tt
    lay-over (suc f) k lo done e i h = tt
    lay-over (suc f) k lo (job o end q) e i h = lay-over f k (suc o) q e (omega (arith, h.0)) h.3
    lay-over (suc f) k lo (job o (leaf a r) q) e i h =
        (over e (leaf_row o a) (omega (arith, h.0)), lay-over f (suc k) lo (job o r q) e i (after-leaf k lo o a r q h))
    lay-over (suc f) k lo (job o (node b s r) q) e i h =
        (over e (node_row o b) (omega (arith, h.0)), lay-over f (suc k) lo (job o r (later q k s)) e i (after-node k lo o b s r q h))

    -- a row of the first job's owner, whose kind and name stand before those of the job, stands before all rows
    lay-next : (f k lo : ℕ) (x : Row A B) (t : Tree A B) (q : Queue (Tree A B)) → After (top x).kind (top x).name t → Rising k lo (job (row_owner x) t q)
        → AllAfter entry_before (entry x) (map entry (lay f k (job (row_owner x) t q)))
    unfolding lay
    lay-next zero k lo x t q a h = tt
    lay-next (suc f) k lo x end q a h = lay-over f k (suc (row_owner x)) q (entry x) (omega (arith, (keyed x).0)) h.3
    lay-next (suc f) k lo x (leaf y r) q a h =
        (beside x (leaf_row (row_owner x) y) refl a.0, lay-next f (suc k) lo x r q a.1 (after-leaf k lo (row_owner x) y r q h))
    lay-next (suc f) k lo x (node b s r) q a h =
        (beside x (node_row (row_owner x) b) refl a.0, lay-next f (suc k) lo x r (later q k s) a.1 (after-node k lo (row_owner x) b s r q h))

    lay-ascends : (f k lo : ℕ) (q : Queue (Tree A B)) → Rising k lo q → Sorted entry_before (map entry (lay f k q))
    unfolding lay
    lay-ascends zero k lo q h = tt
    lay-ascends (suc f) k lo done h = tt
    lay-ascends (suc f) k lo (job o end q) h = lay-ascends f k (suc o) q h.3
    lay-ascends (suc f) k lo (job o (leaf a r) q) h =
        let g = after-leaf k lo o a r q h in
        (lay-next f (suc k) lo (leaf_row o a) r q h.2.0 g, lay-ascends f (suc k) lo (job o r q) g)
    lay-ascends (suc f) k lo (job o (node b s r) q) h =
        let g = after-node k lo o b s r q h in
        (lay-next f (suc k) lo (node_row o b) r (later q k s) h.2.0 g, lay-ascends f (suc k) lo (job o r (later q k s)) g)

    -- a tree that ascends at every depth, as entries
    pub laid-ascends : (t : Tree A B) → Deep t → Sorted entry_before (map entry (write t))
    unfolding write
    laid-ascends t d = lay-ascends (weight t) 1 0 (job 0 t done) (omega arith, omega arith, d, tt)
