-- Rows that were written from a tree are read as that tree, and are as many as it has entries.
-- Assumes nothing.
use Prim.Native.Nat.{◌+◌, ◌<◌, ◌≤◌, suc, zero, ℕ}
use lib.Dec.{eqb}
use lib.ListN.{length}
use mathlib.Core.Bool.{cond, false}
use mathlib.Core.Path.{◌∙◌, ◌≡◌, refl}
use native.Mathlib.Omega.{arith}
use Rattle.base.proofs.Tests.{bool_cases, eqb-eq, eqb-self, tests}
use Rattle.logic.specs.Layout.{Queue, done, job, later, lay, weight, write}
use Rattle.logic.specs.Size.{measure, nodes}
use Rattle.logic.specs.Tree.{Early, Tree, end, leaf, node, tree}

module _ {A B : Type 0} where
  -- ---- sizes

  pub weight-pos : (t : Tree A B) → 0 < weight t
  unfolding weight
  weight-pos end = omega arith
  weight-pos (leaf a r) = omega arith
  weight-pos (node b s r) = omega arith

  -- the steps that the jobs take, and the rows that they give
  unfoldable pub load : Queue (Tree A B) → ℕ
  load done = 0
  load (job o t q) = weight t + load q

  total : Queue (Tree A B) → ℕ
  total done = 0
  total (job o t q) = nodes t + total q

  pub load-later : (q : Queue (Tree A B)) (k : ℕ) (t : Tree A B) → load (later q k t) ≡ weight t + load q
  unfolding load later
  load-later done k t = refl
  load-later (job o t' q) k t = omega (arith, load-later q k t)

  total-later : (q : Queue (Tree A B)) (k : ℕ) (t : Tree A B) → total (later q k t) ≡ nodes t + total q
  unfolding total later
  total-later done k t = refl
  total-later (job o t' q) k t = omega (arith, total-later q k t)

  lay-length : (f k : ℕ) (q : Queue (Tree A B)) → load q ≤ f → length (lay f k q) ≡ total q
  unfolding lay load total weight measure
  lay-length zero k done w = refl
  lay-length zero k (job o t q) w = absurd (omega (arith, weight-pos t))
  lay-length (suc f) k done w = refl
  lay-length (suc f) k (job o end q) w = omega (arith, lay-length f k q (omega arith))
  lay-length (suc f) k (job o (leaf a r) q) w = omega (arith, lay-length f (suc k) (job o r q) (omega arith))
  lay-length (suc f) k (job o (node b s r) q) w =
      let i : load (job o r (later q k s)) ≤ f = omega (arith, load-later q k s) in
      omega (arith, lay-length f (suc k) (job o r (later q k s)) i, total-later q k s)

  -- ---- reading back

  -- what the jobs say that the number o owns
  ask : Queue (Tree A B) → ℕ → Tree A B
  ask done o = end
  ask (job o' t q) o = cond (eqb o o') t (ask q o)

  -- no job of the owner o
  abbrev Without : ℕ → Queue (Tree A B) → Type 0
  Without o done = Unit {0}
  Without o (job o' t q) = (eqb o o' ≡ false) × Without o q

  -- the owners stand before number k, each once
  abbrev Ready : ℕ → Queue (Tree A B) → Type 0
  Ready k done = Unit {0}
  Ready k (job o t q) = (o < k) × Without o q × Ready k q

  ask-without : (o : ℕ) (q : Queue (Tree A B)) → Without o q → ask q o ≡ end
  unfolding ask
  ask-without o done h = refl
  ask-without o (job o' t q) h = rw h.0 (ask-without o q h.1)

  without-later : (o : ℕ) (q : Queue (Tree A B)) (k : ℕ) (t : Tree A B) → o < k → Without o q → Without o (later q k t)
  unfolding later
  without-later o done k t e h = (omega tests, tt)
  without-later o (job o' t' q) k t e h = (h.0, without-later o q k t e h.1)

  ready-later : (k : ℕ) (q : Queue (Tree A B)) (t : Tree A B) → Ready k q → Ready (suc k) (later q k t)
  unfolding later
  ready-later k done t h = (omega arith, tt, tt)
  ready-later k (job o t' q) t h = (omega (arith, h.0), without-later o q k t h.0 h.1, ready-later k q t h.2)

  ready-suc : (k : ℕ) (q : Queue (Tree A B)) → Ready k q → Ready (suc k) q
  ready-suc k done h = tt
  ready-suc k (job o t q) h = (omega (arith, h.0), h.1, ready-suc k q h.2)

  ask-later : (q : Queue (Tree A B)) (k : ℕ) (t : Tree A B) (o : ℕ) → o < k → ask (later q k t) o ≡ ask q o
  unfolding ask later
  ask-later done k t o h = let z : eqb o k ≡ false = omega tests in rw z
  ask-later (job o' t' q) k t o h = rw (ask-later q k t o h)

  ask-new : (q : Queue (Tree A B)) (k : ℕ) (t : Tree A B) → Ready k q → ask (later q k t) k ≡ t
  unfolding ask later
  ask-new done k t h = rw (eqb-self k)
  ask-new (job o t' q) k t h = let i : o < k = h.0 in let z : eqb k o ≡ false = omega tests in rw z (ask-new q k t h.2)

  lay-reads : (f k : ℕ) (q : Queue (Tree A B)) → load q ≤ f → Ready k q → (o : ℕ) → o < k → tree k (lay f k q) o ≡ ask q o
  unfolding lay tree ask load weight
  lay-reads zero k done w h o i = refl
  lay-reads zero k (job o' t q) w h o i = absurd (omega (arith, weight-pos t))
  lay-reads (suc f) k done w h o i = refl
  lay-reads (suc f) k (job o' end q) w h o i =
      lay-reads f k q (omega arith) h.2 o i ∙ bool_cases (eqb o o')
      (λ z. let e : o ≡ o' = eqb-eq z in rw (z, e) (ask-without o' q h.1))
      (λ z. rw z)
  lay-reads (suc f) k (job o' (leaf a r) q) w h o i =
      let ih : tree (suc k) (lay f (suc k) (job o' r q)) o ≡ ask (job o' r q) o
      = lay-reads f (suc k) (job o' r q) (omega arith) (ready-suc k (job o' r q) h) o (omega arith) in
      bool_cases (eqb o o') (λ z. rw (z, ih, z)) (λ z. rw (z, ih, z))
  lay-reads (suc f) k (job o' (node b s r) q) w h o i =
      let j : o' < k = h.0 in
      let q' : Queue (Tree A B) = job o' r (later q k s) in
      let g : Ready (suc k) q' = (omega arith, without-later o' q k s h.0 h.1, ready-later k q s h.2) in
      let l : load q' ≤ f = omega (arith, load-later q k s) in
      let ih : tree (suc k) (lay f (suc k) q') o ≡ ask q' o = lay-reads f (suc k) q' l g o (omega arith) in
      let new : tree (suc k) (lay f (suc k) q') k ≡ s
      = lay-reads f (suc k) q' l g k (omega arith) ∙ (let z : eqb k o' ≡ false = omega tests in rw z (ask-new q k s h.2)) in
      bool_cases (eqb o o') (λ z. rw (z, ih, new, z)) (λ z. rw (z, ih, z) (ask-later q k s o i))

  lay-early : (f k : ℕ) (q : Queue (Tree A B)) → Ready k q → Early k (lay f k q)
  unfolding lay
  lay-early zero k q h = tt
  lay-early (suc f) k done h = tt
  lay-early (suc f) k (job o' end q) h = lay-early f k q h.2
  lay-early (suc f) k (job o' (leaf a r) q) h = (h.0, lay-early f (suc k) (job o' r q) (ready-suc k (job o' r q) h))
  lay-early (suc f) k (job o' (node b s r) q) h =
      let j : o' < k = h.0 in
      (j, lay-early f (suc k) (job o' r (later q k s)) (omega arith, without-later o' q k s j h.1, ready-later k q s h.2))

  -- ---- a whole tree

  -- what was written is read as it was
  pub write-reads : (t : Tree A B) → tree 1 (write t) 0 ≡ t
  unfolding write
  write-reads t =
      lay-reads (weight t) 1 (job 0 t done) (unfold load in omega arith) (omega arith, tt, tt) 0 (omega arith) ∙ (unfold ask in refl)

  -- each owner stands before what it owns
  pub write-early : (t : Tree A B) → Early 1 (write t)
  unfolding write
  write-early t = lay-early (weight t) 1 (job 0 t done) (omega arith, tt, tt)

  -- one row for each entry
  pub write-length : (t : Tree A B) → length (write t) ≡ nodes t
  unfolding write
  write-length t =
      let i : load (job 0 t done) ≤ weight t = unfold load in omega arith in
      let e : total (job 0 t done) ≡ nodes t = unfold total in omega arith in
      lay-length (weight t) 1 (job 0 t done) i ∙ e
