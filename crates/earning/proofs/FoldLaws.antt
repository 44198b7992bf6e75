-- Laws of leaving out by runs: what follows a trial that passes, and one that does not.
-- Assumes nothing.
use Prim.Native.Nat.{◌+◌, ◌-◌, ◌≤◌, suc, ℕ}
use lib.Dec.{eqb, leb, ltb}
use mathlib.Core.Bool.{Bool, ◌&&◌, ◌||◌, cond, false, not, true}
use mathlib.Core.List.{List}
use mathlib.Core.Path.{◌∙◌, ◌≡◌, ap, fun_ext, refl, subst, sym}
use native.Mathlib.Omega.{arith}
use Rattle.base.proofs.Tests.{and_both, and_left, and_one, and_right, bool_cases, eq-cases, eq-eqb, eqb-eq, iff-eq, ne_eqb, tests}
use Rattle.blocks.specs.declared.Entry.{Entry}
use Rattle.earning.specs.code.Tried.{Grows, Open, Turned}
use Rattle.narrow.proofs.Keeping.KeepLaws.{keep-run}
use Rattle.narrow.specs.Keeping.{keep_from, without, without_run}

-- a run of one
run-one : (a : ℕ) (K : ℕ → Bool) → without_run a (suc a) K ≡ without (suc a) K
run-one a K =
    fun_ext (λ k. ap (λ (b : Bool). K k && not b)
    (iff-eq
    (λ z. let x = and_left (ltb a k) (leb k (suc a)) z in let y = and_right (ltb a k) (leb k (suc a)) z in omega tests)
    (λ z. let e : k ≡ suc a = eqb-eq z in and_both {a = ltb a k} (omega tests) (omega tests))))

-- what is not there need not be left out
absent : (n : ℕ) (K : ℕ → Bool) → K n ≡ false → without n K ≡ K
absent n K e = fun_ext (λ k. eq-cases k n (λ z. rw (z, e)) (λ z. rw (ne_eqb z) (and_one (K k))))

module _ (P : (ℕ → Bool) → Bool) where
  -- a run that may go
  pub run-goes : Grows P → (a g : ℕ) {t : ℕ} (K : ℕ → Bool) → a + g ≡ t → P (without_run a t K) ≡ true
      → keep_from P t K ≡ keep_from P a (without_run a t K)
  run-goes more a g K e =
      subst (λ (t : ℕ). P (without_run a t K) ≡ true → keep_from P t K ≡ keep_from P a (without_run a t K)) e (keep-run P more a g K)

  -- one that may not
  stays : (a : ℕ) (K : ℕ → Bool) → P (without (suc a) K) ≡ false → keep_from P (suc a) K ≡ keep_from P a K
  unfolding keep_from
  stays a K q = rw q

  pub one-stays : (a : ℕ) {t : ℕ} (K : ℕ → Bool) → suc a ≡ t → P (without_run a t K) ≡ false → keep_from P t K ≡ keep_from P a K
  one-stays a K e =
      subst (λ (t : ℕ). P (without_run a t K) ≡ false → keep_from P t K ≡ keep_from P a K) e
      (λ p. stays a K (ap P (sym (run-one a K)) ∙ p))

  -- one that is not there
  skipped : (a : ℕ) (K : ℕ → Bool) → K (suc a) ≡ false → keep_from P (suc a) K ≡ keep_from P a K
  unfolding keep_from
  skipped a K z =
      bool_cases (P (without (suc a) K))
      (λ q. rw q (ap (keep_from P a) (absent (suc a) K z)))
      (λ q. rw q)

  pub one-absent : (a : ℕ) {t : ℕ} (K : ℕ → Bool) → suc a ≡ t → K t ≡ false → keep_from P t K ≡ keep_from P a K
  one-absent a K e = subst (λ (t : ℕ). K t ≡ false → keep_from P t K ≡ keep_from P a K) e (skipped a K)

  -- ---- a turn

  -- what a run leaves out stands as it was before it
  before-run : (a t : ℕ) (K : ℕ → Bool) (k : ℕ) → k ≤ a → without_run a t K k ≡ K k
  before-run a t K k h = let z : ltb a k ≡ false = omega tests in rw z (and_one (K k))

  -- an entry that is not there
  pub turn-skips : (es : List Entry) {t a : ℕ} {K : ℕ → Bool} → 1 ≤ t → a ≡ t - 1 → K t ≡ false → Open es t K → Turned P es t K a K
  turn-skips es {t} {a} {K} lo e z o =
      record { same = one-absent a K (omega arith) z; open' = λ k l h. o k l (omega arith) }

  -- a run is tried
  pub turn-tried : Grows P → (es : List Entry) {t run u : ℕ} (K L : ℕ → Bool) (goes : Bool) → 1 ≤ run → run ≤ t → Open es t K
      → goes ≡ P (without_run (t - run) t K) → ((k : ℕ) → L k ≡ cond goes (without_run (t - run) t K k) (K k))
      → u ≡ cond (goes || eqb run 1) (t - run) t → Turned P es t K u L
  turn-tried more es {t} {run} K L true lo hi o p l e =
      let is : L ≡ without_run (t - run) t K = fun_ext l in
      let w : t - run + run ≡ t = omega arith in
      record {
        same = rw (is, e) (run-goes more (t - run) run K w (sym p));
        open' = λ k a h. l k ∙ before-run (t - run) t K k (omega (arith, e)) ∙ o k a (omega (arith, e));
      }
  turn-tried more es {t} {run} {u} K L false lo hi o p l e =
      let is : L ≡ K = fun_ext l in
      eq-cases run 1
      (λ z.
      let v : u ≡ t - 1 = e ∙ rw (eq-eqb z, z) refl in
      let q : P (without_run u t K) ≡ false = rw v (rw z at (sym p)) in
      record { same = rw is (one-stays u K (omega arith) q); open' = λ k a h. l k ∙ o k a (omega arith) })
      (λ z.
      let v : u ≡ t = e ∙ rw (ne_eqb z) refl in
      record { same = rw (is, v) refl; open' = λ k a h. l k ∙ o k a (omega arith) })

  -- one turn after the other, and the last
  pub turned-then : {es : List Entry} {n m l : ℕ} {K L M : ℕ → Bool} → Turned P es n K m L → Turned P es m L l M → Turned P es n K l M
  turned-then s t = record { same = s.same ∙ t.same; open' = t.open' }

  none-more : {m : ℕ} (L : ℕ → Bool) → m ≡ 0 → keep_from P m L ≡ L
  unfolding keep_from
  none-more L z = rw z

  pub turned-all : {es : List Entry} {n m : ℕ} {K L : ℕ → Bool} → m ≡ 0 → Turned P es n K m L → L ≡ keep_from P n K
  turned-all {L = L} z t = sym (t.same ∙ none-more L z)
