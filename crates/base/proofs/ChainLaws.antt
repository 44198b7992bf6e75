-- The laws of chains: the last number of a bucket, a walk along its chain from the last number to the first, and a new number put in
-- front of its chain.
-- Assumes nothing.
use Prim.Native.Nat.{◌-◌, ◌<◌, ◌≤◌, suc, zero, ℕ}
use lib.Dec.{eqb}
use mathlib.Core.Bool.{false, true}
use mathlib.Core.Logic.{◌≢◌}
use mathlib.Core.Path.{◌∙◌, ◌≡◌, ap, refl, sym}
use native.Mathlib.Numerals.{sub-one}
use native.Mathlib.Omega.{arith}
use Rattle.base.proofs.Missing.{not-true}
use Rattle.base.proofs.Tests.{bool_cases, both_ways, eq-cases, eq-eqb, eqb-eq, ne_eqb, tests}
use Rattle.base.specs.Chain.{Chains, OnChain, last_where}

-- ---- the last number of a bucket

module _ (c : ℕ → ℕ) where
  pub last-most : (b n : ℕ) → last_where c b n ≤ n
  unfolding last_where
  last-most b zero = omega arith
  last-most b (suc n) = bool_cases (eqb (c (suc n)) b) (λ q. rw q (omega arith)) (λ q. rw q (omega (arith, last-most b n)))

  -- it is of the bucket
  pub last-bucket : (b n : ℕ) → last_where c b n ≢ 0 → c (last_where c b n) ≡ b
  unfolding last_where
  last-bucket b zero h = absurd (h refl)
  last-bucket b (suc n) h = bool_cases (eqb (c (suc n)) b) (λ q. rw q (eqb-eq q)) (λ q. rw q (last-bucket b n (rw q at h)))

  -- where there is none, no number is
  pub last_none : (b n : ℕ) → last_where c b n ≡ 0 → (k : ℕ) → 1 ≤ k → k ≤ n → eqb (c k) b ≡ false
  unfolding last_where
  last_none b zero e k lo hi = absurd (omega arith)
  last_none b (suc n) e k lo hi =
      bool_cases (eqb (c (suc n)) b)
      (λ q. let z : suc n ≡ 0 = rw (last_where, q) at e in absurd (omega arith))
      (λ q. eq-cases k (suc n) (λ z. rw z q) (λ z. last_none b n (rw (last_where, q) at e) k lo (omega arith)))

  -- where no number is, there is none
  last-absent : (b n : ℕ) → ((k : ℕ) → 1 ≤ k → k ≤ n → c k ≢ b) → last_where c b n ≡ 0
  unfolding last_where
  last-absent b zero h = refl
  last-absent b (suc n) h = rw (ne_eqb (h (suc n) (omega arith) (omega arith))) (last-absent b n (λ k lo hi. h k lo (omega arith)))

  -- a number of the bucket is the last down from itself
  pub last-here : (b k : ℕ) → k ≢ 0 → c k ≡ b → last_where c b k ≡ k
  unfolding last_where
  last-here b zero z e = absurd (z refl)
  last-here b (suc k) z e = rw (eq-eqb e)

  -- one of another bucket does not count
  pub last-other : (b n : ℕ) → eqb (c (suc n)) b ≡ false → last_where c b (suc n) ≡ last_where c b n
  unfolding last_where
  last-other b n e = rw e

  -- what numbers of other buckets do not change is the same at the last number of the bucket
  pub last-skips : {A : Type 0} (F : ℕ → A) (b : ℕ) → ((k : ℕ) → eqb (c (suc k)) b ≡ false → F (suc k) ≡ F k) → (n : ℕ) → F n ≡ F (last_where c b n)
  unfolding last_where
  last-skips F b skip zero = refl
  last-skips F b skip (suc n) = bool_cases (eqb (c (suc n)) b) (λ q. rw q) (λ q. rw q (skip n q ∙ last-skips F b skip n))

-- the same buckets, the same last number
last-same : (c c' : ℕ → ℕ) (b n : ℕ) → ((k : ℕ) → 1 ≤ k → k ≤ n → c' k ≡ c k) → last_where c' b n ≡ last_where c b n
unfolding last_where
last-same c c' b zero same = refl
last-same c c' b (suc n) same = rw (same (suc n) (omega arith) (omega arith), last-same c c' b n (λ k lo hi. same k lo (omega arith)))

-- ---- a walk

-- the last number of a bucket is on its chain, if there is one
pub last_on : (c : ℕ → ℕ) (b n : ℕ) {k : ℕ} → k ≡ last_where c b n → OnChain c b k n
last_on c b n e = record {
  bound = omega (arith, last-most c b n);
  bucket = λ z. rw e (last-bucket c b n (λ q. z (e ∙ q)));
}

module _ {c next head : ℕ → ℕ} {most n : ℕ} (C : Chains c next head most n) (b : ℕ) {k : ℕ} where
  -- it begins at the last number
  module _ (h : b < most) (e : k ≡ head b) where
    pub walk-starts : OnChain c b k n
    walk-starts = last_on c b n (e ∙ C.last b h)

    pub skip-starts : {A : Type 0} (F : ℕ → A) → ((i : ℕ) → eqb (c (suc i)) b ≡ false → F (suc i) ≡ F i) → F n ≡ F k
    skip-starts F skip = last-skips c F b skip n ∙ ap F (sym (e ∙ C.last b h))

  -- it goes on to the number before
  module _ (S : OnChain c b k n) (z : k ≢ 0) {j : ℕ} (e : j ≡ next k) where
    before-is : j ≡ last_where c b (k - 1)
    before-is = e ∙ C.previous k (omega arith) S.bound ∙ ap (λ (x : ℕ). last_where c x (k - 1)) (S.bucket z)

    pub walk-goes : OnChain c b j n
    walk-goes = let o = last_on c b (k - 1) before-is in record { bound = omega (arith, o.bound, S.bound); bucket = o.bucket }

    pub walk-falls : j < k
    walk-falls = omega (arith, last-most c b (k - 1), before-is)

    pub skip-goes : {A : Type 0} (F : ℕ → A) → ((i : ℕ) → eqb (c (suc i)) b ≡ false → F (suc i) ≡ F i) → F (k - 1) ≡ F j
    skip-goes F skip = last-skips c F b skip (k - 1) ∙ ap F (sym before-is)

-- ---- a search by key: each number has a key, and the bucket is made of it

module _ (key bucket : ℕ → ℕ) where
  -- a number of another bucket has another key
  skip-key : (x i : ℕ) → eqb (bucket (key (suc i))) (bucket x) ≡ false → last_where key x (suc i) ≡ last_where key x i
  skip-key x i e = last-other key x i (not-true (λ q. both_ways (eq-eqb (ap bucket (eqb-eq q))) e))

  module _ {next head : ℕ → ℕ} {most n : ℕ} (C : Chains (λ j. bucket (key j)) next head most n) (x : ℕ) {k : ℕ} where
    -- it begins at the last number of the key's bucket
    pub key-starts : bucket x < most → k ≡ head (bucket x) → last_where key x n ≡ last_where key x k
    key-starts h e = skip-starts C (bucket x) h e (last_where key x) (skip-key x)

    -- it goes on past a number of another key
    pub key-goes : OnChain (λ j. bucket (key j)) (bucket x) k n → (z : k ≢ 0) {j : ℕ} → j ≡ next k → key k ≢ x → last_where key x k ≡ last_where key x j
    key-goes S z e other =
        let at : k ≡ suc (k - 1) = omega arith in
        ap (last_where key x) at
        ∙ last-other key x (k - 1) (ne_eqb (λ y. other (ap key at ∙ y)))
        ∙ skip-goes C (bucket x) S z e (last_where key x) (skip-key x)

-- ---- the chains

-- of no numbers
pub chains-start : (c next : ℕ → ℕ) {head : ℕ → ℕ} {most : ℕ} → ((b : ℕ) → b < most → head b ≡ 0) → Chains c next head most 0
unfolding last_where
chains-start c next h = record { last = h; previous = λ k lo hi. absurd (omega arith) }

-- of the same buckets
pub chains-same : {c c' next head : ℕ → ℕ} {most n : ℕ} → ((k : ℕ) → c' k ≡ c k) → Chains c next head most n → Chains c' next head most n
chains-same {c} {c'} {next} {head} {most} {n} same C = record {
  last = λ b h. C.last b h ∙ sym (last-same c c' b n (λ k lo hi. same k));
  previous = λ k lo hi. C.previous k lo hi ∙ rw (same k) (sym (last-same c c' (c k) (k - 1) (λ j a d. same j)));
}

-- a new number that no chain has: its bucket is past the table, and its own
pub chains-skip : {c next head : ℕ → ℕ} {most n m : ℕ} → Chains c next head most n → m ≡ suc n → most ≤ c m
    → ((k : ℕ) → 1 ≤ k → k ≤ n → c k ≢ c m) → next m ≡ 0 → Chains c next head most m
chains-skip {c} {next} {head} {most} {n} {m} C is past own none =
    rw is (record {
      last = λ b h. let other : eqb (c (suc n)) b ≡ false = omega (tests, ap c is) in C.last b h ∙ sym (last-other c b n other);
      previous = λ k lo hi. eq-cases k (suc n)
          (λ z. rw (z, sub-one) ((rw is at none) ∙ sym (last-absent c (c (suc n)) n (λ j a d. rw is at (own j a d)))))
          (λ z. C.previous k lo (omega arith));
    })

-- a new number put in front of its chain
pub chains-more : {c c' next next' head head' : ℕ → ℕ} {most n m b : ℕ} → Chains c next head most n → m ≡ suc n
    → ((k : ℕ) → k ≢ m → c' k ≡ c k) → c' m ≡ b → b < most
    → ((k : ℕ) → k ≢ m → next' k ≡ next k) → next' m ≡ head b
    → ((q : ℕ) → q < most → q ≢ b → head' q ≡ head q) → head' b ≡ m
    → Chains c' next' head' most m
unfolding last_where
chains-more {c} {c'} {next} {next'} {head} {head'} {most} {n} {m} {b} C is old new small next-old next-new head-old head-new =
    let same : (q i : ℕ) → i ≤ n → last_where c' q i ≡ last_where c q i = λ q i l. last-same c c' q i (λ k lo hi. old k (λ z. omega arith)) in
    let new' : c' (suc n) ≡ b = rw is at new in
    let next'-new : next' (suc n) ≡ head b = rw is at next-new in
    rw is (record {
      last = λ q h. eq-cases q b
          (λ z. let y : eqb (c' (suc n)) q ≡ true = omega tests in rw (y, z) (head-new ∙ is))
          (λ z. let y : eqb (c' (suc n)) q ≡ false = omega tests in rw y (head-old q h z ∙ C.last q h ∙ sym (same q n (omega arith))));
      previous = λ k lo hi. eq-cases k (suc n)
          (λ z. rw (z, new', sub-one) (next'-new ∙ C.last b small ∙ sym (same b n (omega arith))))
          (λ z.
          next-old k (λ y. omega arith) ∙ C.previous k lo (omega arith)
          ∙ rw (old k (λ y. omega arith)) (sym (same (c k) (k - 1) (omega arith))));
    })
