-- Following direct superiors reaches every strict container, and nothing else; and classes.
-- Assumes nothing.
use Rattle.std.proofs.Common.{◌≡◌, ◌≢◌, ℕ, zero, suc, ◌+◌, ◌-◌, ◌<◌, ◌≤◌, Bool, true, false, not, ◌&&◌, ◌||◌, refl, sym, ap, ◌∙◌, arith}
use Rattle.base.proofs.SearchLaws.{Least, first-least, first-none}
use Rattle.base.proofs.Tests.{and_both, and_left, and_right, bool_cases, eq-cases, false_of_not, iff-eq, not-to-true, or_cases, or_left, or_right, true_of_not}
use Rattle.base.specs.Range.{bit}
use Rattle.base.specs.Search.{first_from}
use Rattle.logic.specs.Record.{count}
use Rattle.meaning.specs.Hierarchy.{Leads, Ordered, alike, between, class_of, direct, some_below, strict}
use Rattle.meaning.specs.Hierarchy.Leads.{last, on}

-- ---- numbers below n

some-at : {A : Type 0} (p : ℕ → Bool) (n : ℕ) → some_below p n ≡ true → ((k : ℕ) → k < n → p k ≡ true → A) → A
unfolding some_below
some-at p zero h f = absurd (let z : ◌≡◌ {A = ℕ} 0 1 = cc in omega arith)
some-at p (suc n) h f = or_cases (p n) (some_below p n) h (λ q. f n (omega arith) q) (λ q. some-at p n q (λ k l r. f k (omega arith) r))

count_at_most : (p q : ℕ → Bool) (n : ℕ) → ((k : ℕ) → k < n → p k ≡ true → q k ≡ true) → count p n ≤ count q n
unfolding count
count_at_most p q zero f = omega arith
count_at_most p q (suc n) f =
    let h = count_at_most p q n (λ k l r. f k (omega arith) r) in
    bool_cases (p n)
    (λ r. let s = f n (omega arith) r in rw (r, s) (omega arith))
    (λ r. bool_cases (q n) (λ s. rw (r, s) (omega arith)) (λ s. rw (r, s) (omega arith)))

-- one number that passes the second test and not the first
count_fewer : (p q : ℕ → Bool) (n k : ℕ) → ((k : ℕ) → k < n → p k ≡ true → q k ≡ true) → k < n → p k ≡ false → q k ≡ true → count p n < count q n
unfolding count
count_fewer p q zero k f l a b = absurd (omega arith)
count_fewer p q (suc n) k f l a b =
    eq-cases k n
    (λ z.
    let h = count_at_most p q n (λ k l r. f k (omega arith) r) in
    let a' : p n ≡ false = rw (← z) a in let b' : q n ≡ true = rw (← z) b in rw (a', b') (omega arith))
    (λ z.
    let h = count_fewer p q n k (λ k l r. f k (omega arith) r) (omega arith) a b in
    bool_cases (p n)
    (λ r. let s = f n (omega arith) r in rw (r, s) (omega arith))
    (λ r. bool_cases (q n) (λ s. rw (r, s) (omega arith)) (λ s. rw (r, s) (omega arith))))

-- searches with tests that agree
first-same : (f g : ℕ → Bool) (k n : ℕ) → ((j : ℕ) → k ≤ j → j < k + n → f j ≡ g j) → first_from f k n ≡ first_from g k n
unfolding first_from
first-same f g k zero h = refl
first-same f g k (suc n) h = rw (h k (omega arith) (omega arith), first-same f g (suc k) n (λ j lo hi. h j (omega arith) (omega arith)))

module _ (t : ℕ → ℕ → Bool) (n : ℕ) (O : Ordered t n) where
  -- ---- the strict order

  strict_not_itself : (i : ℕ) → strict t i i ≡ true → ⊥
  strict_not_itself i h =
      let a = and_left (t i i) (not (t i i)) h in
      let b = false_of_not (t i i) (and_right (t i i) (not (t i i)) h) in
      let z : ◌≡◌ {A = ℕ} 0 1 = cc in omega arith

  pub strict-through : (i j k : ℕ) → i < n → j < n → k < n → strict t i j ≡ true → strict t j k ≡ true → strict t i k ≡ true
  strict-through i j k li lj lk a b =
      let a₀ = and_left (t i j) (not (t j i)) a in
      let a₁ = false_of_not (t j i) (and_right (t i j) (not (t j i)) a) in
      let b₀ = and_left (t j k) (not (t k j)) b in
      and_both (O.through i j k li lj lk a₀ b₀)
      (bool_cases (t k i)
      (λ q. let c = O.through j k i lj lk li b₀ q in absurd (let z : ◌≡◌ {A = ℕ} 0 1 = cc in omega arith))
      (λ q. rw q))

  -- ---- what leads where

  leads-on : (i k j : ℕ) → k < n → Leads t n i k → Leads t n k j → Leads t n i j
  leads-on i k j l (last _ _ d) r = on i k j l d r
  leads-on i k j l (on _ m _ lm d r') r = on i m j lm d (leads-on m k j l r' r)

  -- what leads on is strict
  pub leads-strict : (i j : ℕ) → i < n → j < n → Leads t n i j → strict t i j ≡ true
  leads-strict i j li lj (last _ _ d) = and_left (strict t i j) (not (some_below (between t i j) n)) d
  leads-strict i j li lj (on _ k _ lk d r) =
      strict-through i k j li lk lj (and_left (strict t i k) (not (some_below (between t i k) n)) d) (leads-strict k j lk lj r)

  -- fewer stand between i and one that stands between i and j, or between that one and j
  fewer-below : (i j k : ℕ) → i < n → j < n → k < n → between t i j k ≡ true → count (between t i k) n < count (between t i j) n
  fewer-below i j k li lj lk h =
      let a = and_left (strict t i k) (strict t k j) h in
      let b = and_right (strict t i k) (strict t k j) h in
      count_fewer (between t i k) (between t i j) n k
      (λ m lm r.
      let c = and_left (strict t i m) (strict t m k) r in
      let d = and_right (strict t i m) (strict t m k) r in
      and_both c (strict-through m k j lm lk lj d b))
      lk
      (bool_cases (between t i k k)
      (λ q. absurd (strict_not_itself k (and_right (strict t i k) (strict t k k) q))) (λ q. q))
      h

  fewer-above : (i j k : ℕ) → i < n → j < n → k < n → between t i j k ≡ true → count (between t k j) n < count (between t i j) n
  fewer-above i j k li lj lk h =
      let a = and_left (strict t i k) (strict t k j) h in
      let b = and_right (strict t i k) (strict t k j) h in
      count_fewer (between t k j) (between t i j) n k
      (λ m lm r.
      let c = and_left (strict t k m) (strict t m j) r in
      let d = and_right (strict t k m) (strict t m j) r in
      and_both (strict-through i k m li lk lm a c) d)
      lk
      (bool_cases (between t k j k)
      (λ q. absurd (strict_not_itself k (and_left (strict t k k) (strict t k j) q))) (λ q. q))
      h

  -- nothing stands between, or something does
  reaches-by : (m i j : ℕ) → i < n → j < n → count (between t i j) n ≤ m → strict t i j ≡ true → Leads t n i j
  reaches-by zero i j li lj few s =
      bool_cases (some_below (between t i j) n)
      (λ q. some-at (between t i j) n q (λ k lk h. absurd (let f = fewer-below i j k li lj lk h in omega arith)))
      (λ q. last i j (and_both s (rw q)))
  reaches-by (suc m) i j li lj few s =
      bool_cases (some_below (between t i j) n)
      (λ q. some-at (between t i j) n q
      (λ k lk h.
      let f = fewer-below i j k li lj lk h in
      let g = fewer-above i j k li lj lk h in
      leads-on i k j lk
      (reaches-by m i k li lk (omega arith) (and_left (strict t i k) (strict t k j) h))
      (reaches-by m k j lk lj (omega arith) (and_right (strict t i k) (strict t k j) h))))
      (λ q. last i j (and_both s (rw q)))

  -- following direct superiors reaches every strict container
  pub reaches : (i j : ℕ) → i < n → j < n → strict t i j ≡ true → Leads t n i j
  reaches i j li lj s = reaches-by (count (between t i j) n) i j li lj (omega arith) s

  -- ---- classes

  pub alike-through : (i j k : ℕ) → i < n → j < n → k < n → alike t i j ≡ true → alike t j k ≡ true → alike t i k ≡ true
  alike-through i j k li lj lk a b =
      and_both
      (O.through i j k li lj lk (and_left (t i j) (t j i) a) (and_left (t j k) (t k j) b))
      (O.through k j i lk lj li (and_right (t j k) (t k j) b) (and_right (t i j) (t j i) a))

  pub alike-back : (i j : ℕ) → alike t i j ≡ true → alike t j i ≡ true
  alike-back i j a = and_both (and_right (t i j) (t j i) a) (and_left (t i j) (t j i) a)

  -- a class is shown by its first member
  pub class-first : (i : ℕ) → i < n → Least (λ k. not (alike t i (k - 1))) 1 (1 + n) (class_of t n i)
  unfolding class_of
  class-first i li =
      first-least (λ k. not (alike t i (k - 1))) 1 n {k = class_of t n i} refl
      (λ z.
      let h = first-none (λ k. not (alike t i (k - 1))) 1 n (omega arith) z (suc i) (omega arith) (omega arith) in
      let e : suc i - 1 ≡ i = omega arith in
      let h' = false_of_not (alike t i i) (rw e at h) in
      let s = O.itself i li in
      let b : alike t i i ≡ true = and_both s s in
      let z : ◌≡◌ {A = ℕ} 0 1 = cc in omega arith)

  -- members of one class have the same number
  pub class-alike : (i j : ℕ) → i < n → j < n → alike t i j ≡ true → class_of t n i ≡ class_of t n j
  unfolding class_of
  class-alike i j li lj a =
      first-same (λ k. not (alike t i (k - 1))) (λ k. not (alike t j (k - 1))) 1 n
      (λ k lo hi. ap not (iff-eq
      (λ h. alike-through j i (k - 1) lj li (omega arith) (alike-back i j a) h)
      (λ h. alike-through i j (k - 1) li lj (omega arith) a h)))

  -- and services of one number are of one class
  pub class-only : (i j : ℕ) → i < n → j < n → class_of t n i ≡ class_of t n j → alike t i j ≡ true
  class-only i j li lj e =
      let a = class-first i li in
      let b = class-first j lj in
      let x = true_of_not _ a.fails in
      let y : alike t j (class_of t n i - 1) ≡ true = rw e (true_of_not _ b.fails) in
      alike-through i (class_of t n i - 1) j li (omega (arith, a.low, a.high)) lj x (alike-back j (class_of t n i - 1) y)
