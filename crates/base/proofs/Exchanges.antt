-- What exchanging two runs of terms does to a sum, and to a sum with weights.
-- Assumes nothing.
use Prim.Native.Nat.{◌*◌, ◌+◌, ◌-◌, ◌<◌, ◌≤◌, suc, ℕ}
use mathlib.Core.Path.{◌∙◌, ◌≡◌, ap, sym}
use native.Mathlib.Nat.{add-mul, one-mul, zero-mul}
use native.Mathlib.Omega.{arith}
use Rattle.base.proofs.Sums.{sum-ext, sum-plus, sum-split, sum-times}
use Rattle.base.specs.Exchange.{Exchanged}
use Rattle.base.specs.Range.{sum}

-- the sum of n terms from a on
abbrev run : (ℕ → ℕ) → ℕ → ℕ → ℕ
run f a n = sum (λ k. f (a + k)) n

-- the terms up to a, and on to e
sum-on : (f : ℕ → ℕ) {a e : ℕ} → a ≤ e → sum f e ≡ sum f a + run f a (e - a)
sum-on f {a} {e} h = let l : e ≡ a + (e - a) = omega arith in ap (sum f) l ∙ sum-split f a (e - a)

-- the two runs, and what lies before, between and after them
in_parts : (f : ℕ → ℕ) (w a : ℕ) {c n : ℕ} → a + w ≤ c → c + w ≤ n
    → sum f n ≡ sum f a + run f a w + run f (a + w) (c - (a + w)) + run f c w + run f (c + w) (n - (c + w))
in_parts f w a {c} d l = omega (arith, sum-split f a w, sum-on f d, sum-split f c w, sum-on f l)

-- terms that are more by q times others
sum_more : (q : ℕ) (f g h : ℕ → ℕ) (n : ℕ) → ((k : ℕ) → k < n → f k ≡ g k + q * h k) → sum f n ≡ sum g n + q * sum h n
sum_more q f g h n e =
    sum-ext f (λ k. g k + q * h k) n e ∙ sum-plus g (λ k. q * h k) n ∙ ap (λ (x : ℕ). sum g n + x) (sum-times q h n)

module _ {f g : ℕ → ℕ} {w a c n : ℕ} (x : Exchanged f g w a c) (d : a + w ≤ c) (l : c + w ≤ n) where
  -- weights that grow by q from the first run to the second: one run gains q times its sum, the other loses as much
  exchanged-by : (h : ℕ → ℕ) (q : ℕ) → ((k : ℕ) → h (c + k) ≡ h (a + k) + q)
      → sum (λ k. h k * g k) n + q * run f c w ≡ sum (λ k. h k * f k) n + q * run f a w
  exchanged-by h q e =
      let u : ℕ → ℕ = λ k. h k * f k in
      let v : ℕ → ℕ = λ k. h k * g k in
      let same : (k : ℕ) → g k ≡ f k → v k ≡ u k = λ k p. ap (λ (y : ℕ). h k * y) p in
      let more : (k y : ℕ) → h (c + k) * y ≡ h (a + k) * y + q * y = λ k y. ap (λ (z : ℕ). z * y) (e k) ∙ add-mul (h (a + k)) q y in
      let before : sum v a ≡ sum u a = sum-ext v u a (λ k b. same k (x.before k b)) in
      let between : run v (a + w) (c - (a + w)) ≡ run u (a + w) (c - (a + w))
      = sum-ext _ _ (c - (a + w)) (λ k b. same (a + w + k) (x.between (a + w + k) (omega arith) (omega arith))) in
      let after : run v (c + w) (n - (c + w)) ≡ run u (c + w) (n - (c + w))
      = sum-ext _ _ (n - (c + w)) (λ k b. same (c + w + k) (x.after (c + w + k) (omega arith))) in
      let to-second : run v c w ≡ run u a w + q * run f a w
      = sum_more q _ _ _ w (λ k b. ap (λ (y : ℕ). h (c + k) * y) (x.second k b) ∙ more k (f (a + k))) in
      let to-first : run u c w ≡ run v a w + q * run f c w
      = sum_more q _ _ _ w (λ k b. more k (f (c + k)) ∙ ap (λ (y : ℕ). h (a + k) * y + q * f (c + k)) (sym (x.first k b))) in
      omega (arith, in_parts u w a d l, in_parts v w a d l, before, between, after, to-second, to-first)

  -- a sum stays the same
  pub exchanged-sum : sum g n ≡ sum f n
  exchanged-sum =
      let once : (f : ℕ → ℕ) → sum (λ k. 1 * f k) n ≡ sum f n = λ f. sum-ext _ f n (λ k b. one-mul (f k)) in
      omega (arith, once f, once g, exchanged-by (λ k. 1) 0 (λ k. omega arith), zero-mul (run f c w), zero-mul (run f a w))

  -- with the numbers from 1 on as weights
  pub exchanged-weighted : (q : ℕ) → c ≡ a + q
      → sum (λ k. suc k * g k) n + q * sum (λ k. f (c + k)) w ≡ sum (λ k. suc k * f k) n + q * sum (λ k. f (a + k)) w
  exchanged-weighted q e = exchanged-by suc q (λ k. omega arith)
