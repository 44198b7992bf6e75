-- Laws of words whose bits are those of a test: a word one bit longer, words joined, one word without another, the lowest bit, and words
-- stored in turn.
-- Assumes nothing.
use Prim.Native.Nat.{◌*◌, ◌+◌, ◌-◌, ◌/◌, ◌<◌, ◌%◌, ◌^◌, ◌≤◌, max, min, suc, zero, ℕ}
use lib.Dec.{eqb}
use lib.ListN.{length, set}
use lib.Seq.{get_or-set_other, get_or-set_same}
use mathlib.Core.Bool.{Bool, false, not, true, ◌&&◌, ◌||◌}
use mathlib.Core.List.{List}
use mathlib.Core.Logic.{◌≢◌}
use mathlib.Core.Path.{◌∙◌, ◌≡◌, ap, refl, sym}
use native.Mathlib.Nat.{pow-suc}
use native.Mathlib.Omega.{arith}
use Rattle.std.proofs.lemmas.Nat.Bits.{bit_at-suc, bit_at-trailing_zeros, bit_at-zero, bit_at_and, bit_at_lowest, bit_at_not, bit_at_or}
use Rattle.std.specs.Int.{bit_at, bit_not, trailing_zeros}
use Rattle.std.specs.Int.RustNames.{bit_and, bit_or}
use Rattle.std.specs.Int.Width.{w64}
use Rattle.base.proofs.SearchLaws.{least_first, none_first}
use Rattle.base.proofs.Tests.{bool_cases, eq-cases, lt-cases, lt-ltb, ge-ltb}
use Rattle.base.specs.Range.{bit}
use Rattle.base.specs.Search.{first_from}
use Rattle.hierarchy.specs.code.Words.{Rows, Told, led}
use Rattle.meaning.specs.Hierarchy.{some_below}
use Rattle.std.specs.Prelude.{ltb}

-- ---- one bit

bit-or : (a b : Bool) → max (bit a) (bit b) ≡ bit (a || b)
bit-or true true = refl
bit-or true false = refl
bit-or false true = refl
bit-or false false = refl

bit-and : (n a b : Bool) → min (bit (n && a)) (bit (n && b)) ≡ bit (n && (a && b))
bit-and true true true = refl
bit-and true true false = refl
bit-and true false true = refl
bit-and true false false = refl
bit-and false a b = refl

bit-without : (a b : Bool) → min (bit a) (1 - bit b) ≡ bit (a && not b)
bit-without true true = refl
bit-without true false = refl
bit-without false true = refl
bit-without false false = refl

pub bit-told : (b : Bool) → eqb (bit b) 1 ≡ b
bit-told true = refl
bit-told false = refl

-- a byte that is 1 or 0 is the bit that says whether it is 1
pub byte-bit : (x : ℕ) → x ≤ 1 → x ≡ bit (eqb x 1)
byte-bit zero h = refl
byte-bit (suc zero) h = refl
byte-bit (suc (suc x)) h = absurd (omega arith)

-- ---- a word and its test

pub told-none : (f : ℕ → Bool) → Told f 0 0
told-none f = record { at = λ j. bit_at-zero j ∙ (let e : ltb j 0 ≡ false = ge-ltb (omega arith) in rw e refl) }

-- tests that agree
pub told-same : {f g : ℕ → Bool} {n w : ℕ} → ((j : ℕ) → j < n → f j ≡ g j) → Told f n w → Told g n w
told-same {f} {g} {n} h T = record {
  at = λ j.
      T.at j ∙ lt-cases j n
      (λ l. let e = h j l in rw e refl)
      (λ l. let e = ge-ltb l in rw e refl);
}

module _ {f : ℕ → Bool} {n w : ℕ} (T : Told f n w) where
  -- a bit below n is the test
  pub told-bit : (j : ℕ) → j < n → bit_at w j ≡ bit (f j)
  told-bit j h = let e = lt-ltb h in T.at j ∙ rw e refl

  pub told-test : (j : ℕ) → j < n → eqb (bit_at w j) 1 ≡ f j
  told-test j h = ap (λ (x : ℕ). eqb x 1) (told-bit j h) ∙ bit-told (f j)

  pub told-past : (j : ℕ) → n ≤ j → bit_at w j ≡ 0
  told-past j h = let e = ge-ltb h in T.at j ∙ rw e refl

  -- a word one bit longer, at its low end
  module _ (g : ℕ → Bool) (b : ℕ) (e : b ≡ bit (g 0)) (h : (k : ℕ) → k < n → f k ≡ g (k + 1)) where
    low : b < 2
    low = bool_cases (g 0) (λ q. omega (arith, e ∙ ap bit q)) (λ q. omega (arith, e ∙ ap bit q))

    more-at : (j : ℕ) → bit_at (2 * w + b) j ≡ bit (ltb j (n + 1) && g j)
    more-at zero =
        let some : ltb 0 (n + 1) ≡ true = lt-ltb (omega arith) in
        let last : (2 * w + b) % 2 ≡ b = omega (arith, low) in
        bit_at_lowest (2 * w + b) ∙ last ∙ e ∙ rw some refl
    more-at (suc k) =
        let half : (2 * w + b) / 2 ≡ w = omega (arith, low) in
        let next : k + 1 ≡ suc k = omega arith in
        bit_at-suc (2 * w + b) k ∙ ap (λ (x : ℕ). bit_at x k) half
        ∙ lt-cases k n
        (λ l.
        let q : f k ≡ g (suc k) = rw next at (h k l) in
        let m : ltb (suc k) (n + 1) ≡ true = lt-ltb (omega arith) in
        told-bit k l ∙ rw (q, m) refl)
        (λ l. let m : ltb (suc k) (n + 1) ≡ false = ge-ltb (omega arith) in told-past k l ∙ rw m refl)

    pub told-more : Told g (n + 1) (2 * w + b)
    told-more = record { at = more-at }

  -- the bits that two words have
  pub told-both : {g : ℕ → Bool} {v : ℕ} → Told g n v → Told (λ j. f j && g j) n (bit_and w v)
  told-both {g} {v} V = record { at = λ j. bit_at_and w v j ∙ rw (T.at j, V.at j) (bit-and (ltb j n) (f j) (g j)) }

  -- those that the one has and not the other
  pub told-without : {g : ℕ → Bool} {v : ℕ} → n ≤ 64 → v < 18446744073709551616 → Told g n v
      → Told (λ j. f j && not (g j)) n (bit_and w (bit_not w64 v))
  told-without {g} {v} few small V = record {
    at = λ j.
        bit_at_and w (bit_not w64 v) j
        ∙ lt-cases j n
        (λ l.
        let e = lt-ltb l in
        let a = told-bit j l in
        let b : bit_at (bit_not w64 v) j ≡ 1 - bit (g j) =
        bit_at_not w64 v j small (omega arith) ∙ ap (λ (x : ℕ). 1 - x) (V.at j ∙ rw e refl) in
        rw (a, b, e) (bit-without (f j) (g j)))
        (λ l.
        let e = ge-ltb l in
        let none : min (bit_at w j) (bit_at (bit_not w64 v) j) ≡ 0 = omega (arith, told-past j l) in
        none ∙ rw e refl);
  }

  -- the lowest
  pub lowest-none : w ≡ 0 → 0 ≡ first_from (λ k. not (f (k - 1))) 1 n
  lowest-none z =
      sym (none_first (λ k. not (f (k - 1))) 1 n
      (λ k lo hi.
      let none : bit_at w (k - 1) ≡ 0 = ap (λ (x : ℕ). bit_at x (k - 1)) z ∙ bit_at-zero (k - 1) in
      let e : f (k - 1) ≡ false = sym (told-test (k - 1) (omega arith)) ∙ ap (λ (x : ℕ). eqb x 1) none in
      rw e refl))

  pub lowest-some : w ≢ 0 → w < 18446744073709551616 → trailing_zeros w64 w + 1 ≡ first_from (λ k. not (f (k - 1))) 1 n
  lowest-some z small =
      let t = trailing_zeros w64 w in
      let L = bit_at-trailing_zeros w64 w (omega arith) small in
      let back : t + 1 - 1 ≡ t = omega arith in
      let one : bit_at w t ≡ 1 = L.1 in
      let inside : t < n = lt-cases t n (λ l. l) (λ l. absurd (omega (arith, one, told-past t l))) in
      sym (least_first (λ k. not (f (k - 1))) 1 n (t + 1) (record {
        low = omega arith;
        high = omega (arith, inside);
        fails = let e : f t ≡ true = sym (told-test t inside) ∙ ap (λ (x : ℕ). eqb x 1) one in rw (back, e) refl;
        before = λ k lo hi.
            let e : f (k - 1) ≡ false = sym (told-test (k - 1) (omega (arith, inside))) ∙ ap (λ (x : ℕ). eqb x 1) (L.2 (k - 1) (omega arith)) in
            rw e refl;
      }))

-- how large it gets
pub more-small : {w b : ℕ} (j : ℕ) → w < 2 ^ j → b ≤ 1 → 2 * w + b < 2 ^ (j + 1)
more-small j h l = let one : j + 1 ≡ suc j = omega arith in rw one (omega (arith, pow-suc 2 j))

-- ---- words in turn

pub rows-none : (f : ℕ → ℕ → Bool) (n : ℕ) (ws : List ℕ) → Rows f n 0 ws
rows-none f n ws = record { row = λ i h. absurd (omega arith) }

pub rows-more : {f : ℕ → ℕ → Bool} {n m w : ℕ} {ws : List ℕ} → Rows f n m ws → m < length ws → Told (f m) n w → Rows f n (m + 1) (set ws m w)
rows-more {f} {n} {m} {w} {ws} R h T = record {
  row = λ i l.
      eq-cases i m
      (λ e. rw (e, get_or-set_same ws m w 0 h) T)
      (λ e. rw (get_or-set_other ws m i w 0 e) (R.row i (omega arith)));
}

-- ---- what is above those passed

module _ (s : ℕ → ℕ → Bool) (f : ℕ → Bool) (n : ℕ) where
  abbrev pub passed : ℕ → ℕ → Bool
  passed k j = some_below (led f s j) k

  pub covered-none : Told (passed 0) n 0
  unfolding some_below
  covered-none = record { at = λ j. bit_at-zero j ∙ bool_cases (ltb j n) (λ q. rw q refl) (λ q. rw q refl) }

  module _ {k c : ℕ} (C : Told (passed k) n c) where
    pub covered-through : {v : ℕ} → f k ≡ true → Told (s k) n v → Told (passed (k + 1)) n (bit_or v c)
    unfolding some_below
    covered-through {v} e V =
        let one : k + 1 ≡ suc k = omega arith in
        record { at = λ j. bit_at_or v c j ∙ rw (V.at j, C.at j, one, e) (either (ltb j n) (s k j) (passed k j)) }
      where
        either : (a b c : Bool) → max (bit (a && b)) (bit (a && c)) ≡ bit (a && (b || c))
        either true b c = bit-or b c
        either false b c = refl

    pub covered-past : f k ≡ false → Told (passed (k + 1)) n c
    unfolding some_below
    covered-past e = let one : k + 1 ≡ suc k = omega arith in record { at = λ j. C.at j ∙ rw (one, e) refl }
