-- Laws of words and of the sums that check a block.
-- Assumes nothing.
use Rattle.std.specs.Simd.{first_chunks}
use Rattle.std.proofs.Common.{[], zero, slice_range, zero-add, take_all, min, take, drop, refl, drop-drop, ap₂, ◌/◌, ◌<◌, length-take, length-drop, ◌≡◌, ℕ, suc, ◌+◌, ◌-◌, ◌*◌, ◌%◌, ◌≤◌, List, length, get_or, sym, ap, ◌∙◌, mul-zero, add-one, arith}
use lib.ListN.{get_or-eq_default}
use Rattle.base.proofs.Sums.{sum-ext, sum_past}
use Rattle.base.proofs.Tests.{lt-cases}
use Rattle.base.specs.Range.{sum}
use Rattle.std.proofs.lemmas.List.{get_or-drop, get_or-take}
use Rattle.blocks.specs.code.WordPairs.{pair, weighted_pair}
use Rattle.blocks.specs.Words.{weighted, word_at, word_from}

-- a byte past the end reads 0
pub byte_past : (s : List ℕ) (at : ℕ) → length s ≤ at → 0 ≡ get_or s at 0
byte_past s at h = sym (get_or-eq_default s 0 {n = at} h)

-- a word that starts past the end reads 0
pub word-past : (s : List ℕ) (at : ℕ) → length s ≤ at → word_at s at ≡ 0
unfolding word_at
word-past s at h = rw (get_or-eq_default s 0 {n = at} h, get_or-eq_default s 0 {n = at + 1} (omega arith))

-- equal modulo 65,536
pub record SameModulo (x y : ℕ) : Type 0 where
  pub same : x % 65536 ≡ y % 65536

-- the terms of the two sums past the end
pub term-past : (s : List ℕ) (at n : ℕ) → length s ≤ at + 2 * n → (k : ℕ) → n ≤ k → word_from s at k ≡ 0
unfolding word_from
term-past s at n h k l = word-past s (at + 2 * k) (omega arith)

pub weighted-past : (s : List ℕ) (at n : ℕ) → length s ≤ at + 2 * n → (k : ℕ) → n ≤ k → weighted s at k ≡ 0
unfolding weighted
weighted-past s at n h k l = rw (term-past s at n h k l, mul-zero)

-- ---- a sum that wraps

module _ (f : ℕ → ℕ) where
  -- one term more
  pub sum_more : (i : ℕ) {a x r : ℕ} → a ≡ sum f i % 65536 → SameModulo x (f i) → r ≡ (a + x) % 65536 → r ≡ sum f (i + 1) % 65536
  unfolding sum
  sum_more i p q e = rw add-one (omega (arith, q.same))

  -- as many terms as were asked
  pub sum_to : {n m r : ℕ} → n ≡ m → r ≡ sum f n % 65536 → r ≡ sum f m % 65536
  sum_to e h = rw e at h

  -- terms after the first n are 0: those are the sum
  pub sum-short : (n m : ℕ) {r : ℕ} → n ≤ m → ((k : ℕ) → n ≤ k → f k ≡ 0) → r ≡ sum f n % 65536 → r ≡ sum f m % 65536
  sum-short n m le h e =
      let whole : n + (m - n) ≡ m = omega arith in
      e ∙ ap (λ (x : ℕ). x % 65536) (sym (sum_past f n (m - n) h) ∙ ap (sum f) whole)

  -- the sum of m terms, from that of the first c and a last one: it is term c, or 0 where those are all
  pub sum-part : (c m : ℕ) {a h r : ℕ} → c ≤ m → a ≡ sum f c % 65536 → (m ≤ c → h ≡ 0) → (c < m → SameModulo h (f c))
      → (c < m → (k : ℕ) → c + 1 ≤ k → f k ≡ 0) → r ≡ (a + h) % 65536 → r ≡ sum f m % 65536
  sum-part c m le p none last past e =
      lt-cases c m
      (λ b. sum-short (c + 1) m (omega arith) (past b) (sum_more c p (last b) e))
      (λ b. let z = none b in
      let q : c ≡ m = omega arith in
      let same = ap (λ (n : ℕ). sum f n % 65536) q in
      omega arith)

-- ---- pairs of the bytes that are there

-- pair k of some bytes
pairs_at : (c k : ℕ) (xs : List ℕ) → k < c → get_or (first_chunks 2 c xs) k [] ≡ take 2 (drop (2 * k) xs)
pairs_at zero k xs h = absurd (omega arith)
pairs_at (suc c) zero xs h = refl
pairs_at (suc c) (suc k) xs h =
    pairs_at c k (drop 2 xs) (omega arith) ∙ ap (take 2) (drop-drop (2 * k) 2 xs ∙ ap (λ (n : ℕ). drop n xs) (omega arith))

-- the word of a pair is that of the bytes
pub pair-is : (c k : ℕ) (xs : List ℕ) → k < c → pair (first_chunks 2 c xs) k ≡ word_at xs (2 * k)
unfolding pair word_at
pair-is c k xs h =
    let at_xs = λ (m n : ℕ) (e : m ≡ n). ap (λ (i : ℕ). get_or xs i 0) e in
    let low = get_or-take 2 (drop (2 * k) xs) 0 0 (omega arith) ∙ get_or-drop (2 * k) xs 0 0 ∙ at_xs (2 * k + 0) (2 * k) (omega arith) in
    let high = get_or-take 2 (drop (2 * k) xs) 1 0 (omega arith) ∙ get_or-drop (2 * k) xs 1 0 in
    rw (pairs_at c k xs h) (ap₂ (λ (a b : ℕ). a + 256 * b) low high)

-- the n elements from an index on
pub range-front : (s : List ℕ) (at n : ℕ) → slice_range s at (at + n) ≡ take n (drop at s)
range-front s at n = ap (λ (k : ℕ). take k (drop at s)) (omega arith)

-- ---- a part of a slice: at most m words from an index on, of those that are there

module _ (s : List ℕ) (at m : ℕ) where
  abbrev pub there : List ℕ
  there = take (2 * m) (drop at s)

  there-byte : (k : ℕ) → k < 2 * m → get_or there k 0 ≡ get_or s (at + k) 0
  there-byte k h = get_or-take (2 * m) (drop at s) k 0 h ∙ get_or-drop at s k 0

  there-word : (k : ℕ) → k < m → word_at there (2 * k) ≡ word_from s at k
  unfolding word_at word_from
  there-word k h =
      ap₂ (λ (a b : ℕ). a + 256 * b) (there-byte (2 * k) (omega arith))
      (there-byte (2 * k + 1) (omega arith) ∙ ap (λ (i : ℕ). get_or s i 0) (omega arith))

  length-there : length there ≡ min (2 * m) (length s - at)
  length-there = length-take (2 * m) (drop at s) ∙ ap (min (2 * m)) (length-drop at s)

  module _ {words : List (List ℕ)} {half : List ℕ} (w : words ≡ first_chunks 2 (length there / 2) there) (n : length words ≡ length there / 2)
      (r : half ≡ drop (length there / 2 * 2) there) where
    word-is : (k : ℕ) → k < length words → pair words k ≡ word_from s at k
    word-is k h =
        let l = length-there in
        rw w (pair-is (length there / 2) k there (omega arith) ∙ there-word k (omega arith))

    half_is : get_or half 0 0 ≡ get_or there (2 * length words) 0
    half_is = rw r (get_or-drop (length there / 2 * 2) there 0 0 ∙ ap (λ (i : ℕ). get_or there i 0) (omega arith))

    -- the half word after the whole ones is a word whose second byte is past the end
    half-word : length words < m → get_or half 0 0 ≡ word_from s at (length words)
    unfolding word_at word_from
    half-word h =
        let l = length-there in
        let z = get_or-eq_default s 0 {n = at + 2 * length words + 1} (omega arith) in
        let b = half_is ∙ there-byte (2 * length words) (omega arith) in
        omega arith

    half_none : m ≤ length words → get_or half 0 0 ≡ 0
    half_none h = let l = length-there in half_is ∙ get_or-eq_default there 0 {n = 2 * length words} (omega arith)

    short : length words < m → length s ≤ at + 2 * (length words + 1)
    short h = let l = length-there in omega arith

    few : length words ≤ m
    few = let l = length-there in omega arith

    -- the sum of the words, and the half one, is that of all m
    pub check-part : {a h q : ℕ} → a ≡ sum (pair words) (length words) % 65536 → h ≡ get_or half 0 0 → q ≡ (a + h) % 65536 → q ≡ sum (word_from s at) m % 65536
    check-part e f g =
        sum-part (word_from s at) (length words) m few
        (e ∙ ap (λ (x : ℕ). x % 65536) (sum-ext (pair words) (word_from s at) (length words) word-is))
        (λ b. f ∙ half_none b)
        (λ b. record { same = ap (λ (x : ℕ). x % 65536) (f ∙ half-word b) })
        (λ b. term-past s at (length words + 1) (short b)) g

    -- the same of words times their numbers
    pub second-part : {a h q : ℕ} → a ≡ sum (weighted_pair words) (length words) % 65536 → h ≡ get_or half 0 0
        → q ≡ (a + ((length words + 1) * h) % 65536) % 65536 → q ≡ sum (weighted s at) m % 65536
    unfolding weighted weighted_pair
    second-part {a} {h} e f g =
        sum-part (weighted s at) (length words) m few
        (e ∙ ap (λ (x : ℕ). x % 65536) (sum-ext (weighted_pair words) (weighted s at) (length words) (λ k b. ap (λ (x : ℕ). suc k * x) (word-is k b))))
        (λ b. let z : h ≡ 0 = f ∙ half_none b in rw (z, mul-zero))
        (λ b. let z : h ≡ word_from s at (length words) = f ∙ half-word b in
        record { same = rw (z, add-one) (omega arith) })
        (λ b. weighted-past s at (length words + 1) (short b)) g

  -- the sums of the part are those of the slice
  pub check-there : sum (word_from there 0) m % 65536 ≡ sum (word_from s at) m % 65536
  unfolding word_from
  check-there = ap (λ (x : ℕ). x % 65536) (sum-ext (word_from there 0) (word_from s at) m (λ k h. ap (word_at there) (zero-add (2 * k)) ∙ there-word k h))

  pub second-there : sum (weighted there 0) m % 65536 ≡ sum (weighted s at) m % 65536
  unfolding word_from weighted
  second-there =
      ap (λ (x : ℕ). x % 65536) (sum-ext (weighted there 0) (weighted s at) m (λ k h. ap (λ (x : ℕ). suc k * x) (ap (word_at there) (zero-add (2 * k)) ∙ there-word k h)))

-- ---- all of some bytes

module _ (bytes : List ℕ) (m : ℕ) (fits : length bytes ≤ 2 * m) {words : List (List ℕ)} {half : List ℕ} (w : words ≡ first_chunks 2 (length bytes / 2) bytes)
    (n : length words ≡ length bytes / 2) (r : half ≡ drop (length bytes / 2 * 2) bytes) where
  pub check-all : {a h q : ℕ} → a ≡ sum (pair words) (length words) % 65536 → h ≡ get_or half 0 0 → q ≡ (a + h) % 65536
      → q ≡ sum (word_from bytes 0) m % 65536
  check-all = let e = sym (take_all (2 * m) bytes fits) in check-part bytes 0 m (rw e at w) (rw e at n) (rw e at r)

  pub second-all : {a h q : ℕ} → a ≡ sum (weighted_pair words) (length words) % 65536 → h ≡ get_or half 0 0
      → q ≡ (a + ((length words + 1) * h) % 65536) % 65536 → q ≡ sum (weighted bytes 0) m % 65536
  second-all = let e = sym (take_all (2 * m) bytes fits) in second-part bytes 0 m (rw e at w) (rw e at n) (rw e at r)
