-- Words and sums of bytes that stand in a list.
-- Assumes nothing.
use Rattle.std.proofs.Common.{◌≡◌, ℕ, suc, ◌+◌, ◌*◌, ◌/◌, ◌%◌, ◌<◌, List, length, get_or, refl, ap, add-zero, add_assoc, zero-add, arith}
use Rattle.base.proofs.Lists.{Holds, holds-two}
use Rattle.base.proofs.Sums.{sum-ext}
use Rattle.blocks.specs.Words.{check_of, second_of, weighted, word_at, word_bytes, word_from}

-- every element is a byte
pub record Bytes (s : List ℕ) : Type 0 where
  pub small : (k : ℕ) → get_or s k 0 < 256

-- a word has 2 bytes
pub length-word : (x : ℕ) → length (word_bytes x) ≡ 2
unfolding word_bytes
length-word x = refl

-- the word read where the two bytes of x stand is x
pub word_read : {s : List ℕ} {a : ℕ} (x : ℕ) → Holds s a (word_bytes x) → word_at s a ≡ x
unfolding word_at word_bytes
word_read {s} {a} x h =
    let lo : get_or s a 0 ≡ x % 256 = rw add-zero at (h.each 0 (omega arith)) in
    let hi : get_or s (a + 1) 0 ≡ x / 256 = h.each 1 (omega arith) in
    omega arith

-- where x is read from bytes, the two bytes of x stand
pub word_held : {s : List ℕ} (a : ℕ) {x : ℕ} → Bytes s → word_at s a ≡ x → Holds s a (word_bytes x)
unfolding word_at word_bytes
word_held a b e = let small = b.small a in holds-two (omega arith) (omega arith)

-- ---- equal bytes, equal words, equal sums

module _ (s t : List ℕ) (a c : ℕ) where
  pub word-alike : get_or s a 0 ≡ get_or t c 0 → get_or s (a + 1) 0 ≡ get_or t (c + 1) 0 → word_at s a ≡ word_at t c
  unfolding word_at
  word-alike lo hi = rw (lo, hi)

  pub check-alike : ((k : ℕ) → k < 255 → word_from s a k ≡ word_from t c k) → check_of s a ≡ check_of t c
  unfolding check_of
  check-alike h = ap (λ (x : ℕ). x % 65536) (sum-ext (word_from s a) (word_from t c) 255 h)

  pub second_alike : ((k : ℕ) → k < 254 → word_from s a k ≡ word_from t c k) → second_of s a ≡ second_of t c
  unfolding second_of weighted
  second_alike h =
      ap (λ (x : ℕ). x % 65536) (sum-ext (weighted s a) (weighted t c) 254 (λ k l. ap (λ (x : ℕ). suc k * x) (h k l)))

-- where xs stands, its words are read
word-within : {s xs : List ℕ} {a : ℕ} → Holds s a xs → (k : ℕ) → 2 * k + 1 < length xs → word_from s a k ≡ word_from xs 0 k
unfolding word_from
word-within {s} {xs} h k b =
    word-alike s xs _ _ (rw zero-add (h.each (2 * k) (omega arith))) (rw (zero-add, add_assoc) (h.each (2 * k + 1) b))

-- the check depends on the first 510 bytes only, the second sum on the first 508
pub check-within : {s xs : List ℕ} {a : ℕ} → length xs ≡ 510 → Holds s a xs → check_of s a ≡ check_of xs 0
check-within {s} {xs} {a} e h = check-alike s xs a 0 (λ k l. word-within h k (omega arith))

pub second-within : {s xs : List ℕ} {a : ℕ} → length xs ≡ 508 → Holds s a xs → second_of s a ≡ second_of xs 0
second-within {s} {xs} {a} e h = second_alike s xs a 0 (λ k l. word-within h k (omega arith))

-- it is a word
pub second-small : (s : List ℕ) (a : ℕ) → second_of s a < 65536
unfolding second_of
second-small s a = omega arith
