-- Numbers of two bytes, and the two sums that check a block.
-- Assumes nothing.
use Rattle.std.specs.Prelude.{ℕ, suc, ◌+◌, ◌*◌, ◌/◌, ◌%◌, List, [], ◌∷◌, slice_index}
use Rattle.base.specs.Range.{sum}

-- [B1] a word, low byte first: the word of two bytes at an offset; a byte past the end reads 0
unfoldable pub word_at : List ℕ → ℕ → ℕ
word_at s at = slice_index s at + 256 * slice_index s (at + 1)

-- the two bytes of a word
unfoldable pub word_bytes : ℕ → List ℕ
word_bytes x = x % 256 ∷ x / 256 ∷ []

-- word k, counted from 0, from an offset on
unfoldable pub word_from : List ℕ → ℕ → ℕ → ℕ
word_from s at k = word_at s (at + 2 * k)

-- [B7] the sum of the 255 words before it: of the block at an offset
unfoldable pub check_of : List ℕ → ℕ → ℕ
check_of s at = sum (word_from s at) 255 % 65536

-- a word times its number, which counts from 1
unfoldable pub weighted : List ℕ → ℕ → ℕ → ℕ
weighted s at k = suc k * word_from s at k

-- [B6] each word times its position, added
unfoldable pub second_of : List ℕ → ℕ → ℕ
second_of s at = sum (weighted s at) 254 % 65536
