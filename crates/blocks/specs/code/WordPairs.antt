-- The words of pairs of bytes, as the code that checks a block takes them. No public promise names them.
-- Assumes nothing.
use Rattle.std.specs.Prelude.{ℕ, suc, ◌*◌, List, [], slice_index_or}
use Rattle.blocks.specs.Words.{word_at}

-- the word of pair k
unfoldable pub pair : List (List ℕ) → ℕ → ℕ
pair ps k = word_at (slice_index_or ps k []) 0

-- the same times its number, which counts from 1
unfoldable pub weighted_pair : List (List ℕ) → ℕ → ℕ
weighted_pair ps k = suc k * pair ps k
