-- The worked example of the section on blocks.
-- Assumes nothing.
use Rattle.std.proofs.Common.{◌≡◌, [], ◌∷◌, ◌++◌, replicate, refl}
use Rattle.base.specs.Range.{sum}
use Rattle.blocks.specs.Encoding.{block_body, block_bytes, block_front, blocks_for, encode, encode_from, encode_rows, joined}
use Rattle.blocks.specs.Words.{check_of, second_of, weighted, word_at, word_bytes, word_from}

-- [B9] the block of no entries: 1 in byte 0, the sums 1 and 2 in bytes 508 and 510, and all else zero
pub empty_block : encode [] ≡ 1 ∷ (replicate 507 0 ++ (1 ∷ 0 ∷ 2 ∷ 0 ∷ []))
unfolding encode encode_rows encode_from blocks_for block_bytes block_front block_body joined word_bytes check_of second_of weighted word_from word_at sum
empty_block = refl
