-- The frame of a block: where its entries stand, and which numbers of the table of refusals refuse it.
-- Assumes nothing.
use Rattle.std.specs.Prelude.{ℕ, suc, ◌+◌, ◌-◌, ◌*◌, ◌/◌, ◌%◌, Bool, cond, not, ◌&&◌, ◌||◌, List, length, ◌==◌, nat_le, nat_lt, slice_index}
use Rattle.base.specs.Range.{all}
use Rattle.blocks.specs.Words.{word_at, check_of, second_of}

-- What block formats may differ in: the bytes of an entry, and the entries that a block has room for.
pub record Frame : Type 0 where
  pub width : ℕ
  pub room : ℕ

-- entries of w bytes, r of them to a block
abbrev pub framed : ℕ → ℕ → Frame
framed w r = record { width = w; room = r }

-- [B2] 63 entries of 8 bytes
abbrev pub plain : Frame
plain = record { width = 8; room = 63 }

-- the shorter stored form: 84 entries of 6 bytes, in the same frame with both checks
abbrev pub stored_frame : Frame
stored_frame = record { width = 6; room = 84 }

-- whole blocks of 512 bytes
unfoldable pub blocks_in : List ℕ → ℕ
blocks_in s = length s / 512

-- [B4] the used count, of block i, counted from 0
unfoldable pub used_in : List ℕ → ℕ → ℕ
used_in s i = word_at s (512 * i + 2)

-- [R2] a check is not its sum, of block i: bytes 510-511 hold the first, bytes 508-509 the second
unfoldable pub check_wrong : List ℕ → ℕ → Bool
check_wrong s i =
    not (word_at s (512 * i + 510) == check_of s (512 * i)) || not (word_at s (512 * i + 508) == second_of s (512 * i))

-- the byte at an index is zero
unfoldable pub zero_at : List ℕ → ℕ → Bool
zero_at s k = slice_index s k == 0

module _ (F : Frame) where
  -- [E2] entries count from 1 over all blocks: the offset of entry n
  unfoldable pub entry_pos : ℕ → ℕ
  entry_pos n = 512 * ((n - 1) / F.room) + 4 + F.width * ((n - 1) % F.room)

  -- the entries of an input: every block but the last is full
  unfoldable pub total_in : List ℕ → ℕ
  total_in s = F.room * (blocks_in s - 1) + used_in s (blocks_in s - 1)

  -- [B4] all blocks but the last are full, and only a sole block may be empty: of block i of n
  unfoldable pub used_ok : ℕ → ℕ → ℕ → Bool
  used_ok n i used = cond (nat_lt (suc i) n) (used == F.room) (nat_le used F.room && (nat_lt 0 used || n == 1))

  -- [B5] bytes of unused entries are zero, of block i
  unfoldable pub rest_zero : List ℕ → ℕ → Bool
  rest_zero s i = all (zero_at s) (512 * i + 4 + F.width * used_in s i) (F.width * F.room - F.width * used_in s i)

  -- [R3] the frame is wrong, of block i of n: its number is not its position [B3], or [B4] or [B5] is broken
  unfoldable pub frame_wrong : List ℕ → ℕ → ℕ → Bool
  frame_wrong s n i = not (word_at s (512 * i) == suc i) || (not (used_ok n i (used_in s i)) || not (rest_zero s i))
