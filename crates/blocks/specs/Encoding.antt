-- Entries as blocks.
-- Assumes nothing.
use Rattle.std.specs.Prelude.{ℕ, zero, suc, ◌+◌, ◌-◌, ◌*◌, ◌/◌, ◌%◌, max, cond, ◌&&◌, List, [], ◌∷◌, ◌++◌, map, length, take, drop, replicate, ◌==◌, nat_le}
use Rattle.blocks.specs.Entries.{entry_bytes}
use Rattle.blocks.specs.Frame.{Frame, plain}
use Rattle.blocks.specs.Words.{check_of, second_of, word_bytes}
use Rattle.blocks.specs.declared.Entry.{Entry}

-- rows of bytes, one after the other
unfoldable pub joined : List (List ℕ) → List ℕ
joined [] = []
joined (r ∷ rs) = r ++ joined rs

module _ (F : Frame) where
  -- the first 508 bytes of block i, counted from 0: its number, its used count, its entries, and zeros
  unfoldable pub block_body : ℕ → List (List ℕ) → List ℕ
  block_body i rows =
      word_bytes (suc i) ++ (word_bytes (length rows) ++ (joined rows ++ replicate (F.width * F.room - F.width * length rows) 0))

  -- with the second sum in bytes 508-509
  unfoldable pub block_front : ℕ → List (List ℕ) → List ℕ
  block_front i rows = block_body i rows ++ word_bytes (second_of (block_body i rows) 0)

  -- with the check: block i
  unfoldable pub block_bytes : ℕ → List (List ℕ) → List ℕ
  block_bytes i rows = block_front i rows ++ word_bytes (check_of (block_front i rows) 0)

  -- n blocks from block i on
  unfoldable pub encode_from : ℕ → ℕ → List (List ℕ) → List ℕ
  encode_from zero i rows = []
  encode_from (suc n) i rows = block_bytes i (take F.room rows) ++ encode_from n (suc i) (drop F.room rows)

  -- [B10] the blocks that c entries take: full ones and the rest, and one where there is no entry [B9]
  unfoldable pub blocks_for : ℕ → ℕ
  blocks_for c = max 1 ((c + F.room - 1) / F.room)

  -- the rows as blocks
  unfoldable pub encode_rows : List (List ℕ) → List ℕ
  encode_rows rows = encode_from (blocks_for (length rows)) 0 rows

-- [B10] the entries as blocks
unfoldable pub encode : List Entry → List ℕ
encode es = encode_rows plain (map entry_bytes es)

-- ---- writing

-- the 8 bytes of a packed entry, low byte first
unfoldable pub row_bytes : ℕ → List ℕ
row_bytes x =
    word_bytes (x % 65536) ++ (word_bytes (x / 65536 % 65536) ++ (word_bytes (x / 4294967296 % 65536) ++ word_bytes (x / 281474976710656)))

-- the first w of them: those of an entry of w bytes
unfoldable pub row_bytes_of : ℕ → ℕ → List ℕ
row_bytes_of w x = take w (row_bytes x)

module _ (F : Frame) where
  -- the bytes that `count` of `given` packed entries take, where `most` are not too few and an output of so many bytes has room for them; else 0
  abbrev pub framed_bytes : (most bytes given count : ℕ) → ℕ
  framed_bytes most bytes given count =
      cond (nat_le count given && (nat_le count most && nat_le (512 * blocks_for F count) bytes)) (512 * blocks_for F count) 0

  -- [N15] [C6] the output with the first `count` packed entries, by the bytes of each, as blocks at its start, where
  -- it has room for them; later bytes stay
  abbrev pub framed_written : (ℕ → List ℕ) → (most : ℕ) (out rows : List ℕ) (count : ℕ) → List ℕ
  framed_written row most out rows count =
      cond (framed_bytes most (length out) (length rows) count == 0) out
      (encode_rows F (map row (take count rows)) ++ drop (512 * blocks_for F count) out)

-- the same of entries of 8 bytes, of which at most 2,016 are written
unfoldable pub bytes_written : ℕ → ℕ → ℕ → ℕ
bytes_written bytes given count = framed_bytes plain 2016 bytes given count

unfoldable pub written : List ℕ → List ℕ → ℕ → List ℕ
written out rows count =
    cond (bytes_written (length out) (length rows) count == 0) out
    (encode_rows plain (map row_bytes (take count rows)) ++ drop (512 * blocks_for plain count) out)

-- the blocks of k entries alone: as many bytes from the start of an output as they take
abbrev pub first_blocks : ℕ → List ℕ → List ℕ
first_blocks k out = take (512 * blocks_for plain k) out
