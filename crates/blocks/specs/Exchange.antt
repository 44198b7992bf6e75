-- Two entries of one block exchanged.
-- Assumes nothing.
use Rattle.std.specs.Prelude.{◌≡◌, ℕ, ◌+◌, ◌*◌, ◌/◌, List, length, slice_index}
use Rattle.base.specs.Exchange.{Exchanged}
use Rattle.base.specs.Range.{sum}
use Rattle.blocks.specs.Frame.{Frame}
use Rattle.blocks.specs.Words.{word_from}
use Rattle.blocks.specs.declared.Entry.{Entry}

-- the words of an entry of 8 bytes, added: kind with the byte after it, owner, name, number
abbrev pub words_of : Entry → ℕ
words_of e = e.kind + 256 * e.reserved + e.owner + e.name + e.number

module _ (F : Frame) where
  -- where entry e of block b starts, both counted from 0
  abbrev pub cell_pos : ℕ → ℕ → ℕ
  cell_pos b e = 512 * b + 4 + F.width * e

  -- [B11] word sums: the words of entry e of block b, added
  unfoldable pub entry_words : List ℕ → ℕ → ℕ → ℕ
  entry_words s b e = sum (word_from s (cell_pos b e)) (F.width / 2)

  -- [B11] two entries of one block exchanged: t is s with the bytes of entries e and e + p of block b exchanged
  pub record EntriesExchanged (s t : List ℕ) (b e p : ℕ) : Type 0 where
    pub size : length t ≡ length s
    pub bytes : Exchanged (λ k. slice_index s k) (λ k. slice_index t k) F.width (cell_pos b e) (cell_pos b (e + p))
