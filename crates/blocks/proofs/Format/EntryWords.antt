-- The word sum of an entry, by its fields.
-- Assumes nothing.
use Rattle.std.proofs.Common.{◌≡◌, ℕ, suc, ◌+◌, ◌*◌, ◌<◌, List, add-zero, zero-add}
use Rattle.base.specs.Range.{sum}
use Rattle.blocks.proofs.Format.Counts.{place_in}
use Rattle.blocks.proofs.Format.Lawful.{plain-lawful}
use Rattle.blocks.specs.Entries.{entry_at, entry_from}
use Rattle.blocks.specs.Exchange.{entry_words, words_of}
use Rattle.blocks.specs.Frame.{plain}
use Rattle.blocks.specs.Words.{word_at, word_from}

-- entry e of block b, both counted from 0, is entry 63 * b + e + 1 of the input
pub entry-words : (s : List ℕ) (b e : ℕ) → e < 63 → entry_words plain s b e ≡ words_of (entry_at s (suc (63 * b + e)))
unfolding entry_words sum word_from word_at entry_from entry_at
entry-words s b e h = rw (place_in plain plain-lawful b e h, add-zero, zero-add)
