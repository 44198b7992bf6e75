-- Passes over entries that go block by block: each entry of a block is that of the list.
-- Assumes nothing.
use Rattle.std.proofs.Common.{◌≡◌, ℕ, ◌+◌, ◌-◌, ◌*◌, ◌<◌, ◌≤◌, List, length, sym, ap, ◌∙◌, arith}
use Rattle.blocks.proofs.Format.EntryBytes.{length-entries}
use Rattle.blocks.proofs.Refusing.EntryLaws.{nth-entries}
use Rattle.blocks.specs.Entries.{entries_of, entry_at, entry_from}
use Rattle.blocks.specs.Frame.{entry_pos, plain}
use Rattle.blocks.specs.code.Blockwise.{AtBlock, InBlock, Whole, next_count}

-- before the first block
pub at_first : {total : ℕ} → AtBlock total 0 4
at_first = record { few = omega arith; start = omega arith; full = λ h. omega arith }

module _ {total n at count : ℕ} (b : AtBlock total n at) (more : n < total) (e : count ≡ next_count (total - n)) where
  -- after a block
  pub at_next : AtBlock total (n + count) (at + 512)
  unfolding next_count
  at_next = record { few = omega (arith, b.few); start = omega (arith, b.start, b.full more); full = λ h. omega (arith, b.full more) }

  -- entry i of the block
  place_here : (i : ℕ) → i < count → at + 8 * i ≡ entry_pos plain (n + i + 1)
  unfolding next_count entry_pos
  place_here i h = omega (arith, b.start, b.full more)

  -- its entries are those of the list, also where the pass is to end before the last
  pub in-front : {s : List ℕ} → total ≤ length (entries_of s) → Whole s total → InBlock s at count n
  unfolding next_count entry_at
  in-front {s} t w = record {
    there = omega (arith, b.start, b.full more);
    within = omega arith;
    each = λ i h.
        ap (entry_from s) (place_here i h) ∙ sym (nth-entries s (n + i + 1) (omega arith) (omega (arith, length-entries s)));
  }

  pub in_block : {s : List ℕ} → total ≡ length (entries_of s) → Whole s total → InBlock s at count n
  in_block t w = in-front (omega arith) w
