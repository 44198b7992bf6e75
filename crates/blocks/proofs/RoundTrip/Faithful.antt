-- An input that breaks none of numbers 1 to 3 of the table of refusals is the encoding of its rows.
-- Assumes nothing.
use Rattle.std.proofs.Common.{◌≡◌, ℕ, suc, ◌+◌, ◌-◌, ◌*◌, ◌<◌, ◌≤◌, true, List, [], length, get_or, sym, ◌∙◌, arith, length-drop, length-take}
use mathlib.Core.Path.{fun_ext}
use Rattle.base.proofs.Lists.{Holds, holds_as, holds-eq, holds-zeros, listed, length-listed, get_d-listed, map-listed, part_held, part-eq}
use Rattle.base.proofs.RangeLaws.{all-at}
use Rattle.base.proofs.Split.{Split, row_below}
use Rattle.base.proofs.Tests.{eqb-eq, lt-cases}
use Rattle.blocks.proofs.Format.Blocks.{Parts, spare, block_held}
use Rattle.blocks.proofs.Format.ByteRows.{Rows, rows-listed, rows-held}
use Rattle.blocks.proofs.Format.Counts.{used-before, used-small, used-some, blocks-for, used-full, used-last, place_in}
use Rattle.blocks.proofs.Format.EntryBytes.{length-entry, length-entries, entry-held, entries-listed}
use Rattle.blocks.proofs.Format.Lawful.{Lawful, plain-lawful}
use Rattle.blocks.proofs.Format.Lengths.{whole-blocks, some_block, few-blocks}
use Rattle.blocks.proofs.Format.Sequence.{rows_in, block_of, row_in, wide-in, fits_in_lem, length-blocks, blocks-held}
use Rattle.blocks.proofs.Format.WordBytes.{Bytes, word_held}
use Rattle.blocks.proofs.RoundTrip.Unbroken.{Unbroken, Passing, passing}
use Rattle.blocks.specs.Encoding.{blocks_for, encode_rows, encode}
use Rattle.blocks.specs.Entries.{entry_bytes, entry_at, entries_of, limit_of}
use Rattle.blocks.specs.Frame.{Frame, plain, blocks_in, used_in, zero_at, used_ok, rest_zero, total_in, entry_pos}
use Rattle.blocks.specs.code.Blockwise.{Whole}
use Rattle.blocks.specs.declared.Schema.{Schema}

-- the bytes of row n of an input
abbrev pub row_at : Frame → List ℕ → ℕ → List ℕ
row_at F s n = listed (λ k. get_or s k 0) (entry_pos F n) F.width

-- the rows of an input, first to last
abbrev pub rows_of : Frame → List ℕ → List (List ℕ)
rows_of F s = listed (row_at F s) 1 (total_in F s)

-- they have the width of the format
pub rows-wide : (F : Frame) (s : List ℕ) → Rows F.width (rows_of F s)
rows-wide F s = rows-listed (row_at F s) (λ n. length-listed (λ k. get_or s k 0) (entry_pos F n) F.width) 1 (total_in F s)

module _ (F : Frame) (L : Lawful F) {σ : Schema} {s : List ℕ} (unbroken : Unbroken F σ s) where
  -- each block passes numbers 2 and 3
  pass : (i : ℕ) → i < blocks_in s → Passing F s (blocks_in s) i
  pass i h = passing F (unbroken.check i h) (unbroken.frame i h)

  -- there is a block
  some-blocks : 0 < blocks_in s
  some-blocks = some_block σ s unbroken.length

  -- so the last block uses no more entries than it has room for
  used-last-ok : used_ok F (blocks_in s) (blocks_in s - 1) (used_in s (blocks_in s - 1)) ≡ true
  used-last-ok = (pass (blocks_in s - 1) (omega (arith, some-blocks))).used

  last-small : used_in s (blocks_in s - 1) ≤ F.room
  last-small = used-small F (blocks_in s) (blocks_in s - 1) (used_in s (blocks_in s - 1)) (omega (arith, some-blocks)) used-last-ok

  -- the used counts add up to the rows
  rows-sum : length (rows_of F s) ≡ F.room * (blocks_in s - 1) + used_in s (blocks_in s - 1)
  unfolding total_in
  rows-sum = length-listed (row_at F s) 1 (total_in F s)

  -- the used counts split the rows into full blocks and the last
  abbrev counts : Split F.room (length (rows_of F s))
  counts =
      record {
        full = blocks_in s - 1;
        rest = used_in s (blocks_in s - 1);
        sum = rows-sum;
        small = last-small;
        some = used-some F (blocks_in s) (blocks_in s - 1) (used_in s (blocks_in s - 1)) (omega (arith, some-blocks)) used-last-ok;
      }

  -- no block uses more entries than it has room for
  pub total-rows-bound : total_in F s ≤ F.room * blocks_in s
  total-rows-bound =
      let last : blocks_in s - 1 < blocks_in s = omega (arith, some-blocks) in
      omega (arith, length-listed (row_at F s) 1 (total_in F s), rows-sum, last-small, row_below F.room last)

  -- the rows take the blocks of the input
  rows-blocks : blocks_for F (length (rows_of F s)) ≡ blocks_in s
  rows-blocks = blocks-for F L counts ∙ omega (arith, some-blocks)

  -- block i uses the rows that it is given
  used-rows : (i : ℕ) → i < blocks_in s → used_in s i ≡ length (rows_in F (rows_of F s) i)
  used-rows i h =
      lt-cases (suc i) (blocks_in s)
      (λ b. used-before F (blocks_in s) i (used_in s i) b (pass i h).used ∙ sym (used-full F L (rows_of F s) counts i (omega arith)))
      (λ b. let e : i ≡ blocks_in s - 1 = omega arith in rw e (sym (used-last F L (rows_of F s) counts)))

  -- row j of block i stands at its place
  row-stands : (i j : ℕ) → j < length (rows_in F (rows_of F s) i)
      → Holds s (512 * i + 4 + F.width * j) (get_or (rows_in F (rows_of F s) i) j [])
  row-stands i j h =
      let rows = rows_of F s in
      let n = F.room * i + j in
      let l = length-listed (row_at F s) 1 (total_in F s) in
      let m = simp (length-take, length-drop) at h in
      let hj : j < F.room = omega arith in
      let e : get_or (rows_in F rows i) j [] ≡ row_at F s (1 + n) =
      row_in F rows i j hj ∙ get_d-listed (row_at F s) 1 (total_in F s) [] n (omega arith) in
      let o : 1 + n ≡ suc n = omega arith in
      let f : entry_pos F (1 + n) ≡ 512 * i + 4 + F.width * j = rw o (place_in F L i j hj) in
      holds_as (sym e) f (part_held s (entry_pos F (1 + n)) F.width)

  module _ (bytes : Bytes s) where
    -- the parts of each block stand at their places
    parts-stand : (i : ℕ) → i < blocks_in s → Parts F s (512 * i) i (rows_in F (rows_of F s) i)
    unfolding used_in zero_at rest_zero
    parts-stand i h =
        let rows : List (List ℕ) = rows_in F (rows_of F s) i in
        let p = pass i h in
        let u : used_in s i ≡ length rows = used-rows i h in
        record {
          number = word_held (512 * i) bytes p.number;
          used = word_held (512 * i + 2) bytes u;
          cells = rows-held (wide-in F L (rows-wide F s) i) (row-stands i);
          rest =
              holds-zeros (spare F rows)
              (λ k lo hi. eqb-eq (all-at (zero_at s) (512 * i + 4 + F.width * length rows) (spare F rows) (rw u at p.rest) k lo hi));
          second = word_held (512 * i + 508) bytes p.second;
          check = word_held (512 * i + 510) bytes p.check;
        }

    -- so each block stands at its place
    block-stands : (i : ℕ) → i < blocks_in s → Holds s (512 * i) (block_of F (rows_of F s) i)
    block-stands i h =
        let wide = rows-wide F s in
        block_held F L i (wide-in F L wide i) (fits_in_lem F L wide i) (parts-stand i h)

    -- the input is the encoding of its rows
    pub rows-faithful : encode_rows F (rows_of F s) ≡ s
    unfolding encode_rows
    rows-faithful =
        let wide = rows-wide F s in
        let same = whole-blocks σ s unbroken.length ∙ sym (length-blocks F L wide (blocks_in s)) in
        rw rows-blocks (sym (holds-eq same (blocks-held F L wide (blocks_in s) block-stands)))

-- the bytes of an entry of an input are its row
entry_row : {s : List ℕ} → Bytes s → (n : ℕ) → entry_bytes (entry_at s n) ≡ row_at plain s n
unfolding entry_at
entry_row {s} b n = sym (rw (length-entry (entry_at s n)) at (part-eq (entry-held (entry_pos plain n) b)))

-- an input that breaks none of numbers 1 to 3 is the encoding of its entries
pub encode-decode : {σ : Schema} {s : List ℕ} → Bytes s → Unbroken plain σ s → encode (entries_of s) ≡ s
unfolding encode
encode-decode {σ} {s} b unbroken =
    rw (entries-listed s, map-listed, fun_ext (entry_row b)) (rows-faithful plain plain-lawful unbroken b)

-- the entries of such an input fit its blocks
pub total-bound : {σ : Schema} {s : List ℕ} → Unbroken plain σ s → total_in plain s ≤ 63 * blocks_in s
total-bound unbroken = total-rows-bound plain plain-lawful unbroken

-- and the limit
pub entries-limit : {σ : Schema} {s : List ℕ} → Unbroken plain σ s → length (entries_of s) ≤ 63 * limit_of σ
entries-limit {σ} {s} unbroken =
    omega (arith, length-entries s, total-bound unbroken, few-blocks σ s unbroken.length)

-- and all their blocks are there
pub entries-whole : {σ : Schema} {s : List ℕ} → Unbroken plain σ s → Whole s (length (entries_of s))
unfolding blocks_in
entries-whole {σ} {s} unbroken = omega (arith, length-entries s, total-bound unbroken)
