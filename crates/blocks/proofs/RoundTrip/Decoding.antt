-- Decoding undoes encoding: the blocks, the count and the rows of an encoding, and its entries.
-- Assumes nothing.
use Rattle.std.proofs.Common.{◌≡◌, ℕ, ◌+◌, ◌-◌, ◌*◌, ◌/◌, ◌%◌, ◌<◌, ◌≤◌, List, [], length, get_or, sym, refl, ◌∙◌, mod-lt, arith, length-drop, length-take}
use native.Mathlib.Nat.{div-add-mod}
use lib.ListN.{length-map}
use Rattle.base.proofs.Lists.{Holds, holds-self, holds_as, listed-eq, get_d-map-in}
use Rattle.base.proofs.Split.{Split, split, row_below}
use Rattle.base.proofs.Tests.{lt-cases}
use Rattle.blocks.proofs.Format.Blocks.{Parts, parts}
use Rattle.blocks.proofs.Format.ByteRows.{Rows, row-held}
use Rattle.blocks.proofs.Format.Counts.{blocks-for, used-last}
use Rattle.blocks.proofs.Format.EntryBytes.{rows-entries, entry_read, entries-listed}
use Rattle.blocks.proofs.Format.Lawful.{Lawful, plain-lawful}
use Rattle.blocks.proofs.Format.Sequence.{rows_in, wide-in, fits_in_lem, length-blocks, block_within, row_in}
use Rattle.blocks.proofs.Format.WordBytes.{word_read}
use Rattle.blocks.specs.Encoding.{blocks_for, encode_rows, encode}
use Rattle.blocks.specs.Entries.{entry_bytes, entry_at, entries_of, zero_entry}
use Rattle.blocks.specs.Frame.{Frame, plain, blocks_in, used_in, total_in, entry_pos}
use Rattle.blocks.specs.declared.Entry.{Entry}

module _ (F : Frame) (L : Lawful F) {rows : List (List ℕ)} (wide : Rows F.width rows) where
  -- the rows, as full blocks and the rest
  counted : Split F.room (length rows)
  counted = split (length rows) L.room-pos

  -- the encoding has the length of its blocks, and as many blocks as its rows take
  pub length-rows : length (encode_rows F rows) ≡ 512 * blocks_for F (length rows)
  unfolding encode_rows
  length-rows = length-blocks F L wide (blocks_for F (length rows))

  pub blocks-rows : blocks_in (encode_rows F rows) ≡ blocks_for F (length rows)
  unfolding blocks_in
  blocks-rows = omega (arith, length-rows)

  -- the parts of block i stand at its place
  pub parts_at : (i : ℕ) → i < blocks_for F (length rows) → Parts F (encode_rows F rows) (512 * i) i (rows_in F rows i)
  unfolding encode_rows
  parts_at i h =
      parts F L i (wide-in F L wide i) (fits_in_lem F L wide i)
      (block_within F L wide (blocks_for F (length rows)) (holds-self (encode_rows F rows)) i h)

  -- its used counts are those of the rows, and so is their total
  pub used-at : (i : ℕ) → i < blocks_for F (length rows) → used_in (encode_rows F rows) i ≡ length (rows_in F rows i)
  unfolding used_in
  used-at i h = word_read (length (rows_in F rows i)) (parts_at i h).used

  pub total-rows : total_in F (encode_rows F rows) ≡ length rows
  unfolding total_in
  total-rows =
      let p = counted in
      let b = blocks-for F L p in
      let e : blocks_in (encode_rows F rows) - 1 ≡ p.full = omega (arith, blocks-rows) in
      rw (e, used-at p.full (omega arith), used-last F L rows p) (sym p.sum)

  -- row n, counted from 1, stands where entry n is read
  pub row_read : (n : ℕ) → 1 ≤ n → n ≤ length rows → Holds (encode_rows F rows) (entry_pos F n) (get_or rows (n - 1) [])
  unfolding entry_pos
  row_read n lo hi =
      let p = counted in
      let i = (n - 1) / F.room in
      let j = (n - 1) % F.room in
      let e : F.room * i + j ≡ n - 1 = div-add-mod (n - 1) F.room in
      let hj : j < F.room = mod-lt (n - 1) L.room-pos in
      let inside : i < blocks_for F (length rows) =
      lt-cases p.full i
      (λ h. absurd (omega (arith, row_below F.room h, p.sum, p.small)))
      (λ h. omega (arith, blocks-for F L p)) in
      let used : j < length (rows_in F rows i) = simp (length-take, length-drop) (omega arith) in
      holds_as (row_in F rows i j hj ∙ rw e) refl (row-held (wide-in F L wide i) (parts_at i inside).cells j used)

-- the encoding of entries has the length of their blocks
pub length-encode : (es : List Entry) → length (encode es) ≡ 512 * blocks_for plain (length es)
unfolding encode
length-encode es = rw (length-rows plain plain-lawful (rows-entries es), length-map)

-- entry n of an encoding is entry n of the list
entry-at : (es : List Entry) (k : ℕ) → k < length es → entry_at (encode es) (1 + k) ≡ get_or es k zero_entry
unfolding encode entry_at
entry-at es k h =
    let e : 1 + k - 1 ≡ k = omega arith in
    let l = length-map es entry_bytes in
    entry_read (get_or es k zero_entry)
    (holds_as (rw e (get_d-map-in entry_bytes es zero_entry [] k h)) refl
    (row_read plain plain-lawful (rows-entries es) (1 + k) (omega arith) (omega arith)))

-- the entries of the encoding are the entries encoded
pub decode-encode : (es : List Entry) → entries_of (encode es) ≡ es
unfolding encode
decode-encode es =
    rw (entries-listed (encode es), total-rows plain plain-lawful (rows-entries es), length-map)
    (listed-eq (entry_at (encode es)) 1 zero_entry es (entry-at es))
