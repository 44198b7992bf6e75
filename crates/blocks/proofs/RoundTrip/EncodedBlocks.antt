-- An encoding breaks none of numbers 1 to 3 of the table of refusals.
-- Assumes nothing.
use Rattle.std.proofs.Common.{◌≡◌, ℕ, suc, ◌+◌, ◌*◌, ◌<◌, ◌≤◌, true, List, length, arith}
use lib.ListN.{length-map}
use Rattle.base.proofs.Lists.{zeros-held}
use Rattle.base.proofs.RangeLaws.{all_of}
use Rattle.base.proofs.Split.{Split, split}
use Rattle.base.proofs.Tests.{eq-eqb}
use Rattle.blocks.proofs.Format.Blocks.{Parts, spare}
use Rattle.blocks.proofs.Format.ByteRows.{Rows}
use Rattle.blocks.proofs.Format.Counts.{blocks-for, used-right, blocks-limit}
use Rattle.blocks.proofs.Format.EntryBytes.{rows-entries}
use Rattle.blocks.proofs.Format.Lawful.{Lawful, plain-lawful}
use Rattle.blocks.proofs.Format.Lengths.{limit-pos, length-right}
use Rattle.blocks.proofs.Format.WordBytes.{word_read}
use Rattle.blocks.proofs.RoundTrip.Decoding.{length-rows, blocks-rows, parts_at}
use Rattle.blocks.proofs.RoundTrip.Unbroken.{Unbroken, Passing, check-right, frame_right}
use Rattle.blocks.specs.Encoding.{blocks_for, encode_rows, encode}
use Rattle.blocks.specs.Entries.{limit_of}
use Rattle.blocks.specs.Frame.{Frame, plain, blocks_in, used_in, zero_at, used_ok, rest_zero}
use Rattle.blocks.specs.declared.Entry.{Entry}
use Rattle.blocks.specs.declared.Schema.{Schema}

-- a block whose parts stand at their places passes, if it uses as many entries as it should
parts-passing : {F : Frame} {s : List ℕ} {n i : ℕ} {rows : List (List ℕ)}
    → Parts F s (512 * i) i rows → used_ok F n i (length rows) ≡ true → Passing F s n i
unfolding used_in zero_at rest_zero
parts-passing {F} {s} {n} {i} {rows} p ok =
    let u : used_in s i ≡ length rows = word_read (length rows) p.used in
    record {
      number = word_read (suc i) p.number;
      used = rw u ok;
      second = word_read _ p.second;
      rest =
          rw u (all_of (zero_at s) (512 * i + 4 + F.width * length rows) (spare F rows)
          (λ k lo hi. eq-eqb (zeros-held (spare F rows) p.rest k lo hi)));
      check = word_read _ p.check;
    }

-- each block of an encoding passes
rows-passing : (F : Frame) (L : Lawful F) {rows : List (List ℕ)} → Rows F.width rows → (i : ℕ)
    → i < blocks_in (encode_rows F rows) → Passing F (encode_rows F rows) (blocks_in (encode_rows F rows)) i
rows-passing F L {rows} wide i h =
    let p : Split F.room (length rows) = split (length rows) L.room-pos in
    let n = blocks-for F L p in
    let b = blocks-rows F L wide in
    parts-passing (parts_at F L wide i (omega arith)) (rw (b, n) (used-right F L rows p i (omega arith)))

-- the encoding of rows that fit the limit breaks none of numbers 1 to 3
pub rows-sound : (F : Frame) → Lawful F → (σ : Schema) {rows : List (List ℕ)} → Rows F.width rows
    → length rows ≤ F.room * limit_of σ → Unbroken F σ (encode_rows F rows)
rows-sound F L σ {rows} wide h =
    let few = blocks-limit F L (length rows) (limit_of σ) (limit-pos σ) h in
    let some = blocks-for F L (split (length rows) L.room-pos) in
    record {
      length = length-right σ (encode_rows F rows) (blocks_for F (length rows)) (length-rows F L wide) (omega arith) few;
      check = λ i l. check-right (rows-passing F L wide i l);
      frame = λ i l. frame_right (rows-passing F L wide i l);
    }

-- the encoding of entries that fit the limit breaks none of numbers 1 to 3
pub encode-sound : (σ : Schema) (es : List Entry) → length es ≤ 63 * limit_of σ → Unbroken plain σ (encode es)
unfolding encode
encode-sound σ es h = rows-sound plain plain-lawful σ (rows-entries es) (rw length-map h)
