-- `entry_of_row` meets its contract: the bytes of a number, low byte first, are those of its entry.
use Prim.Native.Nat.{◌%◌, ◌*◌, ◌+◌, ◌/◌, ℕ}
use mathlib.Core.Path.{◌∙◌, ◌≡◌, ap, sym}
use native.Mathlib.Omega.{arith}
use Rattle.blocks.specs.Entries.{entry_from}
use Rattle.blocks.specs.Words.{word_at}
use Rattle.blocks.specs.declared.Entry.{Entry}
use Rattle.unfolding.specs.code.Rows.{entry_of_row}
use Rattle.unfolding.proofs.rows.entry_of_row.Goals as goal

pub returns : goal.returns
unfolding entry_of_row entry_from word_at
returns c =
    let x = c.args.x in
    let r : x % 65536 / 256 ≡ x / 256 % 256 = omega arith in
    let o : x / 65536 % 65536 ≡ x / 65536 % 256 + 256 * (x / 16777216 % 256) = omega arith in
    let n : x / 4294967296 % 65536 ≡ x / 4294967296 % 256 + 256 * (x / 1099511627776 % 256) = omega arith in
    let m : x / 281474976710656 ≡ x / 281474976710656 % 256 + 256 * (x / 72057594037927936 % 256) = omega arith in
    let e : ℕ → Entry = λ k. record { kind = x % 256; reserved = x / 256 % 256; owner = x / 65536 % 256 + 256 * (x / 16777216 % 256); name = x / 4294967296 % 256 + 256 * (x / 1099511627776 % 256); number = k } in
    c.from.ensures ∙ rw (c.to_le_bytes.ensures, r, o, n) (ap e (sym m))
