-- Reading the blocks of a sheet before its entries: what that says of the whole.
-- Assumes nothing.
use Rattle.std.proofs.Common.{◌≡◌, ℕ, List, length, Ok, sym, ◌∙◌}
use Rattle.blocks.proofs.Format.EntryBytes.{length-entries}
use Rattle.blocks.proofs.Refusing.FirstFault.{first-append}
use Rattle.blocks.proofs.Refusing.Readings.{accepted-finding, refused-finding}
use Rattle.blocks.specs.Entries.{entries_of}
use Rattle.blocks.specs.Faults.{Fault, first, rows_from}
use Rattle.blocks.specs.Frame.{plain, total_in}
use Rattle.blocks.specs.Reading.{Reading, answer}
use Rattle.blocks.specs.Refusals.{refused}
use Rattle.blocks.specs.declared.Cause.{Cause}
use Rattle.blocks.specs.declared.Schema.TheVariants.{Description}
use Rattle.reading.proofs.BlocksRead.{plain_faults}
use Rattle.sheets.specs.Sheet.{sheet_faults, sheet_reading, sheet_rows}

module _ (s : List ℕ) {r : Reading} (e : r ≡ answer 1 (total_in plain s) (first (plain_faults Description s))) where
  abbrev rows : List Fault
  rows = rows_from (sheet_rows (entries_of s)) 1 (length (entries_of s))

  -- what is refused by its blocks is refused so
  pub sheet-refused : {k : Cause} {j p : ℕ} → r ≡ refused k j p → sheet_reading s ≡ refused k j p
  unfolding sheet_reading sheet_faults
  sheet-refused q =
      let f = refused-finding 1 (total_in plain s) (first (plain_faults Description s)) (sym e ∙ q) in
      rw (first-append (plain_faults Description s) rows, f.1, f.0)

  -- else its entries decide
  pub sheet-accepted : {n : ℕ} → r ≡ Ok n
      → sheet_reading s ≡ answer 1 n (first (rows_from (sheet_rows (entries_of s)) 1 n))
  unfolding sheet_reading sheet_faults
  sheet-accepted {n} q =
      let f = accepted-finding 1 (total_in plain s) (first (plain_faults Description s)) (sym e ∙ q) in
      let count : n ≡ length (entries_of s) = f.0 ∙ sym (length-entries s) in
      rw (first-append (plain_faults Description s) rows, f.1, ← f.0, ← count)
