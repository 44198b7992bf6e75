-- `push` meets its contract: the number of the entry stands behind those that were there.
use Prim.Native.Nat.{◌<◌}
use borrow.Author.Rules.{rules}
use lib.ListN.{length}
use mathlib.Core.List.{[], ◌++◌, ◌∷◌}
use mathlib.Core.Path.{◌∙◌, ap}
use native.Mathlib.Omega.{arith}
use Rattle.blocks.specs.declared.Entry.{Entry}
use Rattle.unfolding.proofs.RowLaws.{row-entry, row_more, rows-length}
use Rattle.unfolding.specs.code.Rows.{entries_in, entry_of_row}
use Rattle.unfolding.proofs.rows.Rows.push.Goals as goal

pub returns : goal.returns
returns c =
    let numbers = c.self.inside.numbers in
    let n = c.self.inside.len in
    let there : n < length numbers = omega (arith, rows-length numbers n (omega arith), ap length c.self.view_is, c.requires) in
    let one = ap entry_of_row c.pack.ensures ∙ row-entry _ (record { kind = search rules; reserved = search rules; owner = search rules; name = search rules; number = search rules }) in
    row_more numbers n _ there ∙ ap (λ (x : Entry). entries_in numbers n ++ (x ∷ [])) one ∙ rw c.self.view_is
