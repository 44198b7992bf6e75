-- `truncate` meets its contract.
use lib.ListN.{length, take}
use mathlib.Core.List.{List}
use mathlib.Core.Path.{◌∙◌, ap}
use Prim.Native.Nat.{◌≤◌}
use native.Mathlib.Omega.{arith}
use Rattle.blocks.specs.declared.Entry.{Entry}
use Rattle.unfolding.proofs.RowLaws.{rows-length, rows_less}
use Rattle.unfolding.proofs.rows.Rows.truncate.Goals as goal

pub returns : goal.returns
returns c =
    let numbers = c.self.inside.numbers in
    let n = c.self.inside.len in
    let less : c.args.m ≤ n = omega (arith, rows-length numbers n (omega arith), ap length c.self.view_is, c.requires) in
    rows_less numbers n c.args.m less ∙ ap (λ (es : List Entry). take c.args.m es) c.self.view_is
