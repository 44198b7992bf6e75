-- `at` meets its contract.
use lib.ListN.{get_or, length, length-map}
use mathlib.Core.List.{List}
use mathlib.Core.Path.{◌∙◌, ap, sym}
use native.Mathlib.Omega.{arith}
use Rattle.base.proofs.Lists.{get_d-map-in}
use Rattle.blocks.specs.Entries.{zero_entry}
use Rattle.blocks.specs.declared.Entry.{Entry}
use Rattle.unfolding.specs.code.Rows.{entry_of_row}
use Rattle.unfolding.proofs.rows.Rows.at.Goals as goal

pub returns : goal.returns
returns c =
    let numbers = c.numbers.result.now in
    let long = length-map numbers entry_of_row in
    c.entry_of_row.ensures ∙ sym (get_d-map-in entry_of_row numbers 0 zero_entry c.args.i (omega (arith, long, ap length c.numbers.ensures.0, c.requires)))
    ∙ ap (λ (es : List Entry). get_or es c.args.i zero_entry) c.numbers.ensures.0
