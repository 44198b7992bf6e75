-- `has_names_after` meets its contract.
use lib.Dec.{eqb}
use mathlib.Core.Path.{◌∙◌, ap}
use Rattle.base.proofs.Parts.{high_of}
use Rattle.blocks.specs.Entries.{is_named}
use Rattle.std.proofs.Common.{rules, tests}
use Rattle.std.proofs.lemmas.Iterator.{YieldsList-from_slice}
use Rattle.std.proofs.lemmas.Iterator.Search.{any_from_yields_List}
use Rattle.std.specs.List.{list_any}
use Rattle.unfolding.proofs.RowLaws.{any-row, rows_after}
use Rattle.unfolding.specs.code.Rows.{entry_of_row}
use Rattle.unfolding.proofs.rows.Rows.has_names_after.Goals as goal

pub returns : goal.returns
returns c =
    let numbers = high_of c.args.m c.numbers.result.now in
    any_from_yields_List (λ x. eqb (entry_of_row x).kind 9) _ _ c.any.result c.any.ensures.ran (YieldsList-from_slice numbers cc) (λ x b q k. search (rules, tests))
    ∙ any-row numbers ∙ ap (list_any is_named) (rows_after c.numbers.result.now c.args.m c.numbers.ensures.0)
