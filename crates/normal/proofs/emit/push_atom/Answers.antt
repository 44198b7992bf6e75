-- `push_atom` meets its contract: the row that is stored counts where the slot lists a number.
use mathlib.Core.Path.{◌∙◌}
use Rattle.normal.proofs.emit.PushLaws.{atom-stored}
use Rattle.normal.specs.code.ClassRuns.{kind_cell}
use Rattle.normal.specs.code.Emitted.{kind_in}
use Rattle.normal.proofs.emit.push_atom.Goals as goal

pub returns : goal.returns
returns c =
    let a = kind_in c.args.kind in
    rw (c.from.ensures, c.is_some.ensures) (atom-stored a c.args.owner (kind_cell c.args.table.now a c.args.x) c.value_at-value.ensures c.if-rows-count.false
    (c.pack_row.ensures ∙ rw (c.number.ensures, c.tag_name.ensures, c.unwrap_or-number.ensures)))
