-- `rows_drafted` meets its contract.
use Rattle.std.proofs.Common.{◌∙◌, sym}
use Rattle.desk.proofs.forms.FormLaws.{formless}
use Rattle.desk.proofs.sound.rows_drafted.Goals as goal

pub returns-then-not-forms_ok-clause-tells : goal.returns-then-not-forms_ok-clause-tells
returns-then-not-forms_ok-clause-tells c = formless c.args.rows.now (sym c.forms_ok.ensures ∙ c.if-not-forms_ok.true)

pub owners_ok-requires : goal.owners_ok-requires
owners_ok-requires c = (c.requires, sym c.forms_ok.ensures ∙ c.if-not-forms_ok.false)
