-- `forms_ok` meets its contract: what was found of the forms that were looked at.
use Rattle.desk.proofs.forms.FormLaws.{Seen}
use Rattle.desk.proofs.forms.forms_ok.Given as goal

abbrev pub invariant-loop-bytes : goal.invariant-loop-bytes
invariant-loop-bytes l = Seen l.rows l.wrong l.bytes-index
