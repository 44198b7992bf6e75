-- `forms_ok` meets its contract.
use Rattle.std.proofs.Common.{arith}
use Rattle.desk.proofs.forms.FormLaws.{seen-all, seen-more, seen-start}
use Rattle.desk.proofs.forms.forms_ok.Goals as goal

pub loop-bytes-init : goal.loop-bytes-init
loop-bytes-init c = seen-start c.args.rows.now

pub loop-bytes-preserved : goal.loop-bytes-preserved
loop-bytes-preserved c = seen-more _ _ _ c.loop-bytes.invariant (omega arith) c.form_ok.ensures

pub returns : goal.returns
returns c = seen-all _ _ _ c.loop-bytes.invariant (omega arith)
