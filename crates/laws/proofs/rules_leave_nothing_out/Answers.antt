use Rattle.normal.proofs.PromiseKept.{irreducible-own}
use Rattle.laws.proofs.rules_leave_nothing_out.Goals as goal

pub returns : goal.returns
returns c = λ P d m i n l. irreducible-own P l i d
