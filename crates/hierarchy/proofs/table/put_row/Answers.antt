use Rattle.std.proofs.Common.{◌∙◌, refl}
use lib.ListN.{length-set}
use Rattle.std.proofs.lemmas.Nat.Bits.{shr_and_one}
use Rattle.std.specs.Int.{bit_at}
use Rattle.base.proofs.Lists.{listed}
use Rattle.base.proofs.StoresLaws.{stored-none}
use Rattle.hierarchy.proofs.RowLaws.{listed-more}
use Rattle.hierarchy.proofs.table.put_row.Goals as goal

pub loop-j-init : goal.loop-j-init
unfolding listed
loop-j-init c = (refl, stored-none _ _)

pub loop-j-preserved : goal.loop-j-preserved
loop-j-preserved c =
    let A = c.loop-j.invariant in
    (length-set c.loop-j.out _ _ ∙ A.0, listed-more (bit_at c.args.word) c.args.out.now c.args.at c.loop-j.j A.1 (shr_and_one c.args.word c.loop-j.j))
