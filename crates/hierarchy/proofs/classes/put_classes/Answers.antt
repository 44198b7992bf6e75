use Rattle.std.proofs.Common.{◌∙◌, refl}
use lib.ListN.{length-set}
use Rattle.base.proofs.Lists.{listed}
use Rattle.base.proofs.StoresLaws.{stored-none}
use Rattle.hierarchy.proofs.RowLaws.{listed-more}
use Rattle.hierarchy.proofs.WordLaws.{told-both}
use Rattle.meaning.specs.Hierarchy.{alike, class_of}
use Rattle.hierarchy.proofs.classes.put_classes.Goals as goal

pub loop-i-init : goal.loop-i-init
unfolding listed
loop-i-init c = (refl, λ t U D. stored-none _ _)

pub loop-i-preserved : goal.loop-i-preserved
unfolding class_of
loop-i-preserved c =
    let A = c.loop-i.invariant in
    let i = c.loop-i.i in
    let h = c.loop-i-test.true in (
      length-set c.loop-i.out _ _ ∙ A.0,
      λ t U D. listed-more (class_of t c.args.n) c.args.out.now c.args.at i (A.1 t U D)
          (c.lowest.ensures (alike t i) c.args.n c.requires.0 (told-both (U.row i h) (D.row i h))),
    )
