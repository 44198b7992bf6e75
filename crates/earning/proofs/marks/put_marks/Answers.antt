use mathlib.Core.Path.{◌∙◌, ◌≡◌, ap, refl}
use Prim.Native.Nat.{◌+◌, suc}
use lib.ListN.{length-set}
use native.Mathlib.Omega.{arith}
use Rattle.base.proofs.Lists.{listed}
use Rattle.base.proofs.StoresLaws.{stored-none}
use Rattle.base.specs.Range.{bit}
use Rattle.earning.proofs.MarkLaws.{byte-more}
use Rattle.earning.proofs.TriedLaws.{mark-read}
use Rattle.earning.specs.code.Tried.{set_of}
use Rattle.earning.proofs.marks.put_marks.Goals as goal

pub loop-i-init : goal.loop-i-init
unfolding listed
loop-i-init c = (refl, stored-none _ _)

pub loop-i-preserved : goal.loop-i-preserved
loop-i-preserved c =
    let l = c.loop-i in
    let w : l.i + 1 ≡ suc l.i = omega arith in (
      length-set l.out _ _ ∙ l.invariant.0,
      byte-more (λ k. bit (set_of c.args.kept.now k)) c.args.out.now l.out l.i l.invariant.1
          (c.from.ensures ∙ ap bit (mark-read c.args.kept.now _ (l.i + 1) (omega (arith, c.loop-i-test.true, c.requires, c.told-kept)) ∙ ap (set_of c.args.kept.now) w)),
    )
