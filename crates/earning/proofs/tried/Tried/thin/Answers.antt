use Prim.Native.Nat.{◌+◌, suc}
use mathlib.Core.Path.{◌∙◌, ◌≡◌, ap, refl}
use mathlib.Core.Bool.{Bool, ◌||◌, cond}
use lib.Dec.{eqb}
use lib.ListN.{length-set}
use native.Mathlib.Omega.{arith}
use Rattle.blocks.specs.Entries.{nth, packed}
use Rattle.narrow.specs.Keeping.{neutral}
use Rattle.earning.proofs.TriedLaws.{mark-read, packed-left, thin-front, thin-more, tried-from}
use Rattle.earning.specs.code.Tried.{set_of}
use Rattle.earning.proofs.tried.Tried.thin.Goals as goal

pub loop-i-init : goal.loop-i-init
loop-i-init c = record { long = c.args.self.whole; front = λ j h. refl; done = λ pre es L m h. absurd (omega arith) }

pub loop-i-preserved : goal.loop-i-preserved
loop-i-preserved c =
    let l = c.loop-i in
    let K = set_of c.args.kept.now in
    let few = c.args.self.few in
    let w : l.i + 1 ≡ suc l.i = omega arith in
    record {
      long = length-set l.rows _ _ ∙ l.invariant.long;
      front = thin-front c.args.self.entries.now l.rows c.args.self.before l.i _ l.invariant.front;
      done = λ pre es L.
          let p = tried-from L l.i (omega (arith, c.loop-i-test.true)) in
          let e = nth es (suc l.i) in
          thin-more es K l.rows c.args.self.before l.i (omega (arith, few, c.loop-i-test.true, l.auto)) (l.invariant.done pre es L)
          (c.left_at.ensures e p.1 p.0 ∙ ap (λ (b : Bool). packed (cond (eqb e.kind 5 || b) e (neutral e))) (mark-read c.args.kept.now _ (l.i + 1) (omega (arith, few, c.loop-i-test.true, c.told-kept)) ∙ ap K w));
    }

pub returns-clause-left : goal.returns-clause-left
returns-clause-left c = λ pre es L.
    let l = c.loop-i in
    packed-left pre es (set_of c.args.kept.now) L l.invariant.front (λ i h. l.invariant.done pre es L i (omega (arith, c.loop-i-test.false)))

pub returns-clause-long : goal.returns-clause-long
returns-clause-long c = c.loop-i.invariant.long
