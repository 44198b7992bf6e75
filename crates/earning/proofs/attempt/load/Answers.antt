use Prim.Native.Nat.{◌+◌}
use native.Mathlib.Omega.{arith}
use Rattle.blocks.proofs.Refusing.Legal.{owner-earlier}
use Rattle.earning.proofs.AttemptLaws.{front-stays, load-more, load-whole}
use Rattle.earning.proofs.MarkLaws.{owner-read}
use mathlib.Core.Path.{refl}
use Rattle.earning.proofs.attempt.load.Goals as goal

pub loop-i-init : goal.loop-i-init
loop-i-init c = record { loaded = λ m h. absurd (omega arith); before = λ j h. refl }

pub behind-requires : goal.behind-requires
behind-requires c =
    let a = c.args in
    let o = owner-read a.part.bytes.now a.part.total (c.loop-i.i + 1) a.part.counted refl c.nth_entry.ensures in
    (omega (arith, c.requires), omega (arith, o, owner-earlier a.part.legal (c.loop-i.i + 1) (omega arith) (omega (arith, c.loop-i-test.true, a.part.counted)), c.loop-i-test.true, c.requires))

pub loop-i-preserved : goal.loop-i-preserved
loop-i-preserved c =
    let l = c.loop-i in
    let a = c.args in
    let k = c.behind.type_inv in
    record {
      loaded = load-more a.part.bytes.now a.part.total a.others l.entries l.i a.part.counted (omega (arith, c.loop-i-test.true, c.requires, l.auto))
          (record { kind = omega (arith, k); reserved = omega (arith, k); owner = omega (arith, k); name = omega (arith, k); number = omega (arith, k) })
          c.nth_entry.ensures c.behind.ensures c.pack.ensures l.invariant.loaded;
      before = front-stays a.entries.now l.entries a.others l.i _ l.invariant.before;
    }

pub returns-clause-loaded : goal.returns-clause-loaded
returns-clause-loaded c =
    load-whole c.args.part.bytes.now c.args.others c.loop-i.entries c.loop-i.i (omega (arith, c.loop-i-test.false, c.args.part.counted)) c.loop-i.invariant.loaded

pub returns-clause-before : goal.returns-clause-before
returns-clause-before c = c.loop-i.invariant.before
