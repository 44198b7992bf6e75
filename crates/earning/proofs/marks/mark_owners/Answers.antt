use Prim.Native.Nat.{◌≤◌}
use mathlib.Core.Path.{refl}
use native.Mathlib.Omega.{arith}
use Rattle.blocks.proofs.Refusing.Legal.{owner-earlier}
use Rattle.blocks.specs.Entries.{entries_of}
use Rattle.earning.proofs.MarkLaws.{marking-more, marking-right, marking-start, owner-read}
use Rattle.earning.proofs.TriedLaws.{mark-read}
use Rattle.earning.specs.code.Tried.{set_of}
use Rattle.earning.proofs.marks.mark_owners.Goals as goal

pub loop-k-init : goal.loop-k-init
loop-k-init c = (omega arith, rw c.requires.0 (marking-start (entries_of c.args.d.now) c.requires.2 (set_of c.args.kept.now) c.args.kept.now (λ j. refl)))

pub bounds-kept-owner : goal.bounds-kept-owner
bounds-kept-owner c =
    let o = owner-read c.args.d.now c.args.total c.loop-k.k c.requires.0 c.from-owner.ensures c.nth_entry.ensures in
    omega (arith, o, owner-earlier c.requires.2 c.loop-k.k (omega (arith, c.loop-k-test.true)) (omega (arith, c.loop-k.invariant.0, c.requires.0)), c.loop-k.invariant.0, c.requires.1)

pub bounds-kept-owner-in-loop-k : goal.bounds-kept-owner-in-loop-k
bounds-kept-owner-in-loop-k c =
    let o = owner-read c.args.d.now c.args.total c.loop-k.k c.requires.0 c.from-owner.ensures c.nth_entry.ensures in
    omega (arith, o, owner-earlier c.requires.2 c.loop-k.k (omega (arith, c.loop-k-test.true)) (omega (arith, c.loop-k.invariant.0, c.requires.0)), c.loop-k.invariant.0, c.requires.1)

pub loop-k-preserved : goal.loop-k-preserved
loop-k-preserved c =
    let l = c.loop-k in
    let o = owner-read c.args.d.now c.args.total l.k c.requires.0 c.from-owner.ensures c.nth_entry.ensures in
    let lo : 1 ≤ l.k = omega (arith, c.loop-k-test.true) in
    let e = owner-earlier c.requires.2 l.k lo (omega (arith, l.invariant.0, c.requires.0)) in (
      omega (arith, l.invariant.0),
      marking-more (entries_of c.args.d.now) c.requires.2 (set_of c.args.kept.now) l.invariant.1 lo (omega (arith, l.invariant.0, c.requires.0)) o (omega (arith, o, e, l.invariant.0, c.requires.1, l.auto))
          (mark-read l.kept _ c.from-owner.result (omega (arith, o, e, l.invariant.0, c.requires.1, l.auto))) (mark-read l.kept _ l.k (omega (arith, l.invariant.0, c.requires.1, l.auto))),
    )

pub returns : goal.returns
returns c = λ k lo hi.
    marking-right (entries_of c.args.d.now) c.requires.2 (set_of c.args.kept.now) c.loop-k.invariant.1 k lo (omega (arith, c.loop-k-test.false)) (omega (arith, c.requires.0))
