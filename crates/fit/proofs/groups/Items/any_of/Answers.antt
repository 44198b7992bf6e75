use mathlib.Core.Bool.{not}
use mathlib.Core.Path.{ap, refl, sym}
use native.Mathlib.Omega.{arith}
use Rattle.fit.proofs.groups.GroupLaws.{is-else, is-here}
use Rattle.fit.proofs.index.BucketLaws.{hash-below}
use Rattle.fit.proofs.index.BucketWalk.{pass-ends, pass-first, pass-has, pass-no, pass-on}
use Rattle.fit.specs.code.Index.{any_of}
use Rattle.fit.proofs.groups.Items.any_of.Goals as goal

pub loop-k-init : goal.loop-k-init
loop-k-init c =
    let R = c.args.self.now.ready in
    let b = c.bucket-k-items.ensures in
    rw c.into_iter-k-iterator.ensures.into_iter_gives (pass-first R _ _ refl (hash-below _ _ _ _ (omega (arith, R.index.below))) b.0 b.1 b.2)

pub entry_at-requires : goal.entry_at-requires
entry_at-requires c =
    pass-has c.args.self.now.ready _ _ c.loop-k.invariant c.in-Some.ensures.steps

pub loop-k-preserved : goal.loop-k-preserved
loop-k-preserved c =
    let a = c.args in
    pass-on a.self.now.ready _ _ c.loop-k.invariant c.in-Some.ensures.steps
    (is-else _ a.g a.kind a.name c.in-Some.k c.entry_at.ensures c.is_of.ensures c.if-is_of.false)

pub returns : goal.returns
unfolding any_of
returns c =
    sym (ap not (pass-ends c.args.self.now.ready _ _ c.loop-k.invariant c.in-None.ensures.steps.0))

pub returns-then-is_of : goal.returns-then-is_of
unfolding any_of
returns-then-is_of c =
    let a = c.args in
    sym (ap not (pass-no a.self.now.ready _ _ c.loop-k.invariant c.in-Some.ensures.steps
    (is-here _ a.g a.kind a.name c.in-Some.k c.entry_at.ensures c.is_of.ensures c.if-is_of.true)))
