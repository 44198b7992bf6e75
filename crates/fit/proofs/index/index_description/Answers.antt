use Prim.Native.Nat.{◌+◌, ◌<◌, ℕ}
use lib.ListN.{length, length-replicate}
use mathlib.Core.Bool.{Bool, false}
use mathlib.Core.Path.{◌∙◌, ◌≡◌, ap, refl}
use native.Mathlib.Omega.{arith}
use Rattle.blocks.specs.Entries.{entries_of}
use Rattle.blocks.specs.Owners.{owner_of}
use Rattle.fit.proofs.bare.MarkLaws.{marks-next, marks-start}
use Rattle.blocks.proofs.Refusing.PassLaws.{Now, ended, turned}
use Rattle.fit.proofs.entries.PassLaws.{begun-all, owner-here}
use Rattle.fit.proofs.index.BucketWalk.{index-more, index-starts}
use Rattle.fit.specs.code.Bare.{demands}
use Rattle.fit.proofs.index.index_description.Goals.{After-from}
use Rattle.fit.proofs.index.index_description.Goals as goal

pub loop-before-init : goal.loop-before-init
loop-before-init c =
    let r = c.requires in
    let n = c.enumerate-before-items.ensures in
    let o = begun-all r.0 r.1 r.2 r.4 c.entries_in_order.ensures.items n.source n.count c.into_iter-before-iterator.ensures.into_iter_gives in
    record { goes = (tt, tt, o.1); ends = tt; over = o.0; index = index-starts _ _ (omega (arith, r.1)) r.2 r.5; marks = marks-start demands _ r.6 }

-- the turn: which entry it has, and that its owner stands before it
here : (c : After-from) → Now c.args.d.now c.args.total c.loop-before.yielded c.in-Some.before c.in-Some.bytes
    × (owner_of (entries_of c.args.d.now) (c.in-Some.before + 1) ≡ c.from.result) × (c.from.result < c.args.most)
here c =
    let h = turned c.loop-before.invariant.over _ _ c.loop-before.yielded_by c.next.new.self c.in-Some.is c.next.ensures.steps in
    let o = owner-here h c.requires.3 c.requires.0 c.requires.1 c.from-e.ensures c.from.ensures in
    (h, o.0, o.1)

pub put-requires : goal.put-requires
put-requires c =
    let h = here (goal.at.put-requires c).After-from in
    (c.requires.2, c.loop-before.invariant.index.size, omega (arith, h.0.before, c.requires.1), h.2)

pub mark_demand-requires : goal.mark_demand-requires
mark_demand-requires c =
    let h = here (goal.at.mark_demand-requires c).After-from in
    omega (arith, h.2, c.from.ensures, c.loop-before.invariant.marks.size)

pub loop-before-preserved : goal.loop-before-preserved
loop-before-preserved c =
    let h = here (goal.at.loop-before-preserved c).After-from in
    let i = c.loop-before.invariant in
    let below : c.in-Some.before + 1 < c.args.most = omega (arith, h.0.before, c.requires.1) in
    let owner : c.from-e.result.owner < c.args.most = omega (arith, h.2, c.from.ensures) in
    record {
      goes = c.in-Some.ensures.goes.keeps;
      ends = tt;
      over = i.over;
      index = rw h.0.more (index-more (rw (← h.0.same) at i.index) (omega arith) below (λ k z. refl) h.1 h.2 c.put.ensures);
      marks = rw h.0.more (marks-next demands _ (rw (← h.0.same) at i.marks) (c.from-e.ensures ∙ h.0.entry) owner c.mark_demand.ensures);
    }

pub shape_of-index : goal.shape_of-index
shape_of-index c =
    omega (arith, c.loop-before.invariant.index.size, ap length c.requires.5, length-replicate {A = ℕ} (c.args.most + c.args.most) 0)

pub shape_of-marks : goal.shape_of-marks
shape_of-marks c =
    omega (arith, c.loop-before.invariant.marks.size, ap length c.requires.6, length-replicate {A = Bool} c.args.most false)

pub returns : goal.returns
returns c =
    let l = c.loop-before in
    let n = ended l.invariant.over _ _ l.yielded_by c.next.new.self c.in-None.is c.next.ensures.steps in
    let e = n ∙ c.requires.0 in
    (record { whole = rw c.requires.0 at c.requires.4; index = rw e at l.invariant.index }, rw e at l.invariant.marks)
