use Prim.Native.Nat.{◌+◌, ◌<◌, ℕ}
use lib.ListN.{length, length-replicate}
use mathlib.Core.Path.{◌∙◌, ap, refl, sym}
use native.Mathlib.Omega.{arith}
use Rattle.blocks.specs.Entries.{entries_of}
use Rattle.blocks.proofs.Refusing.PassLaws.{ended, turned}
use Rattle.fit.proofs.entries.PassLaws.{begun-all}
use Rattle.fit.proofs.index.BucketLaws.{bucket-specimen}
use Rattle.fit.proofs.index.BucketWalk.{index-more, index-starts}
use Rattle.fit.proofs.index.index_specimen.Goals as goal

pub loop-before-init : goal.loop-before-init
loop-before-init c =
    let r = c.requires in
    let n = c.enumerate-before-items.ensures in
    let o = begun-all r.0 r.1 r.2 r.4 c.entries_in_order.ensures.items n.source n.count c.into_iter-before-iterator.ensures.into_iter_gives in
    record { goes = (tt, tt, o.1); ends = tt; over = o.0; index = index-starts _ _ (omega (arith, r.1)) r.2 r.6 }

pub bounds-marks-n : goal.bounds-marks-n
bounds-marks-n c =
    let h = turned c.loop-before.invariant.over _ _ c.loop-before.yielded_by c.next.new.self c.in-Some.is c.next.ensures.steps in
    omega (arith, h.before, c.requires.1, c.requires.5.size)

pub put-requires : goal.put-requires
put-requires c =
    let h = turned c.loop-before.invariant.over _ _ c.loop-before.yielded_by c.next.new.self c.in-Some.is c.next.ensures.steps in
    (c.requires.2, c.loop-before.invariant.index.size, omega (arith, h.before, c.requires.1), c.hash.ensures.1)

pub loop-before-preserved : goal.loop-before-preserved
loop-before-preserved c =
    let i = c.loop-before.invariant in
    let h = turned i.over _ _ c.loop-before.yielded_by c.next.new.self c.in-Some.is c.next.ensures.steps in
    let below : c.in-Some.before + 1 < c.args.most = omega (arith, h.before, c.requires.1) in
    let is = bucket-specimen (entries_of c.args.s.now) (c.in-Some.before + 1) c.requires.5 c.requires.0 below
    (c.from-e.ensures ∙ h.entry) refl c.from.ensures c.code.ensures c.hash.ensures.0 in
    record {
      goes = c.in-Some.ensures.goes.keeps;
      ends = tt;
      over = i.over;
      index = rw h.more (index-more (rw (← h.same) at i.index) (omega arith) below (λ k z. refl) (sym is) c.hash.ensures.1 c.put.ensures);
    }

pub shape_of-index : goal.shape_of-index
shape_of-index c =
    omega (arith, c.loop-before.invariant.index.size, ap length c.requires.6, length-replicate {A = ℕ} (c.args.most + c.args.most) 0)

pub returns : goal.returns
returns c =
    let l = c.loop-before in
    let n = ended l.invariant.over _ _ l.yielded_by c.next.new.self c.in-None.is c.next.ensures.steps in
    record { whole = rw c.requires.0 at c.requires.4; index = rw (n ∙ c.requires.0) at l.invariant.index }
