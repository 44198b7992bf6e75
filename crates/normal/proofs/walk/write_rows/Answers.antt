use Prim.Native.Nat.{◌+◌, ◌≤◌, ℕ}
use lib.ListN.{get_or, length, length-replicate}
use mathlib.Core.Path.{ap, refl}
use native.Mathlib.Omega.{arith}
use Rattle.base.proofs.Tests.{eq-cases}
use Rattle.normal.proofs.walk.PlaceWalk.{Walk, walk-done, walk-passed, walk-placed, walk-room, walk-small, walk_start, walk_top}
use Rattle.normal.proofs.walk.write_rows.Goals.{At-loop-k, In-loop-k}
use Rattle.normal.proofs.walk.write_rows.Goals as goal

pub push_place-count-requires : goal.push_place-count-requires
push_place-count-requires c =
    let R = c.args.slots.now.runnable in
    let long = ap length c.requires.2 in
    (omega (arith, R.some'), c.requires.0, omega (arith, long, length-replicate {A = ℕ} (length c.args.rows.now + 1) 0), walk_top R c.requires.3 c.requires.4)

pub loop-k-init : goal.loop-k-init
loop-k-init c =
    let e = c.push_place-count.ensures in
    (rw e.pushed.size (walk_start c.args.slots.now.runnable c.requires.3 c.requires.4 c.requires.2 e), refl)

-- the walk, in a table of that size
walked : (l : At-loop-k) → Walk l.args.slots.now.table.now (length l.args.rows.now) l.loop-k.k l.loop-k.rows l.loop-k.count l.loop-k.below
walked l = rw l.push_place-count.ensures.pushed.size at l.loop-k.invariant.0

pub push_below-count-requires : goal.push_below-count-requires
push_below-count-requires c =
    let t = c.loop-k-test.true in
    let s = c.args.slots.now in
    let w = walked (goal.at.push_below-count-requires c).At-loop-k in (
      omega (arith, c.requires.0, c.loop-k.invariant.1, c.push_place-count.auto),
      omega (arith, w.size, w.width),
      omega (arith, t, w.width, w.few),
      omega (arith, t, w.few, c.requires.1),
      walk-small s.runnable c.requires.3 c.requires.4 w,
      λ z. rw w.size (walk-room s.runnable c.requires.3 c.requires.4 w t z),
    )

walked' : (l : In-loop-k) → Walk l.args.slots.now.table.now (length l.args.rows.now) l.loop-k.k l.loop-k.rows l.loop-k.count l.loop-k.below
walked' l = rw l.push_place-count.ensures.pushed.size at l.loop-k.invariant.0

-- a row that is looked at is one of the table
few : (c : In-loop-k) → c.loop-k.k ≤ 1008
few c = omega (arith, c.loop-k-test.true, (walked' c).few, c.requires.1)

pub loop-k-preserved : goal.loop-k-preserved
loop-k-preserved c =
    let w = walked (goal.at.loop-k-preserved c).At-loop-k in
    let s = c.args.slots.now in
    let t = c.loop-k-test.true in
    let e = c.push_below-count.ensures in (
      rw c.push_place-count.ensures.pushed.size
          (eq-cases (get_or c.loop-k.below c.loop-k.k 0) 0
          (λ z. rw ((e.passed z).0, (e.passed z).1, (e.passed z).2) (walk-passed s.runnable c.requires.3 c.requires.4 w t z))
          (λ z. let p = e.placed z in walk-placed s.runnable c.requires.3 c.requires.4 w t z (rw w.size at p))),
      omega (arith, c.push_below-count.auto, c.loop-k.invariant.1),
    )

pub returns : goal.returns
returns c = walk-done c.args.slots.now.runnable c.requires.3 c.requires.4 (walked (goal.at.returns c).At-loop-k) c.loop-k-test.false
