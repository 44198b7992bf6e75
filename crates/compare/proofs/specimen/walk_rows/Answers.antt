use Prim.Native.Nat.{◌+◌, ◌≤◌, ℕ}
use lib.ListN.{length, length-replicate}
use mathlib.Core.Path.{ap, refl}
use native.Mathlib.Omega.{arith}
use Rattle.compare.proofs.specimen.SpecimenWalk.{Walk, walk-done, walk-room, walk_start, walk_step, walk_top}
use Rattle.compare.proofs.specimen.walk_rows.Goals.{At-loop-i, In-loop-i}
use Rattle.compare.proofs.specimen.walk_rows.Goals as goal

pub push_place-count-requires : goal.push_place-count-requires
push_place-count-requires c =
    let t = walk_top c.requires.0 in
    (c.requires.1, omega (arith, ap length c.requires.2, length-replicate {A = ℕ} (length c.args.rows.now + 1) 0), t.0, t.1)

pub loop-i-init : goal.loop-i-init
loop-i-init c =
    (rw c.push_place-count.ensures.pushed.size (walk_start c.requires.0 c.requires.2 c.push_place-count.ensures), refl)

-- the walk, in a table of that size
walked : (l : At-loop-i)
    → let a = l.args in Walk a.slots.now.table.now a.path.now.links a.path.now.depth a.path.now.entry (length a.rows.now) l.loop-i.i l.loop-i.rows l.loop-i.count l.loop-i.below
walked l = rw l.push_place-count.ensures.pushed.size at l.loop-i.invariant.0

pub push_below-count-requires : goal.push_below-count-requires
push_below-count-requires c =
    let t = c.loop-i-test.true in
    let w = walked (goal.at.push_below-count-requires c).At-loop-i in (
      omega (arith, c.requires.1, c.loop-i.invariant.1, c.push_place-count.auto),
      omega (arith, w.size, w.width),
      omega (arith, t, w.size, w.few),
      omega (arith, w.size, c.requires.0.fits),
      rw w.size (walk-room c.requires.0 w t),
    )

walked' : (l : In-loop-i)
    → let a = l.args in Walk a.slots.now.table.now a.path.now.links a.path.now.depth a.path.now.entry (length a.rows.now) l.loop-i.i l.loop-i.rows l.loop-i.count l.loop-i.below
walked' l = rw l.push_place-count.ensures.pushed.size at l.loop-i.invariant.0

-- a row that is looked at is one of the table
few : (c : In-loop-i) → c.loop-i.i ≤ 2016
few c = omega (arith, c.loop-i-test.true, (walked' c).few, c.requires.0.fits)

pub loop-i-preserved : goal.loop-i-preserved
loop-i-preserved c =
    let w = walked (goal.at.loop-i-preserved c).At-loop-i in
    let e = c.push_place-count.ensures.pushed.size in
    (rw e (walk_step c.requires.0 w c.loop-i-test.true (rw w.size at c.push_below-count.ensures)), omega (arith, c.push_below-count.auto, c.loop-i.invariant.1))

pub returns : goal.returns
returns c =
    let w = walked (goal.at.returns c).At-loop-i in
    (omega (arith, w.few, w.size), walk-done c.requires.0 w c.loop-i-test.false)
