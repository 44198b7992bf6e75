-- `push_every` meets its contract: the 'every' of one tag after another.
use mathlib.Core.Bool.{true}
use Rattle.normal.proofs.emit.PlacingLaws.{linking-done, linking-more, linking-room}
use Rattle.normal.proofs.emit.PushLaws.{cells-end, cells-more, less-now, within}
use Rattle.normal.specs.code.ClassRuns.{cell_at}
use Rattle.normal.specs.code.Emitted.{kept_by}
use Rattle.normal.proofs.emit.push_every.Goals as goal

pub push_link-k-requires : goal.push_link-k-requires
push_link-k-requires c =
    let l = c.loop-x in
    let a = c.args in
    let w = c.requires.0 in
    let b = c.loop-x-test.true in
    let p = l.invariant in
    let same = p.pushing.pushed.size in (
      w.slot l.x-index b,
      w.name l.x-index b,
      less-now same p.size c.requires.1,
      within same (linking-room (kept_by a.slots.now) a.owner _ _ p (cells-more (cell_at a.slots.now.table.now true) a.tags.now l.x-index b) c.requires.2),
    )

pub loop-x-preserved : goal.loop-x-preserved
loop-x-preserved c =
    let l = c.loop-x in
    let a = c.args in
    linking-more _ _ l.invariant (cells-more (cell_at a.slots.now.table.now true) a.tags.now l.x-index c.loop-x-test.true) c.push_link-k.ensures

pub returns : goal.returns
returns c =
    let l = c.loop-x in
    let a = c.args in
    linking-done l.invariant (cells-end (cell_at a.slots.now.table.now true) a.tags.now l.x-index c.loop-x-test.false)
