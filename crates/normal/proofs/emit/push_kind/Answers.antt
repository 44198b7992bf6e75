-- `push_kind` meets its contract: the rows of one tag after another.
use lib.ListN.{get_or}
use Rattle.normal.proofs.emit.PushLaws.{cells-end, kinds-more, kinds-none, kinds-room, pushing-done, pushing-more, pushing-room, within}
use Rattle.normal.specs.code.ClassRuns.{kind_cell}
use Rattle.normal.specs.code.Emitted.{cell_name, cell_value, kind_in, rows_if}
use Rattle.normal.proofs.emit.push_kind.Goals as goal

pub push_atom-k-requires : goal.push_atom-k-requires
push_atom-k-requires c =
    let l = c.loop-x in
    let a = c.args in
    let w = c.requires.0 in
    let b = c.loop-x-test.true in
    let k = kind_in a.kind in (
      w.slot l.x-index b,
      w.bound l.x-index b,
      w.name l.x-index b,
      within l.invariant.pushed.size (kinds-room k a.owner (kind_cell a.table.now k) a.tags.now l.x-index _ b (pushing-room l.invariant c.requires.1)),
    )

pub loop-x-preserved : goal.loop-x-preserved
loop-x-preserved c =
    let l = c.loop-x in
    let a = c.args in
    let k = kind_in a.kind in
    let x = kind_cell a.table.now k (get_or a.tags.now l.x-index 0) in
    pushing-more (rows_if k a.owner (cell_name x) (cell_value k x)) l.invariant (kinds-more k a.owner (kind_cell a.table.now k) a.tags.now l.x-index c.loop-x-test.true) c.push_atom-k.ensures

pub returns : goal.returns
returns c =
    let l = c.loop-x in
    let a = c.args in
    let k = kind_in a.kind in
    pushing-done l.invariant (kinds-none k a.owner (cells-end (kind_cell a.table.now k) a.tags.now l.x-index c.loop-x-test.false))
