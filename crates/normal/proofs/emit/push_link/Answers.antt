-- `push_link` meets its contract: a row and a note where the slot is kept, else neither.
use Rattle.std.proofs.Common.{ap, not}
use Prim.Native.Nat.{◌<◌}
use lib.ListN.{length}
use mathlib.Core.Bool.{true}
use mathlib.Core.Path.{◌∙◌}
use native.Mathlib.Omega.{arith}
use Rattle.base.proofs.Tests.{confirmed, refuted}
use Rattle.normal.proofs.emit.PlacingLaws.{link-none, link-one, link-room}
use Rattle.normal.specs.code.ClassRuns.{cell_at}
use Rattle.normal.specs.code.Emitted.{kept_by}
use Rattle.normal.proofs.emit.push_link.Goals.{Else-not-keeps}
use Rattle.normal.proofs.emit.push_link.Goals as goal

pub returns-then-not-keeps : goal.returns-then-not-keeps
returns-then-not-keeps c =
    let a = c.args in
    let s = a.slots.now in
    link-none (kept_by s) a.owner (cell_at s.table.now true a.x) (refuted c.keeps.ensures (ap not c.if-not-keeps.true))

-- where a row is pushed there is room for it
room : (c : Else-not-keeps) → c.args.count < length c.args.rows.now
room c =
    let s = c.args.slots.now in
    link-room (kept_by s) c.args.owner (cell_at s.table.now true c.args.x) _ (confirmed c.keeps.ensures (ap not c.if-not-keeps.false)) c.requires.3

pub bounds-rows-count : goal.bounds-rows-count
bounds-rows-count c = room (goal.at.bounds-rows-count c).Else-not-keeps

pub bounds-below-count : goal.bounds-below-count
bounds-below-count c = omega (arith, room (goal.at.bounds-below-count c).Else-not-keeps, c.requires.2)

pub returns : goal.returns
returns c =
    let a = c.args in
    let s = a.slots.now in
    link-one (kept_by s) a.owner (cell_at s.table.now true a.x)
    (confirmed c.keeps.ensures (ap not c.if-not-keeps.false)) (room (goal.at.returns c).Else-not-keeps)
    (c.pack_row.ensures ∙ rw c.tag_name.ensures) c.tag_slot.ensures.0
