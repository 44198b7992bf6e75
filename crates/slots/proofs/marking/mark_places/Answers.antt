use Rattle.std.proofs.Common.{◌∙◌, ◌-◌, sym, refl, arith}
use Rattle.base.proofs.Tests.{eqb-eq, eqb-ne}
use Rattle.slots.proofs.marking.MarkingLaws.{marked-empty, marked-more, marked-start}
use Rattle.slots.specs.code.Tables.{slots_from, slots_in}
use Rattle.slots.proofs.marking.mark_places.Goals as goal

pub returns-then-is_empty : goal.returns-then-is_empty
returns-then-is_empty c = marked-empty _ (eqb-eq (sym c.is_empty.ensures ∙ c.if-is_empty.true)) c.requires.3

pub loop-s-init : goal.loop-s-init
unfolding slots_from
loop-s-init c = record { within = omega arith; size = refl; marked = marked-start c.requires.3 }

pub mark_slot-requires : goal.mark_slot-requires
mark_slot-requires c =
    let l = c.loop-s in
    let some = c.requires.3.room (eqb-ne (sym c.is_empty.ensures ∙ c.if-is_empty.false)) in
    let early = c.requires.2.lower l.s (omega arith) (omega (arith, c.loop-s-test.true)) in
    omega (arith, early, some, l.invariant.size, c.loop-s-test.true)

pub loop-s-preserved : goal.loop-s-preserved
loop-s-preserved c =
    let l = c.loop-s in
    let i = l.invariant in
    record {
      within = omega (arith, c.loop-s-test.true);
      size = omega (arith, c.mark_slot.auto, i.size);
      marked = marked-more c.args.table.now l.s (omega arith) (c.mark_slot.ensures (slots_in c.args.table.now (l.s - 1)) i.marked);
    }
