-- `chained_slots` meets its contract: the slots are built, put under the list, and settled.
use native.Mathlib.Omega.{arith}
use Rattle.pairs.specs.Pairs.{under}
use Rattle.passes.proofs.SlotLists.RestrictLaws.{under-early}
use Rattle.passes.proofs.SlotLists.SlotLaws.{slots-early}
use Rattle.slots.proofs.FailingLaws.{accepted-few}
use Rattle.slots.proofs.PassLaws.{blank-less, built-placed, settled-from}
use Rattle.slots.proofs.marking.MarkingLaws.{marked-same, marked-settled, unmarked-less}
use Rattle.slots.proofs.restrict.RestrictLaws.{built-restricted, key-stays, low-stays}
use Rattle.slots.proofs.states.BoundLaws.{settled-exact, settled-kept}
use Rattle.slots.proofs.filling.chained_slots.Goals as goal

pub build-used-requires : goal.build-used-requires
build-used-requires g c = let a = c.requires in (omega (arith, a.1), (accepted-few 1 _ c.args.d.read, a.2, a.3.0))

pub mark_places-requires : goal.mark_places-requires
mark_places-requires g c =
    let built = c.build-used.ensures in
    let few = accepted-few 1 _ c.args.d.read in
    (built.kept.room, omega (arith, built.few, few.0, few.1), built-placed (slots-early _) built, unmarked-less (omega (arith, built.few, few.0)) c.requires.4)

pub restrict_slots-requires : goal.restrict_slots-requires
restrict_slots-requires g c =
    let built = c.build-used.ensures in
    let few = accepted-few 1 _ c.args.d.read in
    (built.kept.room, omega (arith, built.few, few.0, few.1), c.mark_places.ensures)

pub settle-requires : goal.settle-requires
settle-requires g c =
    let a = c.requires in
    let few = accepted-few 1 _ c.args.d.read in
    let r = built-restricted c.restrict_slots.ensures c.build-used.ensures in (
      r.kept.room,
      built-placed (under-early (under _) _) r,
      blank-less (omega (arith, r.few, few.0)) a.3.1,
      blank-less (omega (arith, r.few, few.0)) a.3.2,
    )

pub returns-clause-chained : goal.returns-clause-chained
returns-clause-chained g c =
    let few = accepted-few 1 _ c.args.d.read in
    let r = built-restricted c.restrict_slots.ensures c.build-used.ensures in
    let s = c.settle.ensures in
    record { settled' = settled-from r s (omega (arith, few.0, few.1)); exact = settled-exact r.exact s; kept = settled-kept r.kept s }

pub returns-clause-marked : goal.returns-clause-marked
returns-clause-marked g c =
    let R = c.restrict_slots.ensures in
    marked-settled c.settle.ensures (marked-same _ _ c.build-used.result (key-stays R) (low-stays R) c.mark_places.ensures)
