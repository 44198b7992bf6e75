-- `chained_rows` meets its contract: the slots are built, put under the list, and settled.
use native.Mathlib.Omega.{arith}
use Rattle.pairs.specs.Pairs.{under}
use Rattle.passes.proofs.SlotLists.RestrictLaws.{under-early}
use Rattle.passes.proofs.SlotLists.SlotLaws.{slots-early}
use Rattle.slots.proofs.PassLaws.{blank-less, built-placed, settled-from}
use Rattle.slots.proofs.marking.MarkingLaws.{marked-same, marked-settled, unmarked-less}
use Rattle.slots.proofs.restrict.RestrictLaws.{built-restricted, key-stays, low-stays}
use Rattle.slots.proofs.rows.ListingLaws.{listing-told}
use Rattle.slots.proofs.states.BoundLaws.{settled-exact, settled-kept}
use Rattle.slots.proofs.rows.chained_rows.Goals as goal

pub build_rows-used-requires : goal.build_rows-used-requires
build_rows-used-requires g c = let a = c.requires in (omega (arith, a.1), (a.2, a.3.0))

pub mark_places-requires : goal.mark_places-requires
mark_places-requires g c =
    let built = c.build_rows-used.ensures in
    let t = listing-told c.args.listing.rows.now c.args.listing.legal in
    (built.kept.room, omega (arith, built.few, t.many, c.args.listing.few), built-placed (slots-early _) built, unmarked-less (omega (arith, built.few, t.many)) c.requires.4)

pub restrict_slots-requires : goal.restrict_slots-requires
restrict_slots-requires g c =
    let built = c.build_rows-used.ensures in
    let t = listing-told c.args.listing.rows.now c.args.listing.legal in
    (built.kept.room, omega (arith, built.few, t.many, c.args.listing.few), c.mark_places.ensures)

pub settle-requires : goal.settle-requires
settle-requires g c =
    let a = c.requires in
    let t = listing-told c.args.listing.rows.now c.args.listing.legal in
    let r = built-restricted c.restrict_slots.ensures c.build_rows-used.ensures in (
      r.kept.room,
      built-placed (under-early (under _) _) r,
      blank-less (omega (arith, r.few, t.many)) a.3.1,
      blank-less (omega (arith, r.few, t.many)) a.3.2,
    )

pub returns-clause-chained : goal.returns-clause-chained
returns-clause-chained g c =
    let t = listing-told c.args.listing.rows.now c.args.listing.legal in
    let r = built-restricted c.restrict_slots.ensures c.build_rows-used.ensures in
    let s = c.settle.ensures in
    record { settled' = settled-from r s (omega (arith, t.many, c.args.listing.few)); exact = settled-exact r.exact s; kept = settled-kept r.kept s }

pub returns-clause-marked : goal.returns-clause-marked
returns-clause-marked g c =
    let R = c.restrict_slots.ensures in
    marked-settled c.settle.ensures (marked-same _ _ c.build_rows-used.result (key-stays R) (low-stays R) c.mark_places.ensures)
