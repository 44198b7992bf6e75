-- `gather_properties` meets its contract: the tags are gathered, and the one that is asked for is added.
use Prim.Native.Nat.{◌*◌}
use mathlib.Core.Bool.{false}
use mathlib.Core.List.{[], ◌∷◌}
use mathlib.Core.Path.{refl}
use native.Mathlib.Omega.{arith}
use Rattle.compare.proofs.places.RunMade.{gathered-room, gathered-with}
use Rattle.compare.proofs.places.RunWalks.{found-within, slot-found}
use Rattle.logic.proofs.TreeRows.FillLaws.{filled_none}
use Rattle.compare.proofs.settled.Slots.gather_properties.Goals as goal

pub add_tag-requires : goal.add_tag-requires
add_tag-requires c =
    let s = c.args.self.now in
    let g = c.gather_properties-n.ensures in (
      gathered-room s.stood s.chained c.args.v false {r = 2 * c.args.v} (omega arith) c.args.order.now c.requires.0 g.0 g.1,
      found-within s.stood s.chained c.args.v false {r = 2 * c.args.v} (omega arith) (rw c.in-Some.is at c.requires.1) c.property_slot-s.ensures,
    )

pub returns-in-None : goal.returns-in-None
returns-in-None c =
    let s = c.args.self.now in
    let g = c.gather_properties-n.ensures in
    rw c.in-None.is (gathered-with s.stood s.chained c.args.v false {r = 2 * c.args.v} (omega arith) c.args.order.now c.requires.0 g.0 g.1 [] (filled_none refl))

pub returns-in-Some : goal.returns-in-Some
returns-in-Some c =
    let s = c.args.self.now in
    let g = c.gather_properties-n.ensures in
    let x = c.in-Some.p.0 in
    let e = slot-found s.stood s.chained c.args.v false {r = 2 * c.args.v} (omega arith) (rw c.in-Some.is at c.requires.1) c.property_slot-s.ensures in
    rw c.in-Some.is (gathered-with s.stood s.chained c.args.v false {r = 2 * c.args.v} (omega arith) c.args.order.now c.requires.0 g.0 g.1 (x ∷ []) (rw e at c.add_tag.ensures))
