-- `push_place` meets its contract: the properties are pushed, then the links.
use mathlib.Core.Path.{refl}
use native.Mathlib.Omega.{arith}
use Rattle.normal.proofs.emit.ClassLaws.{place-joined, place-room}
use Rattle.normal.proofs.emit.PushLaws.{less-now, pushed-total}
use Rattle.normal.specs.code.Emitted.{cells_of, kept_by, property_rows}
use Rattle.normal.proofs.emit.push_place.Goals as goal

pub push_properties-k-requires : goal.push_properties-k-requires
push_properties-k-requires c =
    let s = c.args.slots.now in
    (c.requires.0, c.requires.1, (place-room (kept_by s) c.args.owner (cells_of s c.args.v) c.args.count c.requires.3).0)

pub push_links-requires : goal.push_links-requires
push_links-requires c =
    let s = c.args.slots.now in
    let p = c.push_properties-k in
    let q = cells_of s c.args.v in
    let r = (place-room (kept_by s) c.args.owner q c.args.count c.requires.3).1 in (
      c.requires.0,
      omega (arith, p.auto, c.requires.1),
      less-now p.ensures.size refl c.requires.2,
      omega (arith, p.ensures.size, pushed-total (property_rows c.args.owner q) p.ensures, r),
    )

pub returns : goal.returns
returns c =
    let s = c.args.slots.now in
    place-joined (kept_by s) c.args.owner (cells_of s c.args.v) c.push_properties-k.ensures c.push_links.ensures
