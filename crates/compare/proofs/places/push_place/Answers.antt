-- `push_place` meets its contract: the properties are pushed, then the groups.
use lib.ListN.{length, take}
use mathlib.Core.List.{map}
use mathlib.Core.Path.{◌≡◌}
use Rattle.compare.proofs.places.PlaceLaws.{as-many, first-room, groups-run, place-done, properties-run, run-tagged, second-room}
use Rattle.compare.specs.code.Codes.{joints_by, properties_by}
use Rattle.compare.specs.code.Tags.{group_of, tag_name}
use Rattle.compare.proofs.places.push_place.Goals.{After-tag_links-g, After-tag_properties-n}
use Rattle.compare.proofs.places.push_place.Goals as goal

-- the properties of the place, and its groups
properties : (c : After-tag_properties-n)
    → let a = c.args in map tag_name (take c.tag_properties-n.result c.tag_properties-n.new.order) ≡ properties_by a.slots.now.table.now a.path.now.links a.path.now.depth a.path.now.entry a.code
properties c =
    let a = c.args in
    let p = a.path.now in
    properties-run a.slots.now.table.now p.links p.depth p.entry a.code c.asked_property-p.ensures.1 c.tag_properties-n.ensures.1

groups : (c : After-tag_links-g)
    → let a = c.args in map (group_of a.slots.now.table.now c.asked_items-l.result) (take c.tag_links-g.result c.tag_links-g.new.order)
    ≡ joints_by a.slots.now.table.now a.path.now.links a.path.now.depth a.path.now.entry a.code
groups c =
    let a = c.args in
    let p = a.path.now in
    let q = c.asked_items-l.ensures in
    groups-run a.slots.now.table.now p.links p.depth p.entry a.code c.asked_items-l.result q.1 q.2 q.3 c.tag_links-g.ensures.1

pub push_properties-k-requires : goal.push_properties-k-requires
push_properties-k-requires c =
    let a = c.args in
    let p = a.path.now in
    let tags = take c.tag_properties-n.result c.tag_properties-n.new.order in (
      (run-tagged a.slots.now.stood c.tag_properties-n.ensures.1).name,
      first-room a.slots.now.table.now p.links p.depth p.entry a.code a.owner a.count (length a.rows.now) (properties (goal.at.push_properties-k-requires c).After-tag_properties-n)
          (as-many tag_name tags) c.requires.3,
    )

pub push_groups-requires : goal.push_groups-requires
push_groups-requires c =
    let a = c.args in
    let p = a.path.now in
    let size = c.push_properties-k.ensures.size in
    let tags = take c.tag_links-g.result c.tag_links-g.new.order in (
      run-tagged a.slots.now.stood c.tag_links-g.ensures.1,
      rw size
          (second-room a.slots.now.table.now p.links p.depth p.entry a.code a.owner a.count (length a.rows.now) (properties (goal.at.push_groups-requires c).After-tag_properties-n)
          c.push_properties-k.ensures (groups (goal.at.push_groups-requires c).After-tag_links-g)
          (as-many (group_of a.slots.now.table.now c.asked_items-l.result) tags) c.requires.3),
      rw size c.requires.1,
    )

pub returns : goal.returns
returns c =
    let a = c.args in
    let p = a.path.now in
    place-done a.slots.now.table.now p.links p.depth p.entry a.code a.owner a.count (length a.rows.now) (properties (goal.at.returns c).After-tag_properties-n)
    c.push_properties-k.ensures (groups (goal.at.returns c).After-tag_links-g)
    c.push_properties-k.ensures.size c.push_groups.ensures
