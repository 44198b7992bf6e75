-- `push_joined_atoms` meets its contract: kind by kind.
use mathlib.Core.List.{map}
use Rattle.logic.specs.Place.{has, least, most}
use Rattle.narrowest.proofs.placed.PlacedLaws.{kinds-pushed}
use Rattle.narrowest.specs.code.Codes.{joined_atoms, lack_atom, lacks_in}
use Rattle.narrowest.specs.code.Forms.{entries_in, owned_by}
use Rattle.narrowest.specs.code.Places.{place_in}
use Rattle.narrowest.specs.code.Pushes.{shared}
use Rattle.std.specs.List.{flat_map}
use Rattle.narrowest.proofs.placed.push_joined_atoms.Goals as goal

pub returns : goal.returns
unfolding joined_atoms lacks_in
returns c =
    let a = c.args in
    let p = a.pair.sides in
    let e = c.requires.2 in
    let u = place_in p.second in
    let es = owned_by p.first.owner (entries_in p.first.form.rows.now) in
    kinds-pushed a.owner (flat_map (shared has u) es)
    (map lack_atom (lacks_in a.exclusions.pairs.now (entries_in p.first.form.rows.now) (entries_in p.second.form.rows.now) p.first.owner p.second.owner))
    (flat_map (shared least u) es) (flat_map (shared most u) es)
    (rw e at c.push_kind-h.ensures) (rw e at c.push_lacked-k.ensures) (rw e at c.push_kind-a.ensures) (rw e at c.push_kind.ensures)
