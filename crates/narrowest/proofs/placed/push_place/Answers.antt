-- `push_place` meets its contract: the atoms, and then the 'every' entries. There is room for the lacks that are noted.
use native.Mathlib.Omega.{arith}
use Rattle.narrowest.proofs.lacks.FewLaws.{lacks-few}
use Rattle.narrowest.proofs.placed.PlacedLaws.{placed-both}
use Rattle.narrowest.specs.code.Codes.{atoms_in, knots, links_in}
use Rattle.narrowest.specs.code.Forms.{entries_in}
use Rattle.narrowest.specs.code.Places.{place_in}
use Rattle.narrowest.proofs.placed.push_place.Goals as goal

pub push_atoms-k-requires : goal.push_atoms-k-requires
push_atoms-k-requires c =
    let a = c.args in
    let p = a.pair.sides in
    let few = lacks-few a.exclusions.pairs.now (place_in p.first) (place_in p.second) p.first.owner p.first.form.held (omega (arith, a.exclusions.indexed.few)) in
    (c.requires.0, omega (arith, few, c.requires.2), c.own-own.ensures.0)

pub returns : goal.returns
unfolding knots links_in
returns c =
    let a = c.args in
    let p = a.pair.sides in
    placed-both a.owner
    (atoms_in a.exclusions.pairs.now (entries_in p.first.form.rows.now) (entries_in p.second.form.rows.now) p.first.owner p.second.owner)
    (knots (entries_in p.first.form.rows.now) (entries_in p.second.form.rows.now) a.pair.mates.now p.first.owner p.second.owner)
    c.push_atoms-k.ensures (rw c.own-own.ensures.0 at c.push_links.ensures)
