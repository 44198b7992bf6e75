-- `push_knots` meets its contract: some are pushed, and the rest stand after the last.
use lib.ListN.{drop, length}
use mathlib.Core.List.{map}
use Rattle.narrowest.proofs.links.KnotLaws.{KnotPart}
use Rattle.narrowest.specs.code.Codes.{knot}
use Rattle.narrowest.specs.code.Forms.{entries_in}
use Rattle.narrowest.specs.code.Lacks.{apart}
use Rattle.narrowest.proofs.links.push_knots.Given as goal

abbrev pub invariant-loop-l : goal.invariant-loop-l
invariant-loop-l l =
    let p = l.pair in
    let f = knot (entries_in p.sides.first.form.rows.now) (entries_in p.sides.second.form.rows.now) p.mates.now p.sides.first.owner p.sides.second.owner in
    KnotPart (length l.initial.rows) l.initial.rows l.count l.owner (map f (apart 65536 l.order)) l.initial.below l.rows l.k l.below (map f (apart l.last (drop l.l-index l.order)))
