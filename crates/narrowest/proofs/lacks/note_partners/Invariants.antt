-- `note_partners` meets its contract: some properties are done, and the rest are left.
use lib.ListN.{length}
use Rattle.narrowest.proofs.lacks.NoteLaws.{Part}
use Rattle.narrowest.specs.code.Lacks.{lack_if}
use Rattle.narrowest.specs.code.Places.{place_in}
use Rattle.pairs.specs.code.Index.{named_count, partners}
use Rattle.std.specs.List.{flat_map}
use Rattle.std.specs.Prelude.{unwrap_or}
use Rattle.narrowest.proofs.lacks.note_partners.Given as goal

abbrev pub invariant-loop-p : goal.invariant-loop-p
invariant-loop-p l =
    Part (length l.initial.order) l.initial.order l.n
    (flat_map (lack_if l.exclusions.pairs.now (place_in l.sides.first) (place_in l.sides.second)) (partners l.exclusions.pairs.now l.fn.q.0 (named_count l.exclusions.pairs.now)))
    l.order l.k
    (flat_map (lack_if l.exclusions.pairs.now (place_in l.sides.first) (place_in l.sides.second)) (partners l.rest.all.pairs.now l.rest.of.0 (unwrap_or l.rest.next 0)))

abbrev pub decreases-loop-p : goal.decreases-loop-p
decreases-loop-p l = length (partners l.rest.all.pairs.now l.rest.of.0 (unwrap_or l.rest.next 0))
