-- `note_lacks` meets its contract: before each turn, those of the entries before it are noted.
use lib.ListN.{length, take}
use Rattle.narrowest.specs.code.Lacks.{lacks_of}
use Rattle.narrowest.specs.code.Places.{place_in}
use Rattle.narrowest.specs.code.Pushes.{Counted}
use Rattle.std.specs.List.{flat_map}
use Rattle.unfolding.specs.code.Rows.{entry_of_row}
use Rattle.narrowest.proofs.lacks.note_lacks.Given as goal

abbrev pub invariant-loop-x : goal.invariant-loop-x
invariant-loop-x l =
    Counted (length l.initial.order) l.initial.order 0
    (flat_map (λ x. lacks_of l.exclusions.pairs.now (place_in l.sides.first) (place_in l.sides.second) (entry_of_row x)) (take l.x-index l.own)) l.order l.n
