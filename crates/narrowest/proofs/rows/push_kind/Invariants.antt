-- `push_kind` meets its contract: before each turn, what the entries before it give is pushed.
use lib.ListN.{length, take}
use Rattle.narrowest.specs.code.Forms.{kind_in}
use Rattle.narrowest.specs.code.Places.{place_in}
use Rattle.narrowest.specs.code.Pushes.{Counted, leaf_numbers, shared}
use Rattle.std.specs.List.{flat_map}
use Rattle.unfolding.specs.code.Rows.{entry_of_row}
use Rattle.narrowest.proofs.rows.push_kind.Given as goal

abbrev pub invariant-loop-x : goal.invariant-loop-x
invariant-loop-x l =
    Counted (length l.initial.rows) l.initial.rows l.count
    (flat_map (λ x. leaf_numbers l.owner (shared (kind_in l.kind) (place_in l.second) (entry_of_row x))) (take l.x-index l.own)) l.rows l.k
