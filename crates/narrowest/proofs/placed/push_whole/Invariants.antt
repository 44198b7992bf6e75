-- `push_whole` meets its contract: before each turn, the entries before it are pushed.
use lib.ListN.{length, take}
use Rattle.narrowest.specs.code.Codes.{whole_atoms}
use Rattle.narrowest.specs.code.Pushes.{Counted, leaf_numbers}
use Rattle.std.specs.List.{flat_map}
use Rattle.unfolding.specs.code.Rows.{entry_of_row}
use Rattle.narrowest.proofs.placed.push_whole.Given as goal

abbrev pub invariant-loop-x : goal.invariant-loop-x
invariant-loop-x l =
    Counted (length l.initial.rows) l.initial.rows l.count (flat_map (λ x. leaf_numbers l.owner (whole_atoms (entry_of_row x))) (take l.x-index l.own)) l.rows l.k
