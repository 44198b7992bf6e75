-- `push_lacks` meets its contract: some are pushed, and the rest stand after the last.
use lib.ListN.{drop, length}
use Rattle.narrowest.proofs.lacks.NoteLaws.{Part}
use Rattle.narrowest.specs.code.Lacks.{apart, lack_numbers}
use Rattle.narrowest.proofs.lacks.push_lacks.Given as goal

abbrev pub invariant-loop-p : goal.invariant-loop-p
invariant-loop-p l =
    Part (length l.initial.rows) l.initial.rows l.count (lack_numbers l.owner (apart 65536 l.order)) l.rows l.k (lack_numbers l.owner (apart l.last (drop l.p-index l.order)))
