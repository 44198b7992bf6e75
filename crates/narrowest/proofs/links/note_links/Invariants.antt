-- `note_links` meets its contract: before each turn, those of the entries before it are noted.
use lib.ListN.{length, take}
use Rattle.narrowest.specs.code.Codes.{links_of}
use Rattle.narrowest.specs.code.Forms.{entries_in}
use Rattle.narrowest.specs.code.Pushes.{Counted}
use Rattle.std.specs.List.{flat_map}
use Rattle.unfolding.specs.code.Rows.{entry_of_row}
use Rattle.narrowest.proofs.links.note_links.Given as goal

abbrev pub invariant-loop-x : goal.invariant-loop-x
invariant-loop-x l =
    Counted (length l.initial.order) l.initial.order 0
    (flat_map (λ x. links_of (entries_in l.pair.sides.first.form.rows.now) (entries_in l.pair.sides.second.form.rows.now) l.pair.mates.now l.pair.sides.first.owner
    l.pair.sides.second.owner (entry_of_row x)) (take l.x-index l.own)) l.order l.n
