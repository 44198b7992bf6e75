-- `store_place` meets its contract: the rows of what is left of the place, stored behind those that are there, are
-- those of the whole. It calls
-- itself for later entries.
use Rattle.std.proofs.Common.{◌≡◌, ◌+◌, ◌-◌, ◌≤◌, length}
use Rattle.base.specs.Stores.{stored}
use Rattle.blocks.specs.Entries.{entries_of}
use Rattle.logic.specs.Size.{nodes}
use Rattle.stored.proofs.WalkLaws.{Next, left_from, packed_left}
use Rattle.stored.specs.code.Steps.{packed_walk}
use Rattle.stored.proofs.storing.+store_place.Given as goal

abbrev pub decreases-store_place : goal.decreases-store_place
decreases-store_place l = length (entries_of l.places.now.bytes.now) - l.o

abbrev pub invariant-loop-next : goal.invariant-loop-next
invariant-loop-next l =
    let es = entries_of l.places.bytes.now in record {
      own : Next es l.o l.next;
      room : l.end + length (packed_left l.depth (left_from es l.o l.next)) ≤ length l.rows;
      ends : l.end + length (packed_left l.depth (left_from es l.o l.next)) ≡ l.at + length (packed_walk es l.o l.depth);
      rows : stored l.rows l.end (packed_left l.depth (left_from es l.o l.next)) ≡ stored l.fn.rows l.at (packed_walk es l.o l.depth);
    }

abbrev pub decreases-loop-next : goal.decreases-loop-next
decreases-loop-next l = nodes (left_from (entries_of l.places.bytes.now) l.o l.next)
