-- What each pass hands to the next, and what all of them give.
pub mod PassLaws
-- What the states of a description's places mean.
pub mod HoldingLaws
-- The ways to the first entry that a normal form does not hold: refused, no room, none fails, or one does.
pub mod FailingLaws
-- The slot of a place, class and name in a table of slots of which no two have one key.
pub mod TableSearch
-- The places of settled slots that stand in a table list what the slots say.
pub mod PlacesInTable
-- The next entry of a pass: its owner was passed before.
pub mod NextEntry
-- What is known of tables as they are lent is known of them as their owner finds them.
pub mod LentAgain
-- A list that is cut: how many services it has, and that these are few.
pub mod CutLaws
-- The table of containment: services cut out and read in turn, a row, rows in turn, and what stands in a cell.
pub mod ContainmentLaws
