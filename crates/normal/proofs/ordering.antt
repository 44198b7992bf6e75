-- Laws of the code in src/ordering.rt.

-- The tags of the slots of a table, each with its place.
pub mod TagLaws
-- The cells of a place, from its two runs, are those that its slots give.
pub mod ClassCells
-- A run's tags, gathered and sorted.
pub mod RunLaws
