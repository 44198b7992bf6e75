-- The cells of a place, and the place that is written from them.

-- What a place that is written from sorted cells lists: what its cells say of each name.
pub mod WrittenLists
-- Tests that each entry of a place has to pass, of a place that is written from cells: each cell has to pass them.
pub mod WrittenPasses
-- Which items fit a place that is written from cells, and when it is empty.
pub mod WrittenMeaning
-- The cells of one place: each name once, and the same in whatever order.
pub mod CellLaws
-- Which properties are excluded at a place that is written from cells: those that its slots exclude.
pub mod WrittenExcludes
-- The cells of slots under a background: where none is broken, all that they say tells something.
pub mod CellsTell
-- A place that is written from sorted cells, none of which is broken and all of which tell something, is normal.
pub mod WrittenNormal
-- The place that is written from the cells of a place, kind by kind, and its order.
pub mod CellsWritten
