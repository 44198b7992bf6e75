-- Laws of the code in src/walk.rt.

-- The walk over the rows that are written, with the slots that they lead to in a table.
pub mod PlaceWalk
