-- How many keys there is room for.
pub mod RoomLaws
-- Keys in the table, by their numbers.
pub mod HeldLaws
