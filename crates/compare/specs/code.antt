-- Mirrors of the code: the contracts of its functions cite these, and no promise does.

-- What a place is asked for, as names and numbers.
pub mod Asked
-- The places of a specimen as codes: a place of the first description's slots, and how far on the path to the entry that fails.
pub mod Codes
-- The names of one place and class in order, as tags.
pub mod Tags
-- What is known where an entry fails: two descriptions, the slots of the first, and room.
pub mod Prepared
-- A code of places, one for each.
pub mod PlaceCode
