-- The narrowest of two descriptions contains each, and every description that contains both contains it.
pub mod Joining
-- The narrowest as it is written, kind by kind, along the entries of the first place.
pub mod Writing
-- Entries left out of a description one by one, and those that earn a yes.
pub mod Keeping
-- Which entries of a second description fail, and which are to be added to the first.
pub mod Missing
-- What one entry says by itself: where no two entries clash, that and what every record keeps is all.
pub mod Telling
-- Field sheets: the narrowest of two, and a line more in the list of faults.
pub mod Sheets
