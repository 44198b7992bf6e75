-- The tables of the places of a description, filled from the last entry to the first.
pub mod PlaceLaws
-- What an accepted description has, and which tables it has room in.
pub mod ReadLaws
