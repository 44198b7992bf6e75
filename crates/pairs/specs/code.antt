-- Mirrors of the code: the contracts of its functions cite these, and no promise does.

-- The test that the search for a wrong pair makes, and what a search answers.
pub mod Search
-- The properties that a list names by number, and the index by which they are found.
pub mod Index
-- Pairs as bits.
pub mod Sides
