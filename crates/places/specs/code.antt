-- Mirrors of the code: the contracts of its functions cite these, and no promise does.

-- The tables of the places of a description.
pub mod Chained
