-- Entries of the stored form: their bytes, those of an input, and as numbers.
pub mod Stored
-- Trees in walking order, each entry with its depth.
pub mod Walked
-- A stored input: the lines by which it is refused, and the owners of its entries.
pub mod Walking
-- The answers of the two calls, and the outputs that they leave.
pub mod Answer
-- What the promises of the two calls speak of.
pub mod Promise
-- Mirrors of the code: the contracts of its functions cite these, and no promise does.
pub mod code
