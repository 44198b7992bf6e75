-- Lists of entries: their numbers, their owners, what holds of each, and what unfolding does with one.
pub mod Entries
-- The descriptions of a dictionary in turn.
pub mod Dictionary
-- What an unfolded description means.
pub mod Meaning
-- How many entries an unfolded description has, and how deep they stand.
pub mod Measured
-- An unfolded description is legal.
pub mod Legality
-- Unfolding in passes.
pub mod InPasses
-- What is promised of unfolding, for what is accepted.
pub mod PromiseKept
-- Unfolding by examples.
pub mod UnfoldExamples
