-- Laws of the code in src/answer.rt.

-- The normal form that stands in a table.
pub mod FormedLaws
-- The result, by which forms nothing fits.
pub mod ResultLaws
-- The answer by the ways to it.
pub mod WayLaws
