-- Finite records: counting, paths of links, and what records keep.

-- Counting and testing the numbers below a size, and the elements of a list.
pub mod Counting
-- Passing along a path of links.
pub mod Along
-- What every record keeps is lawful.
pub mod Kept
