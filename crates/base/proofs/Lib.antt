-- Truth values as equations: laws of && and ||, case splits that keep their equation, and tests on numbers.
pub mod Tests
-- Lists by their elements: a list that stands in another from an index on, and the list of a function's values.
pub mod Lists
-- A number as full rows of r and a rest, and products that stay in order.
pub mod Split
-- A list split at the index of a loop: one element more in front, one less behind.
pub mod Fronts
-- The two parts of a slice that meet at h.
pub mod Parts
-- The element at an index of a list is a member of it.
pub mod Elements
-- Further laws of tests, and case splits on a value that may be missing.
pub mod Missing
-- Laws of ranges, for a loop that counts i up to e, and what a test over a range means.
pub mod RangeLaws
-- Laws of sums over a range.
pub mod Sums
-- What exchanging two runs of terms does to a sum, and to a sum with weights.
pub mod Exchanges
-- Sums modulo 65,536: which multiples of a difference leave them the same.
pub mod Multiples
-- The first number that fails a test: the least one, and 0 exactly where none fails.
pub mod SearchLaws
-- Laws of stores in a row.
pub mod StoresLaws
-- Rows of a table: stored in turn, and what stands in a cell.
pub mod RowsLaws
-- Sorting a list, and why it does not matter how.
pub mod AscendingLaws
-- The laws of chains.
pub mod ChainLaws
-- The laws of ways.
pub mod WayLaws
-- Lists of keys by their numbers.
pub mod KeyLaws
