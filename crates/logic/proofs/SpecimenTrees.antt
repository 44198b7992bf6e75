-- Specimens as trees, and the specimen of a comparison.

-- Names put into an ascending list, each once.
pub mod Names
-- Sums over a list of numbers.
pub mod Sums
-- Ascending names: those of a place, put into a list each once, ascend.
pub mod IncreasingNames
-- The items of a specimen's tree, by groups that are numbered from the root down.
pub mod TreeItems
-- The record of a specimen's tree: the top item fits there what the tree says.
pub mod TreeRecord
-- The specimen of a comparison: what its top item has, and how many items it is linked to.
pub mod WitnessTree
-- The specimen of a comparison keeps the background, and so does its record.
pub mod WitnessKeeps
-- Names and counts of a comparison's specimen: they are those of the normal form, of the path and of the entry that fails.
pub mod WitnessFields
-- A measure of a comparison's specimen.
pub mod WitnessMeasure
-- The size of a comparison's specimen: its entries are at most those of the normal form, those of the path and one.
pub mod WitnessSize
-- A comparison's specimen is no deeper than the normal form and the path of links.
pub mod WitnessLevels
-- The specimen of a comparison.
pub mod WitnessShows
