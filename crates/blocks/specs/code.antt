-- Mirrors of the code: the contracts of its functions cite these, and no promise does.

-- The steps of the passes over blocks and entries, as the code takes them.
pub mod ReadingSteps
-- Passes over entries: which are left, and where one that goes block by block stands.
pub mod Blockwise
-- A table of the entries met that count, found by owner and name.
pub mod EntryTable
-- The keys of the groups met by links that lead to one item only.
pub mod SingleTable
-- The steps of the pass that looks for number 9, as the code takes them.
pub mod SingleSteps
-- The words of pairs of bytes, as the code that checks a block takes them.
pub mod WordPairs
