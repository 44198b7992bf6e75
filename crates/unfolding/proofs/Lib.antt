-- A table that has the same value at every place.
pub mod Alike
-- Laws of entries as numbers in a lent table.
pub mod RowLaws
-- Rules, sizes and levels, worked out in one pass over the entries.
pub mod Measuring
-- What is kept of descriptions: nothing at first, with one description more, and what it says of a description that is read.
pub mod KnownLaws
-- The descriptions of a dictionary, read in turn: how far reading has come, one description more, and the end.
pub mod DictionaryRead
-- Laws of going over entries whose names are replaced, one for each way through it.
pub mod ReplaceLaws
-- What the calls write, and what they answer.
pub mod CallLaws
-- Laws of unfolding: descriptions found in the bytes, and what they stand for.
pub mod PassLaws
-- What stands in a buffer of 16 blocks that a description was unfolded to.
pub mod BufferLaws
-- Descriptions that are opened: what their entries are there, and what they give.
pub mod OpenLaws
