-- Blocks as bytes: words, rows, lengths and counts.

-- What a block format has to keep.
pub mod Lawful
-- Words and sums of bytes that stand in a list.
pub mod WordBytes
-- Bytes exchanged two by two are words exchanged.
pub mod WordsExchanged
-- Blocks and their parts: lengths, and where each part stands.
pub mod Blocks
-- Blocks one after the other: block i of the rows' encoding stands at byte 512 * i.
pub mod Sequence
-- How many blocks rows take, and how many rows each block uses.
pub mod Counts
-- Entries and their bytes, and the list of the entries of an input.
pub mod EntryBytes
-- The word sum of an entry, by its fields.
pub mod EntryWords
-- Number 1 of the table of refusals: whole blocks, at least one and at most the limit.
pub mod Lengths
-- Rows of one length, and the rows one after the other.
pub mod ByteRows
