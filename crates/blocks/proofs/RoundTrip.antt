-- Reading undoes writing, and accepts exactly what is right.

-- Decoding undoes encoding: the blocks, the count and the rows of an encoding, and its entries.
pub mod Decoding
-- Inputs that break none of numbers 1 to 3 of the table of refusals.
pub mod Unbroken
-- An input that breaks none of numbers 1 to 3 of the table of refusals is the encoding of its rows.
pub mod Faithful
-- What reading means.
pub mod Accepting
-- What reading by number gives: the entries of an accepted input, and of a refused one the zero entry at every number.
pub mod ByNumber
-- The worked example of the section on blocks.
pub mod EmptyBlock
-- An encoding breaks none of numbers 1 to 3 of the table of refusals.
pub mod EncodedBlocks
-- The numbers that reading refuses with are 1 to 6, and 9 for a specimen, of the input that was read: 7 is left for an output that is
-- too short.
pub mod RefusalNumbers
-- Two used entries of one block of an accepted input exchanged: refused as 2, exactly when.
pub mod Exchanging
-- The shorter stored form: its blocks are the encoding of their rows, an encoding breaks none of 1 to 3, and two entries exchanged.
pub mod StoredBlocks
