-- Numbers of two bytes, and the two sums that check a block.
pub mod Words
-- The frame of a block: where its entries stand, and which numbers of the table of refusals refuse it.
pub mod Frame
-- Entries: their bytes, and the table of kinds.
pub mod Entries
-- Owners and depths of the entries of a list.
pub mod Owners
-- Number 9 of the table of refusals: groups by a link that leads to one item only.
pub mod Single
-- Why an input is refused: the numbers of the table of refusals, what a refusal is, and its words.
pub mod Refusals
-- The table of refusals: one predicate for each number, listed in the order in which they are looked for.
pub mod Faults
-- What reading an input answers.
pub mod Reading
-- Entries as blocks.
pub mod Encoding
-- Two entries of one block exchanged.
pub mod Exchange
-- Mirrors of the code: the contracts of its functions cite these, and no promise does.
pub mod code
-- What the promises of the block layer speak of: the first fault that applies, and lists of entries that no rule refuses.
pub mod Promise
