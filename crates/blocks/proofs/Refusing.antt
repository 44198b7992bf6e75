-- Blocks and entries one by one: the first fault, levels, and legal lists.

-- Laws of entries read by number.
pub mod EntryLaws
-- Passes over entries that go block by block: each entry of a block is that of the list.
pub mod Blockwise
-- Passes over the entries of an input in order.
pub mod InOrder
-- The same by number: how a pass begins, which entry a turn has, and how it ends.
pub mod PassLaws
-- The first fault of a list: what finding it means, and how a search goes on.
pub mod FirstFault
-- Laws of the rows that blocks break.
pub mod BlockLaws
-- Owners, depths, and the table of levels that stands in for them.
pub mod LevelLaws
-- Lists of lines of the table of refusals.
pub mod RowLaws
-- A line of the table at many places: the first that applies is that of the lowest place.
pub mod SearchedRows
-- Lists of entries that break none of numbers 4 to 6 of the table of refusals, nor a further line of their schema.
pub mod Legal
-- Groups by links that lead to one item only: which entries break number 9.
pub mod SingleLaws
-- The table of the entries met that count: how it grows, and a walk along a chain.
pub mod EntryTable
-- The keys of the groups met, by which number 9 is looked for.
pub mod SingleTable
-- The search for number 9 begins at the first group by a link that leads to one item only.
pub mod SingleSearch
-- Number 9 looked for apart from numbers 4 to 6.
pub mod SingleFirst
-- Number 9 by examples.
pub mod SingleExamples
-- An encoding is made of bytes, and the fields of entries read from bytes fit theirs.
pub mod Bounds
-- The ways that reading goes, for one input and for two.
pub mod Readings
-- Number 2 of the table of refusals: it does not apply exactly where both sums of a block are right.
pub mod Checks
-- What the exchange of two entries of one block leaves as it is: other blocks, and all but the entries of this one.
pub mod Untouched
-- Two entries of one block exchanged: when the checks of the block stay right.
pub mod Exchanged
