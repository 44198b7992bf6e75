-- The rows that the passes write are those of the normal form.

-- The passes write exactly the rows of the normal form, however the cells are sorted.
pub mod Exact
-- The fast normal form of small descriptions, by computing.
pub mod SlotExamples
-- The tags of a place among those of all slots are its cells.
pub mod TagParts
