-- Laws of the code in src/entries.rt, and of passes over all entries.

-- Entries by number, at the indices of their bytes.
pub mod EntryLaws
-- Passes over all entries of an input: how one begins, and where the owner of a turn's entry stands.
pub mod PassLaws
