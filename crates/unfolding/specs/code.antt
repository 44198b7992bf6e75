-- Mirrors of the code: the contracts of its functions cite these, and no promise does.

-- Entries as numbers in a lent table.
pub mod Rows
-- What a pass asks of entries.
pub mod Replacing
-- One pass over the entries of a description, which checks and measures them.
pub mod Checking
-- What is known of a dictionary that is read.
pub mod Known
