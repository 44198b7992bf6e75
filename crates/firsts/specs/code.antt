-- Mirrors of the code: the contracts of its functions cite these, and no promise does.

-- How many keys a table has room for, and how it holds them.
pub mod Held
