-- Mirrors of the code: the contracts of its functions cite these, and no promise does.

-- The cells of a table of bytes, its rows as words, and what is read off those.
pub mod Words
