-- Mirrors of the code: the contracts of its functions cite these, and no promise does.

-- The properties given so far, by which number 12 is looked for.
pub mod Given
