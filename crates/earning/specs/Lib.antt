-- The answer, and the output.
pub mod Answer
-- The same beside entries that all stay.
pub mod Leaving
-- What an answer means.
pub mod Promise
-- Mirrors of the code: the contracts of its functions cite these, and no promise does.
pub mod code
