-- The answer, and the output.
pub mod Answer
-- What an answer means.
pub mod Promise
