-- The answer of the call, and the output that it leaves.
pub mod Answer
-- What the promises of the call speak of.
pub mod Promise
