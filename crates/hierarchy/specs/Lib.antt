-- The answer of the call, and the output that it leaves.
pub mod Answer
-- Mirrors of the code: the contracts of its functions cite these, and no promise does.
pub mod code
-- What the promises speak of: the bytes written, and what they say of the services.
pub mod Promise
