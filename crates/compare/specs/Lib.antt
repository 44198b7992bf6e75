-- The comparison's answer, and its output.
pub mod Answer
-- Mirrors of the code: the contracts of its functions cite these, and no promise does.
pub mod code
-- What the promises of the comparison speak of.
pub mod Promise
