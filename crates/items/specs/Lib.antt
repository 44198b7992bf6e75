-- The answer of fitting all items of a delivered record, and the output that it leaves.
pub mod Answer
-- Mirrors of the code: the contracts of its functions cite these, and no promise does.
pub mod code
