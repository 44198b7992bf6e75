-- What the calls that unfold answer, and the bytes that they leave.
pub mod Answer
-- Mirrors of the code: the contracts of its functions cite these, and no promise does.
pub mod code
