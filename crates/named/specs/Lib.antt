-- The answers of the calls that take a dictionary, and the outputs that they leave.
pub mod Answer
-- Mirrors of the code: the contracts of its functions cite these, and no promise does.
pub mod code
