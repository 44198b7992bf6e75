-- The normal form's answer, and its output.
pub mod Answer
-- Mirrors of the code: the contracts of its functions cite these, and no promise does.
pub mod code
-- What the promises of the normal form speak of: the same items, and what the answer says of the output.
pub mod Promise
