-- Number 12 of the table of refusals, and what reading a specimen under a list of pairs answers.
pub mod Clash
-- Mirrors of the code: the contracts of its functions cite these, and no promise does.
pub mod code
-- What the promises on specimens under a list speak of: where one is refused, and which one is not.
pub mod Promise
