-- The fit answer.
pub mod Answer
-- Mirrors of the code: the contracts of its functions cite these, and no promise does.
pub mod code
-- What the promises of the fit answer speak of.
pub mod Promise
-- The table of totals that is worked out before the walk over entries.
pub mod Totals
-- The fit answer with the additions that it took.
pub mod Counted
