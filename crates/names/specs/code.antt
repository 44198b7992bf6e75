-- Mirrors of the code: no promise cites these.

-- Unfolding in passes: each replaces all names that are there.
pub mod Passes
