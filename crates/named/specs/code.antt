-- Mirrors of the code: the contracts of its functions cite these, and no promise does.

-- The refusals where no name can be given.
pub mod Sent
