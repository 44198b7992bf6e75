-- Mirrors of the code: the contracts of its functions cite these, and no promise does.

-- What a call by value does.
pub mod Does
