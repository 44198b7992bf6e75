-- The number that a call hands to C for each answer.
pub mod Packing
-- What the promise of the packed number speaks of: the fields that are read back.
pub mod Promise
