-- Named entries replaced by what they stand for: the plain description of a description with names, and the contents of a dictionary.
pub mod Unfold
-- What a description with names means, with no unfolding in sight.
pub mod NamedMeaning
-- How many entries a description with names has once unfolded, and how deep they stand: worked out without unfolding it.
pub mod Measures
-- The table of kinds, for descriptions with names.
pub mod NamedForm
-- Reading a description that may name others, and a dictionary: the refusals, in their order.
pub mod NamedReading
-- What the promises on named descriptions speak of.
pub mod Promise
-- Mirrors of the code: no promise cites these.
pub mod code
