-- Mirrors of the code: the contracts of its functions cite these, and no promise does.

-- A normal form in a table, and what is found there.
pub mod Forms
-- What a place of a normal form says.
pub mod Places
-- Rows pushed one after another, and the atoms that an entry of the first place gives.
pub mod Pushes
-- The lacks of a joined place, as they are found along the entries of the first place.
pub mod Lacks
-- The places of the result, each by its code.
pub mod Codes
-- For each 'every' entry of the first normal form, the second's at the same path.
pub mod Mates
-- Rows of 'every' entries, each with the code of the place below it.
pub mod Knots
-- A normal form in a table, and the result's entries by two of them.
pub mod Formed
