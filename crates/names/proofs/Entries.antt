-- Lists of entries: their numbers, their owners, what holds of each, and what unfolding does with one.

-- Numbers of entries that are moved, and tables of new numbers.
pub mod Numbers
-- Owners that are allowed, entry by entry, and what unfolding does with one entry.
pub mod OwnerSteps
-- Owners that are allowed, by number and entry by entry: the same.
pub mod OwnersByNumber
-- What holds of each entry of a list, and of each entry of an unfolded one.
pub mod EachEntry
-- A description without names unfolds to itself.
pub mod UnfoldPlain
