-- An unfolded description is legal.

-- The owners of an unfolded description are allowed.
pub mod UnfoldOwners
-- An unfolded description is legal; and 14 by sizes and levels that are worked out without unfolding is 14 by what is unfolded.
pub mod UnfoldLegal
-- Descriptions without names, among descriptions with names: what is legal for the ones and for the others.
pub mod NoNames
-- The fields of an unfolded description's entries fit their bytes, if those of what it is made from do.
pub mod UnfoldBounded
-- What reading a description under a dictionary answers, by its parts: what no rule up to 13 refuses is legal, and then 14 decides. And what
-- reading a dictionary answers.
pub mod NamedReadings
-- With a dictionary of length 0: 13 in place of 4.
pub mod Nameless
-- A dictionary that is accepted is legal, and so is what is accepted under it: what it stands for is accepted, wherever it is read.
pub mod AcceptedReadings
