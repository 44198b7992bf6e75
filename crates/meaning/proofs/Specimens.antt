-- A specimen's entries and its record.

-- Fitting in the record of a specimen goes by groups: all items of a group fit the same places.
pub mod Items
-- The record of a specimen that was written from a tree: its top item fits there what the tree says.
pub mod SpecimenRecord
-- The record of a specimen that was written from a tree keeps a background if the tree does.
pub mod SpecimenKeeps
-- A legal specimen breaks number 9 nowhere exactly where its record keeps the standing rule.
pub mod SingleKeeps
-- Of bytes: an accepted specimen's record keeps the rule, and a legal one whose record keeps it is not refused as 9.
pub mod AcceptedKeeps
-- A comparison's specimen as entries: they are legal, their fields fit their bytes, and they are no more than those of C and D.
pub mod SpecimenLegal
-- The entries of a comparison's specimen ascend by owner, then kind, then name.
pub mod SpecimenAscends
