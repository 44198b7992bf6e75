-- The normal form: normal, fitted by the same items, and no larger.

-- What the passes over a place mean: which items fit the result.
pub mod Fits
-- The normal form is fitted by the same items, in every record that keeps the background.
pub mod Sound
-- What a normal form lists, atom by atom.
pub mod NormalAtoms
-- Normal forms of small places, by computing.
pub mod ReportExamples
-- Names and numbers of a normal form: what holds of those of the description holds of those of its normal form.
pub mod NormalFields
-- A normal form is normal.
pub mod IsNormal
-- A normal form has no more entries than its description, and no more levels.
pub mod NormalSize
