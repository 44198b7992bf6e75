-- What fails, and what is to be added.

-- The entries of two descriptions in one list: it is legal, and an item fits it exactly if it fits both.
pub mod BothEntries
-- All entries of a second description that fail.
pub mod Failings
-- What is to be added to C for a yes.
pub mod Additions
-- The addition as a description; and where nothing fits C and D together.
pub mod AdditionKept
-- Leaving out may begin with the entries that fail.
pub mod Begun
-- Small cases, some of them against statements that are false.
mod MissingExamples
