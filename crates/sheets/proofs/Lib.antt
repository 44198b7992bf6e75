-- The pass over the entries of a sheet, by the table of levels.
pub mod SheetLaws
-- Reading the blocks of a sheet before its entries: what that says of the whole.
pub mod SheetBlocks
-- The profile as a test passes exactly where the entry is in it.
pub mod Profiles
-- What is promised of reading a sheet.
pub mod PromiseKept
-- The narrowest description that contains two field sheets is one.
pub mod NarrowestRead
-- Field sheets by examples.
mod SheetExamples
