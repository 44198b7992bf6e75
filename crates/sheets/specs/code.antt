-- Mirrors of the code.

-- Why an entry of a sheet is refused, by the level of its owner.
pub mod SheetSteps
