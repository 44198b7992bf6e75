-- Mirrors of the code.

-- Lists in tables, and sets of entries as tables of marks.
pub mod Tried
