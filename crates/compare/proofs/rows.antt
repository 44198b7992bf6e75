-- Laws of the code in src/rows.rt.

-- The rows of tags, pushed one after another.
pub mod RowLaws
