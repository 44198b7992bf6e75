-- Laws of the code in src/totals.rt.

-- The rows of the table of totals: how one is found by its owner and link, and how the table grows.
pub mod RowLaws
-- The table of totals, entry by entry.
pub mod TotalsLaws
