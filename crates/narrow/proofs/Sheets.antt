-- Field sheets.

-- The narrowest of two field sheets is a sheet.
pub mod SheetsJoined
-- A line more at each entry, after the others.
pub mod FurtherRow
