-- Laws of the code in src/verdict.rt.

-- How many entries an accepted description has by its length, and tables that have room for them.
pub mod RoomLaws
-- What the slots' layer answers and leaves behind: refused, all hold, or the slots of the first description and the entry that fails.
pub mod SlotsLeft
-- Where an entry fails, its specimen can be shown, and is what the answer promises.
pub mod ShownLaws
-- The specimen's rows are those that the slots and the path give, and written they are its blocks.
pub mod RowsWritten
-- The answers without a specimen.
pub mod VerdictLaws
