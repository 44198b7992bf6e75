-- The slots of a description: what they ask, and their numbers and keys.
pub mod SlotLists
-- The cells of a place, and the place that is written from them.
pub mod Cells
-- The places below the slots: what they mean, and that they are normal.
pub mod CellPlaces
-- The rows that the passes write are those of the normal form.
pub mod Emission
