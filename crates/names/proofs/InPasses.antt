-- Names replaced in steps.

-- Unfolding goes by the numbers of owners only: entries in a row, entries that are written later, and entries that stood later.
pub mod MovedUnfolding
-- Replacing some names first, and those that are left after that, is replacing all at once.
pub mod UnfoldTwice
-- Names replaced by what stands for the same change nothing, once all are unfolded.
pub mod Replaced
-- A description without the names in it that stand for nothing stands for the same, and needs no more room.
pub mod PassStages
