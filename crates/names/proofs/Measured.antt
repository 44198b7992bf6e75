-- How many entries an unfolded description has, and how deep they stand.

-- The number of entries of an unfolded description.
pub mod UnfoldSize
-- Levels put in at a depth, and the levels of moved entries.
pub mod LevelSteps
-- The levels of an unfolded description.
pub mod UnfoldLevels
-- The levels of a list, and the depths of its entries.
pub mod LevelsDepth
-- The size and the levels of each description of a dictionary are worked out from those of all, of which it names only earlier ones.
pub mod ByEarlier
-- How large the sizes that are worked out can become before they are looked at.
pub mod MeasureBounds
