-- What an unfolded description means.

-- Trees of rows that stand in a row, and of rows that were moved.
pub mod JoinedTrees
-- The tree of an unfolded description: the trees of the contents, put in at the places of their names.
pub mod UnfoldTree
-- [D7] the unfolded description means the same.
pub mod UnfoldMeans
