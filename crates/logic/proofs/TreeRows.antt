-- Trees as rows.

-- Rows that were written from a tree are read as that tree, and are as many as it has entries.
pub mod LayoutLaws
-- What holds of each entry of a tree: it holds of the rows that are written from the tree, and of the tree that is read from rows.
pub mod AllEntries
-- The entries of several owners together.
pub mod MergedRows
-- Laws of tables that are filled row by row, and of the jobs that they stand for.
pub mod FillLaws
-- How a place by its code is laid out, its leaves and then its nodes, and the steps that it takes.
pub mod LaidLaws
-- The walk over the rows of a tree that is written by the codes of its places, and how many rows it has at least where room runs out.
pub mod LaidWalk
