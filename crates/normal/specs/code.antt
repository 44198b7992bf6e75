-- Mirrors of the code: the contracts of its functions cite these, and no promise does.

-- The cells of a place from its two runs, and the tables of the runs, as the code keeps them.
pub mod ClassRuns
-- The rows of a place as plain lists, and the tables of the walk, as the code keeps them.
pub mod Emitted
-- The rows of a normal form in a table that is lent.
pub mod Formed
