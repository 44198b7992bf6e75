-- Laws of the code in src/walk.rt.

-- The walk over the rows as they are written.
pub mod WalkLaws
