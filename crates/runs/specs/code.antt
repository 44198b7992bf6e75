-- Mirrors of the code: the contracts of its functions cite these, and no promise does.

-- The run and the name of a slot, and the chains of the runs.
pub mod Chained
-- The tags of a run's slots, by the slots alone.
pub mod Tagged
-- The walk along the chain of a run, and what is found on it.
pub mod Walked
