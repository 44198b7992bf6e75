-- The chains of the runs, as one pass over the slots makes them.
pub mod ChainsMade
-- The walk along a chain, slot by slot.
pub mod AlongChains
-- What a walk along the chains finds: the tags of all slots of a run that say enough, and the slot of a name.
pub mod RunsFound
-- The tags of a run's slots: which they are, what they hold, and that they ascend by name once sorted.
pub mod TagsListed
