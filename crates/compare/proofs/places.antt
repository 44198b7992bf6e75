-- Laws of the code in src/places.rt.

-- Tags of different names, sorted, are the names of a place in order.
pub mod TagRuns
-- The tags that are gathered of a place and class are those of the names that the place lists.
pub mod RunLaws
-- What walks along the chains of runs find, in a table of settled slots.
pub mod RunWalks
-- The tags of a place and class, gathered, with the one that is asked for, and sorted: a run.
pub mod RunMade
-- One place: its properties and then its groups, from the tags of its runs.
pub mod PlaceLaws
