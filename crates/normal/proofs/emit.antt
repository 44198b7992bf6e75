-- Laws of the code in src/emit.rt.

-- A place that is written from its cells is its leaves and then its nodes, and its rows are theirs.
pub mod EmitLaws
-- Rows pushed onto the table of packed entries: none, one, some and then some, and all of them at last.
pub mod PushLaws
-- The 'every' rows of a place, pushed one by one, with the slots that they lead to.
pub mod PlacingLaws
-- The rows of a place, from its two runs.
pub mod ClassLaws
