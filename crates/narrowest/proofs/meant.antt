-- What the result's places mean: the joined place of `narrow`, place by place.

-- A place joined with an empty one is empty.
pub mod EmptySide
-- The place below a link, by the 'every' entry that is found.
pub mod EveryLaws
-- A normal place is its atoms, and then its 'every' entries.
pub mod SplitLaws
-- Names that are sorted, each once.
pub mod OnceLaws
-- What stands below a link of a place of the result, by its code.
pub mod BelowLaws
-- The links of a place of the result.
pub mod LinkLaws
-- The lacks of a joined place.
pub mod LackedLaws
-- A place of the result is what is written of it.
pub mod UnfoldLaws
