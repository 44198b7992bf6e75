-- The single links met among entries: how they grow, and when one leads to a second item.
pub mod NotedLaws
-- The lines of the entries of a delivered record, one after the other.
pub mod RowLaws
-- The ways that reading a delivered record goes.
pub mod ReadingLaws
-- A delivered record that breaks neither 9 nor 12 keeps the rule on single links and the list of pairs.
pub mod KeepsLaws
-- A delivered record is refused exactly by the first line that applies, and one that is accepted keeps the rule on single links and the list.
pub mod PromiseKept
