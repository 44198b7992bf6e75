-- Packed entries, and the list that is left.
pub mod TriedLaws
-- Tables of marks written run by run.
pub mod MarkTables
-- Leaving out by runs.
pub mod FoldLaws
-- What the comparison of the written list answers.
pub mod TrialLaws
-- Owners marked from the last entry to the first.
pub mod MarkLaws
-- The entries of both parts loaded, and what is asked of them.
pub mod AttemptLaws
-- The ways to an answer.
pub mod AnswerLaws
-- Of two equal entries the first is left.
pub mod EqualEntries
-- What is promised of the answer.
pub mod PromiseKept
