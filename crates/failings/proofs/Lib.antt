-- The ways to an answer.
pub mod AnswerLaws
-- What is promised of the answer.
pub mod PromiseKept
