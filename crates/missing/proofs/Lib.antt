-- How many entries two inputs of 16 blocks have together.
pub mod RoomLaws
-- A description that no item fits, and its block.
pub mod Impossible
-- What is asked of the two, and the ways to an answer.
pub mod AnswerLaws
-- What is promised of the answer.
pub mod PromiseKept
