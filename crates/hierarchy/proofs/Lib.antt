-- Laws of words whose bits are those of a test: joined, one without another, the lowest bit, and stored in turn.
pub mod WordLaws
-- Laws of rows of bytes: one byte longer, written in turn, and those of such words.
pub mod RowLaws
-- Laws of the call: what is written for a table, and the ways to an answer.
pub mod AnswerLaws
-- What is promised: the bytes, the services that strictly contain one, and the classes.
pub mod PromiseKept
