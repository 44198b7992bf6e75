-- Laws of the code: a copy of some bytes, and the ways to an answer.
pub mod AnswerLaws
-- The refusals in their order.
pub mod Refusals
-- What is behind a filled output: nothing is refused, and the byte of each service.
pub mod Bytes
-- Services that are accepted, laid end to end, are the services of the list.
pub mod Laid
