-- The normal form's answer by the ways through it: refused, or normalised.
pub mod AnswerLaws
-- Number 7 of the normal form: exactly where the list and the input are accepted and the output is shorter.
pub mod ReadingNumbers
-- The examples of normal forms: what normalising answers and writes for each.
pub mod Cases
-- Tables that have room for an input.
pub mod RoomLaws
-- The packed entries of a normal form, written to the output, give the output that the answer promises.
pub mod NormalWritten
-- The normal form of an input.
pub mod PromiseKept
-- The slots of a table stand on the chains of their runs, once one pass has put them there.
pub mod SlotsChained
