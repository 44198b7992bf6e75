-- Which entries of a second description a normal form holds: the answer.
pub mod Holding
-- Which entries of a second description a normal form does not hold, each by itself: the answer, and a byte for each.
pub mod Each
-- A list of descriptions judged by one: which contain it, and the refusals in their order.
pub mod Catalogue
-- Which services of a list are contained in which: a table of bytes, and the refusals in their order.
pub mod Containment
-- Mirrors of the code: the contracts of its functions cite these, and no promise does.
pub mod code
