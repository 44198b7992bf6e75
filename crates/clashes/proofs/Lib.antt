-- Tests that one of the first entries passes.
pub mod Among
-- An entry completes a pair where its owner was given what stands beside its property in the list; what an entry gives its owner.
pub mod Completing
-- The ways that reading a specimen under a list goes.
pub mod Ways
-- refused exactly by the first fault that applies, of the list or else of the specimen; by 12 at the lowest entry that completes a pair.
pub mod Refusals
-- Ok exactly where the list and the specimen are, and the record of the specimen keeps the list.
pub mod KeptApart
-- Number 12 by examples.
pub mod ClashExamples
