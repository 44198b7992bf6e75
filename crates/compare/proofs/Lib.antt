-- The comparison's answer by the ways through it: refused, contained, not contained.
pub mod AnswerLaws
-- The desk examples: what the comparison answers and writes for each, and the normal forms that are given.
pub mod Cases
-- The comparison of two inputs.
pub mod PromiseKept
-- What a yes is worth on arrival: where C is contained in D, each specimen that fits C fits D.
pub mod ContainedFits
-- [C7] as one statement: an answer for all accepted inputs, each exactly as the finite records have it; and when 7 is
-- answered.
pub mod Demand
