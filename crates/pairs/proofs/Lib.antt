-- The list of pairs is refused exactly by its first fault, with number 11 and input 0, at the place that 11 gives.
pub mod PairsRefused
-- The list of pairs is accepted exactly where it has none of the faults of 11.
pub mod PairsAccepted
-- Which properties exclude each other under a list.
pub mod Excluding
-- The index of a list: how it is filled, and a walk along the chain of a property.
pub mod IndexLaws
-- A property and what stands beside it in a list: those exclude it.
pub mod Partners
-- Pairs as bits: how they gather along a chain, and what they say of properties.
pub mod SidesLaws
-- Whether a property has a partner that is held: one number of its chain, and a walk up to the first that has.
pub mod BesideLaws
-- The background of a list: lawful, which records keep it, and that of the empty list.
pub mod Under
-- Lists of pairs by examples.
pub mod PairExamples
