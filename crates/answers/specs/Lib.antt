-- What the promises on the calls that take a dictionary speak of.
pub mod Promise
-- Why each of these calls refuses, in the order of the rows.
pub mod Refusals
-- What the contracts of the exported calls say beside their equations.
pub mod Calls
-- Ranking a list of services: by which row it is refused, and what its bytes say.
pub mod Ranking
-- Asking which entries earn a yes: by which row it is refused, and what its bytes say.
pub mod Earning
-- Asking which entries fail: what its bytes say, beside the single comparison.
pub mod Failing
-- Asking what a description lacks: by which row it is refused, and what its answer says.
pub mod Missing
-- Fitting all items of a delivered record: by which row it is refused, and what its bytes say.
pub mod Items
-- Asking for the narrowest description that contains two: by which row it is refused, and what its answer says of the output.
pub mod Narrowest
-- Examples of the narrowest description, as one list.
pub mod NarrowestExamples
