-- Laws of the fit answer: what accepted inputs keep, and one law for each way through the code.
pub mod AnswerLaws
-- The desk examples: each specimen shows that the service's description asks more than the supplier's gives.
pub mod Cases
-- Fitting by entry numbers, down from the top and for 33 levels, is fitting in the record of the specimen.
pub mod FitByNumber
-- The fit answer of two inputs.
pub mod PromiseKept
