-- Laws of the code in src/service.rt.

-- A pass that checks and judges: what one entry more does to what it knows.
pub mod ServiceLaws
-- What judging a service with no names answers.
pub mod JudgedLaws
-- The entries of a service that are left.
pub mod LeftLaws
