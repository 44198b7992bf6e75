-- Laws of the code in src/lacking.rt.

-- A place lacks what it has a partner of.
pub mod LackLaws
