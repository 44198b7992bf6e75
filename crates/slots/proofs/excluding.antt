-- Laws of the code in src/excluding.rt.

-- A place lacks a property where it has a partner of it.
pub mod ExcludingLaws
