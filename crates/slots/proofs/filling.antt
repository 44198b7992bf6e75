-- Laws of the code in src/filling.rt.

-- Laws of filled tables: every number that stands in them is known by the slots.
pub mod FillingLaws
