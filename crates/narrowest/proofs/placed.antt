-- Laws of the code in src/placed.rt.

-- The rows of a place.
pub mod PlacedLaws
