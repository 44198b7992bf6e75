-- Laws of the code in src/specimen.rt.

-- The specimen below each code: it is laid from the properties and the groups that the code gives, and their codes are codes.
pub mod SpecimenPlaces
-- The walk over the rows of a specimen as they are written.
pub mod SpecimenWalk
