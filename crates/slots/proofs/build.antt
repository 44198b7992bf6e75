-- Laws of the code in src/build.rt.

-- Laws of the first pass: one entry more.
pub mod BuildLaws
-- Both bounds of an entry as one number, from its kind's constants.
pub mod BoundsLaws
