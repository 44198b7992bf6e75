-- Laws of the code in src/mates.rt.

-- Whether two joined places say something.
pub mod SaysLaws
-- The mates, as they are found and taken away.
pub mod MateLaws
