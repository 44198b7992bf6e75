-- Laws of the code in src/frame.rt.

-- What was found beside the test of what is left of a range.
pub mod FoundLaws
