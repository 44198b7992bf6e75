-- Laws of the code in src/reader.rt.

-- Laws of reading, one for each way through the code.
pub mod ReadingLaws
