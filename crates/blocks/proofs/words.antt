-- Laws of the code in src/words.rt.

-- Laws of words and of the sum that checks a block.
pub mod WordLaws
