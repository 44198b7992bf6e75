-- Laws of the code in src/reader.rt.

-- Laws of a pair by itself, and of the list.
pub mod PairLaws
