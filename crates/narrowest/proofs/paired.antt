-- Laws of the code in src/paired.rt.

-- Which links a place closes.
pub mod PairLaws
