-- The cells and numbers that one search and one walk come to, and the sums over the passes of a comparison.
pub mod Looks
