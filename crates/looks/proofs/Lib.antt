-- One search looks at 24 cells at most, one walk comes to 128 numbers at most, and what that makes for all of a comparison.
pub mod LookLaws
