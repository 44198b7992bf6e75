-- The properties that stand in a list of pairs; and the narrowest of two inputs under a list.
pub mod Listed
