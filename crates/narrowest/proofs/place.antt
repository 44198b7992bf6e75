-- Laws of the code in src/place.rt.

-- What a place lists, by the entry that is found.
pub mod ListedLaws
