-- Laws of the code in src/rows.rt.

-- Listed entries as a description: how many, each with its owner, and each by its number.
pub mod ListingLaws
