-- Laws of the code in src/path.rt.

-- The links to an entry, gathered from the entry up: those into the place of an owner, then those that are kept.
pub mod PathLaws
