-- Laws of the code in src/each.rt.

-- The byte of each entry, by the slots and by the normal form, and the ways to an answer.
pub mod EachLaws
