-- Laws of the code in src/bare.rt.

-- Marks of owners, entry by entry.
pub mod MarkLaws
