-- A description's entries, owners, places and paths.
pub mod Descriptions
-- The entries of a normal form, and the rules.
pub mod NormalForms
-- A specimen's entries and its record.
pub mod Specimens
-- The first entry that fails, and what it means.
pub mod Verdicts
-- A table of which descriptions are contained in which: direct superiors and classes.
pub mod Hierarchies
