-- A table of which descriptions are contained in which.

-- Following direct superiors reaches every strict container, and nothing else; and classes.
pub mod Superiors
-- The table of legal descriptions is reflexive and transitive.
pub mod OrderedTable
