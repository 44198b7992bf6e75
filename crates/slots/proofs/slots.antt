-- Laws of the code in src/slots.rt.

-- Keys and their quotients.
pub mod KeyBounds
-- Laws of slots kept as numbers in a table.
pub mod TableLaws
-- Laws of entering an entry into the table of slots.
pub mod EnterLaws
