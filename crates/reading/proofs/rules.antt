-- Laws of the code in src/rules.rt.

-- The kinds of the tables, and which of them take any number.
pub mod KindLaws
-- The weights by which the form of an entry is seen at a look.
pub mod WeightLaws
