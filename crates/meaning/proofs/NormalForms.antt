-- The entries of a normal form, and the rules.

-- Rows as entries, and the place that each owner's rows make: what an ascending place says of the entries of its rows.
pub mod RowPlaces
-- The rows that are written from a tree: each owner is the top or an 'every', and where the tree is normal, so is each place.
pub mod WrittenPlaces
-- The rows of a tree of at most 33 levels, as entries: each owner stands earlier and may own, and no entry is deeper than 32.
pub mod LayoutLegal
-- The entries of a normal form are legal, and their fields fit their bytes.
pub mod NormalLegal
-- The entries of a normal form ascend by owner, then kind, then name.
pub mod NormalAscends
-- The normal form of a description is no deeper: the depths of entries, and the levels of places.
pub mod NormalDepth
-- No rule of the normal form applies to a normal form as it is written.
pub mod RulesLaws
-- For each rule of the normal form a small list of entries that it applies to.
pub mod RulesExamples
-- The entries of a normal form.
pub mod NormalEntriesLaws
-- The converse of `no-rule`.
pub mod Irreducible
-- A legal list of entries that ascends is the breadth-first layout of its own tree: what is written from the tree are its rows.
pub mod WrittenAgain
