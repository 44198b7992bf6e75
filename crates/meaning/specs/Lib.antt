-- A description's entries as a tree of places.
pub mod Description
-- The entries of one owner: tests of all of them, and owners that stand earlier.
pub mod Owned
-- A specimen as a record of items.
pub mod Specimen
-- The entries of a description's normal form.
pub mod NormalEntries
-- The rules of the normal form, one by one, as what each looks for in a list of entries.
pub mod Rules
-- The first entry of a description that a normal form does not hold.
pub mod First
-- The specimen of a comparison, as entries.
pub mod SpecimenFor
-- The first entry of a second description that fails, and the specimen that shows it.
pub mod Failing
-- What the promises of the comparison speak of, for lists of entries.
pub mod Promise
-- The rows of a description's places as entries.
pub mod RowEntries
-- The entry of an owner, a kind and a name.
pub mod Lookup
-- [C16] the cases of one list: all of them, each about answers and output bytes.
pub mod StarredCases
-- The cases that give a normal form, Molitor's running example, and one for each rule, as one list.
pub mod NormalExamples
-- The cases that have a specimen, as one list.
pub mod FitExamples
-- A table of which descriptions are contained in which, direct superiors, and classes.
pub mod Hierarchy
