-- Trees of entries, and the rows of entries with owners that they are read from.
pub mod Tree
-- What an entry says at a place, and places: trees of what their entries say.
pub mod Place
-- Finite records, and which items fit a place.
pub mod Record
-- What all records that are spoken of keep: links from 32,768 up lead to one item at most, and what a list of exclusions adds.
pub mod Background
-- The normal form of a place, for the records that keep a background.
pub mod Normal
-- What a normal form is.
pub mod Canonical
-- What places mean, in the records that keep a background.
pub mod Meaning
-- The number of entries of a tree, and its levels.
pub mod Size
-- When a normal form says what an entry at a path of links says.
pub mod Holds
-- A specimen as a tree of groups, and which places its top item fits.
pub mod SpecimenTree
-- The specimen of a comparison: an item that fits a normal place and does not meet an entry that the place does not hold.
pub mod Witness
-- A tree written as rows, breadth first: the entries of one owner after the other, owners in the order in which they stand.
pub mod Layout
-- Tables that are filled row by row, with a code noted for each row that leads to a place, and the jobs that such a table stands for.
pub mod Filling
-- A tree by its places: each place has a code, and lists its leaves and then its nodes, each with the code of the place below it.
pub mod Laying
