-- A description's entries, owners, places and paths.

-- The links that lead to an entry: those into the place of its owner.
pub mod Links
-- What the entries of a place ask, one by one: the place that an owner's rows make, and the place of a legal description.
pub mod Places
-- The meaning of a description by paths.
pub mod Paths
-- Names and numbers of a description's entries, and of its places.
pub mod EntryFields
-- A description's tree of places has no more entries than its list of entries, and at most 33 levels.
pub mod PlaceSize
-- The links to an entry of a description.
pub mod LinkPaths
-- The entries of one owner, by number: what all_owned says, and the same by the list of entries.
pub mod OwnedLaws
-- Looking entries up by owner, kind and name: what a place lists, and the place below a link, by the first entry that matches.
pub mod Lookups
-- A tree whose places ascend by kind and name, written as rows: their entries ascend by owner, then kind, then name.
pub mod LaidAscends
