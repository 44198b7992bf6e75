-- Finite records: counting, paths of links, and what records keep.
pub mod Records
-- Places: what they list, and in which order.
pub mod PlaceTrees
-- The normal form: normal, fitted by the same items, and no larger.
pub mod NormalForm
-- Specimens as trees, and the specimen of a comparison.
pub mod SpecimenTrees
-- What a normal form holds, and that one meaning has one normal form.
pub mod OneMeaning
-- Trees as rows.
pub mod TreeRows
