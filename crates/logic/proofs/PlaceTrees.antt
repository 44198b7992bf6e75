-- Places: what they list, and in which order.

-- Looking up entries of a place.
pub mod Lookup
-- The order of entries, and places whose entries stand after a given kind and name.
pub mod Order
-- Places that list no more than others: what those do not support or rule out, they do not.
pub mod Listed
-- Places with entries left out: they ascend as before, and list no more.
pub mod Thinner
-- What the passes over a place list.
pub mod Passes
-- The passes over a place keep its entries ascending.
pub mod Ascend
-- A normal place with an atom added is normal.
pub mod Inserted
-- A place whose entries ascend is what it lists.
pub mod Extensional
