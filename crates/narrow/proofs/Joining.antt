-- The narrowest of two descriptions, on places and on entries.

-- The joined place holds exactly what both hold; so a description contains it exactly if it contains both.
pub mod Least
-- The cells of a joined place: found by their names, ascending, and tested one by one.
pub mod JoinCells
-- What is made below a link, a property that both places have, and bounds of both.
pub mod JoinParts
-- The joined place, as it is made, is a normal place, and joins the two.
pub mod JoinMeans
-- What the joined place lists comes from the two places.
pub mod JoinEntries
-- Where no properties exclude each other, the joined place has no more entries than both.
pub mod JoinSize
-- The narrowest of two descriptions: accepted, in normal form, contains each, and the least that does.
pub mod NarrowestKept
