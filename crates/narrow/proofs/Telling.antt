-- What one entry says by itself.

-- Where no place is impossible, what a normal form holds is said by one atom of the description by itself, or by every
-- record.
pub mod HeardLaws
-- Entries of which no two at one path clash.
pub mod Peaceful
-- What a description says of which no two entries clash: what every record keeps, and what one entry says by itself.
pub mod EntriesTold
-- A description of which no two entries clash, with entries that say nothing in place of some.
pub mod ThinnedTold
-- Where no two entries of C clash, what earns the yes is found in one walk, by the first tellers of the entries of D.
pub mod EarnedTold
-- Where no two entries of C and D clash, what is marked is found entry by entry.
pub mod MissingTold
-- Slots of which no place is inconsistent: no two atoms whose bounds they keep to clash.
pub mod SlotPeace
-- The slots of a description keep to the bounds of each of its entries; so where no place of them is inconsistent, no
-- two entries clash.
pub mod SlotWalks
