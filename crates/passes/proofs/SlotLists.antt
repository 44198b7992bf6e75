-- The slots of a description: what they ask, and their numbers and keys.

-- The slots of a description: each stands before the place below it, no two have one key, and there are no more than rows.
pub mod SlotLaws
-- What the bounds of a slot ask of an item.
pub mod SlotBounds
-- What the slots ask of the items at a place, and what one entry more adds to it.
pub mod SlotMeaning
-- The first pass: the slots of a description ask of the top what the description asks.
pub mod BuildSound
-- Slots that differ in their bounds alone: what goes by places, classes and names is the same of them.
pub mod SameKeys
-- Slots under a background have the keys, lower bounds and number of the slots.
pub mod RestrictLaws
-- Slots under a background ask what they asked, of the items of the records that keep it.
pub mod RestrictMeaning
-- Slots by their numbers: the slot of a key, and what a place lists of it.
pub mod SlotNumbers
-- Keys as numbers.
pub mod KeyLaws
