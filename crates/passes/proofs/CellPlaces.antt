-- The places below the slots: what they mean, and that they are normal.

-- The place below each slot, as it is written from its sorted cells.
pub mod Forms
-- The second pass: which places are impossible, which are empty, and what the others mean.
pub mod FormMeaning
-- What the places of a description's slots under a background list, own and exclude, and which are empty.
pub mod FormLists
-- The places of a description's slots under a background are normal, and the top is the normal form of the description.
pub mod FormNormal
-- Settling slots that are settled changes nothing.
pub mod FormSettled
