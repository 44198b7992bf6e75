-- Mirrors of the code: the contracts of its functions cite these, and no promise does.

-- The slots of a description: what the fast normal form computes from its rows, pass by pass, on lists.
pub mod Slots
-- The slots of a description under a background: a pass between the first and the second.
pub mod Restrict
-- The cells of each place, as the passes over the slots sort and tag them.
pub mod Pipeline
-- The key of a slot as one number, where names are below 65,536.
pub mod Keys
-- The places of the slots of a description, as trees: each is written from its sorted cells.
pub mod Forms
