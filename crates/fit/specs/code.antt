-- Mirrors of the code: the contracts of its functions cite these, and no promise does.

-- Groups that own nothing, and places that an item with nothing fits.
pub mod Bare
-- Chains of the numbers of a bucket, as they are handed out.
pub mod Chains
-- Fitting by groups and by entry numbers, as the code goes.
pub mod Groups
-- The index of the entries of an input, as the code keeps it: of a description by owner, of a specimen by owner, kind and name.
pub mod Index
-- The rows of the table of totals as the code finds them, and what the walk over entries has at hand.
pub mod Rows
