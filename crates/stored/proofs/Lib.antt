-- Which depths the next stored entry may have, by the entries before it; and the search for the lowest that is refused.
pub mod WalkingLaws
-- The rows of stored entries as a description's, one after the other.
pub mod RestoredLaws
-- The entries of a place in walking order, one after the other.
pub mod WalkLaws
-- The entries in walking order are as many as all.
pub mod WalkCount
-- A turn of the walk over a place.
pub mod TurnLaws
-- Stored entries and their bytes.
pub mod StoredBytes
-- Entries as a tree, and what holds of each of them in walking order.
pub mod TreeLaws
-- The two calls, step by step: what they have in common, and from the stored form.
pub mod AnswerLaws
-- The same to the stored form.
pub mod ToLaws
-- Reading what was written in walking order gives the tree again.
pub mod ReadWalked
-- Depths that fit are those of a tree in walking order.
pub mod WalkedAgain
-- Owners by depth, and both ways: the same entries, and the same tree.
pub mod BothWays
-- What is promised of the two calls.
pub mod PromiseKept
-- Two entries exchanged, and which inputs are accepted in both forms.
pub mod FormsLaws
