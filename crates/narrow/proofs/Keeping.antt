-- Entries left out of a description, one after the other.

-- Leaving out from the last to the first: what is left passes, and nothing more can be left out.
pub mod KeepLaws
-- Leaving out one by one: each number is kept exactly if, at its turn, what is left without it does not pass.
pub mod Turns
-- Where each question is answered by a number of the set: what is left is found in one walk.
pub mod Answered
-- What any set may lose may be lost before leaving out begins.
pub mod OnlySet
-- A description with entries that say nothing in place of some.
pub mod Thinned
-- A description cut down to marked entries.
pub mod Cut
-- The entries that earn a yes: C cut down to them is contained in D, and without any one of them that is no 'every' it
-- is not.
pub mod Earning
