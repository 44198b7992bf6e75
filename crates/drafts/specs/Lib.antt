-- What a desk holds, what a call answers, and what a desk holds after it.
pub mod Draft
-- What the promises on lists of calls speak of.
pub mod Listed
-- What the counters and the lent memory of a desk hold.
pub mod Memory
-- Whether counters and memory are a desk's.
pub mod Sound
-- What each call on counters and memory answers, and what it leaves.
pub mod Answer
-- The same in one buffer.
pub mod Buffer
-- What the promises on a desk in memory speak of.
pub mod Promise
-- Mirrors of the code: the contracts of its functions cite these, and no promise does.
pub mod code
