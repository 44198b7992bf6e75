-- A call is refused by the first of its lines that applies.
pub mod FaultLaws
-- Going back to a stand yields what was held when its name was last given.
pub mod HistoryLaws
-- The desks that lists of calls give are those that are sound.
pub mod GivenLaws
-- Descriptions that grow entry by entry are the legal ones.
pub mod GrownLaws
-- Entries that stand in memory.
pub mod MemoryLaws
-- Bytes after a copy and after a store.
pub mod CopyLaws
-- The place of a number among the stands, and what the stands hold.
pub mod PlaceLaws
-- What a sound desk keeps, by its counters.
pub mod SoundLaws
-- What a desk answers, by its counters.
pub mod AnswerLaws
-- Adding an entry, by the table of levels.
pub mod AddingLaws
-- The stands in memory after a call.
pub mod StandLaws
-- What a desk holds after a call.
pub mod MovesLaws
-- Which counters and memories are a desk's, exactly.
pub mod GivenExactly
-- Any call on counters and memory does what it does on what they hold.
pub mod AfterLaws
-- A desk in one buffer.
pub mod BufferLaws
-- The promises on a desk in one buffer.
pub mod PromiseKept
-- What the loops of the code store, and what is written of it.
pub mod StoreLaws
-- Entries looked at one after the other, with a table of levels.
pub mod DraftedLaws
-- Writing a desk out, way by way.
pub mod WriteLaws
-- A call on a desk in one buffer, way by way.
pub mod ActLaws
