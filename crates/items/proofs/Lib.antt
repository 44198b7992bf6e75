-- Counting the different items that an item is linked to, fact by fact.
pub mod DegreeLaws
-- The facts that say one thing stand in a row.
pub mod SpanLaws
-- What the facts of a record ask of an item, entry by entry of a place.
pub mod EveryLaws
-- What the facts that say one thing tell of the record, and what the entries of a place that are gone over ask.
pub mod MeetLaws
-- The facts of the entries of a delivered record, sorted, are its record, and an item fits alike in both.
pub mod RecordLaws
-- The answer of the call, one law for each way through it.
pub mod AnswerLaws
