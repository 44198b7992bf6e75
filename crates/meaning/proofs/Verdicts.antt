-- The first entry that fails, and what it means.

-- The first number that fails a test: the least one, and 0 exactly where none fails.
pub mod FirstLaws
-- What the first failing entry means: none exactly where every item that fits C fits D, and otherwise the first that C does not say.
pub mod Contained
-- Where an entry of D fails, the specimen shows it: its top item fits C and does not fit D.
pub mod NotContained
