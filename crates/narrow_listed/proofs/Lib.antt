-- The entries of accepted bytes are a legal description, of at most 1,008 entries.
pub mod AcceptedLegal
-- The properties that stand in a list of pairs: each once, ascending, and all that exclude or are excluded.
pub mod NamesListed
-- The narrowest of two accepted inputs, under a list of pairs that is accepted: it contains each, and is the least.
pub mod NarrowestAccepted
-- What fails and what is to be added, of two accepted inputs under a list of pairs that is accepted.
pub mod MissingAccepted
-- The entries that earn a yes, of two accepted inputs under a list of pairs that is accepted.
pub mod EarnedAccepted
