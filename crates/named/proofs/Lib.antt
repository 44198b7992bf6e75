-- With a dictionary of length 0: the answers by those of the plain calls.
pub mod SentLaws
-- With any other: the answers for what is unfolded, from the buffers that it stands in.
pub mod UnfoldedLaws
-- The narrowest description, with a dictionary of length 0 and with any other.
pub mod NarrowestLaws
