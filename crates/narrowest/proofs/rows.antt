-- Laws of the code in src/rows.rt.

-- Rows pushed one after another.
pub mod CountLaws
-- What an entry of the first place gives beside the second.
pub mod SharedLaws
-- What the entries of a place give of a kind is what its tree gives.
pub mod LeavesLaws
