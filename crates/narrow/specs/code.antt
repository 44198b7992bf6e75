-- Mirrors of the code.

-- The joined place as it is written: kind by kind, along the entries of the first place.
pub mod Made
