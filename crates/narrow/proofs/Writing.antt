-- The narrowest as it is written.

-- The joined place is what is written kind by kind along the entries of the first place.
pub mod MadeLaws
-- The joined place, as it is written.
pub mod MadeJoined
