-- What the narrowest place that contains two others supports, place by place.
pub mod Joined
-- The narrowest place that contains two others, as it is made.
pub mod Join
-- The narrowest description that contains two, as entries.
pub mod Narrowest
-- The profile of field sheets.
pub mod Profile
-- Entries left out of a description, one after the other, from the last to the first.
pub mod Keeping
-- The entries of a first description that earn it a yes.
pub mod Earned
-- What a first description lacks for a second: the entries of the second that it does not say, and those that are to be
-- added.
pub mod Missing
-- What one atom of a place says by itself.
pub mod Heard
-- What one entry says by itself, at a path.
pub mod Told
-- Which entries of a first description say one of a second, and a set that says all, made in one walk.
pub mod Tellers
-- The bounds that slots give a key.
pub mod Bounds
-- Mirrors of the code: the contracts of its functions cite these, and no promise does.
pub mod code
