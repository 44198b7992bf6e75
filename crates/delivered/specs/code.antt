-- Mirrors of the code: the contracts of its functions cite these, and no promise does.

-- The single links met among the entries of a delivered record, as the code keeps them.
pub mod Noted
