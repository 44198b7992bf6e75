-- The list of pairs of properties that exclude each other, when it is refused, and the background that it stands for.
pub mod Pairs
-- Mirrors of the code: the contracts of its functions cite these, and no promise does.
pub mod code
-- What the promises on lists of pairs speak of: where a list is refused, which list is not, and the records that keep it.
pub mod Promise
