-- The profile as a test, the lines by which a sheet is refused, and what reading one answers.
pub mod Sheet
-- What the answers of reading a sheet mean beside the reading of any description.
pub mod Promise
-- Mirrors of the code: the contracts of its functions cite these, and no promise does.
pub mod code
