-- A delivered record: what its entries say of its items.
pub mod Record
-- What reading a delivered record answers.
pub mod Reading
-- Mirrors of the code: the contracts of its functions cite these, and no promise does.
pub mod code
-- What the promises on delivered records speak of: where one is refused, and what one has that is not.
pub mod Promise
