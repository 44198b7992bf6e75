-- Reading the blocks of an input before its entries: what that says of the whole.
pub mod BlocksRead
