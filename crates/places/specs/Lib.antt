-- The entries of one place, in order.
pub mod Owned
-- Mirrors of the code.
pub mod code
