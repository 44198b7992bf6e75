-- Blocks as bytes: words, rows, lengths and counts.
pub mod Format
-- Blocks and entries one by one: the first fault, levels, and legal lists.
pub mod Refusing
-- Reading undoes writing, and accepts exactly what is right.
pub mod RoundTrip
