-- Tests and sums over a range of numbers.
pub mod Range
-- Two runs of terms exchanged, and how far two numbers are apart.
pub mod Exchange
-- Stores in a row.
pub mod Stores
-- The search for a number that fails a test.
pub mod Search
-- Lists in ascending order, where `lt` tells which of two elements stands first.
pub mod Ascending
-- Numbers from 1 on, in buckets: the last of a bucket, and the chain on which each number points to the one before it in its bucket.
pub mod Chain
-- A list of keys, and their numbers.
pub mod Keys
-- Tables in which no choice of keys makes a search long.
pub mod Ways
-- Which links lead to one item only.
pub mod Links
