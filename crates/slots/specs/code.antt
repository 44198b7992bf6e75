-- Mirrors of the code: the contracts of its functions cite these, and no promise does.

-- Slots as numbers of 64 bits in a table, as the code keeps them.
pub mod Tables
-- Entries that stand packed in a table, as a description.
pub mod Rows
-- The pairs in which each place has a property, as bits.
pub mod Marking
-- Which entries hold, by the slots of a normal form.
pub mod States
-- What stands in the lent tables after each answer.
pub mod Standing
-- The places of the slots that stand in a table: what the comparison builds on.
pub mod TablePlaces
-- One pass over the entries of a service, which checks and judges them.
pub mod Pass
-- A workspace, slots that are lent, and a supplier: what stands in their tables.
pub mod Lent
-- What judging a list of descriptions is told, and what each step of it does.
pub mod Judging
-- What is known of services that are read, and what judging them does to a table.
pub mod Services
