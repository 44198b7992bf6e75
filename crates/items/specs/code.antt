-- Mirrors of the code: the contracts of its functions cite these, and no promise does.

-- Facts of a delivered record, each as one number.
pub mod Facts
-- The record that facts say, and the facts of the entries of a delivered record.
pub mod Record
