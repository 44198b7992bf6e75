-- Laws of the code in src/tables.rt.

-- The last passes: what the settled slots give, by the runs of each place.
pub mod PassRows
