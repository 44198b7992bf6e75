-- Laws of the code in src/groups.rt.

-- Laws of what the items of a group have, one for each step of a walk over the entries of a bucket.
pub mod GroupLaws
