-- Laws of the code in src/restrict.rt.

-- Laws of the pass under what every record keeps: what it makes of the slots, and what it leaves.
pub mod RestrictLaws
