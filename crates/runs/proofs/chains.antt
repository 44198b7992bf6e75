-- Laws of the code in src/chains.rt.

-- Laws of putting a slot on the chain of its run.
pub mod ChainingLaws
