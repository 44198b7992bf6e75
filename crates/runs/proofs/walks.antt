-- Laws of the code in src/walks.rt.

-- Laws of where a walk begins.
pub mod StartLaws
-- Laws of gathering tags along a chain.
pub mod GatherLaws
-- Laws of the look for a name along a chain.
pub mod NameLaws
