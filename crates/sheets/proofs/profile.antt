-- Laws of the code in src/profile.rt.

-- One law for each way through the profile of an entry.
pub mod ProfileLaws
