-- What the result's places mean.
pub mod meant
