-- What a walk by hand over the struct that holds an input's blocks would cite; none does now.
pub mod HeldLaws
