-- The laws, each by the name of the function whose contract it is.
pub mod Laws
