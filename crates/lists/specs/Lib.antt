-- Where the descriptions of a list begin: the first part, what is left, and all parts.
pub mod Parts
