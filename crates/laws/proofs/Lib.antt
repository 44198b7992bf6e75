-- The laws in which a number stands for a cause.
pub mod Numbers
