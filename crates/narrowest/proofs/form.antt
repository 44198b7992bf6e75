-- Laws of the code in src/form.rt.

-- What is found by halving.
pub mod SeekLaws
-- The entries of a place stand together.
pub mod SpanLaws
