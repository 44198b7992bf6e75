-- Laws of the code in src/asked.rt.

-- What the target of a number asks for, on the path and at its end.
pub mod TargetLaws
