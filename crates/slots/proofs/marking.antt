-- Laws of the code in src/marking.rt.

-- What a slot marks, and that marks stay right while other bounds change.
pub mod MarkingLaws
