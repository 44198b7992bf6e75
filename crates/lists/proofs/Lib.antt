-- Where the first part ends: at the first later whole block with number 1, or at the end of the list where there is none.
pub mod FirstPart
-- All parts of a list: where each begins, that they have whole blocks where the list has, and that in a row they are the list again.
pub mod PartLaws
-- Laws of the loops, one for each way through them.
pub mod LoopLaws
-- Inputs whose blocks are numbered from 1, laid end to end, are cut into just those.
pub mod JoinedParts
