-- Laws of the code in src/lacks.rt.

-- Numbers that are noted, some done and the rest to do.
pub mod NoteLaws
-- Which properties are noted.
pub mod MemberLaws
-- Of numbers that ascend each is pushed once.
pub mod ApartLaws
-- How many lacks are noted.
pub mod FewLaws
