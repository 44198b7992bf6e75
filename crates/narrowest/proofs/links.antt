-- Laws of the code in src/links.rt.

-- 'Every' rows pushed one after another.
pub mod KnotLaws
-- Links that are noted.
pub mod NoteLaws
