-- `write_specimen` meets its contract: the slots and the path give the specimen's rows, which are written.
use mathlib.Core.Path.{◌∙◌}
use native.Mathlib.Omega.{arith}
use Rattle.blocks.specs.Entries.{Bounded}
use Rattle.compare.proofs.verdict.RowsWritten.{shown-links, shown-owned, shown-writable, shown-written}
use Rattle.compare.proofs.verdict.write_specimen.Goals.{After-to-path}
use Rattle.compare.proofs.verdict.write_specimen.Goals as goal

-- what is read is of its type
entry-bounded : (c : After-to-path) → Bounded c.to-path.result.entry
entry-bounded c =
    let k = c.to-path.type_inv in
    record { kind = omega (arith, k); reserved = omega (arith, k); owner = omega (arith, k); name = omega (arith, k); number = omega (arith, k) }

pub to-path-requires : goal.to-path-requires
to-path-requires c = let s = c.requires.0 in (shown-owned s, shown-links s, s.from, s.to)

pub specimen_rows-count-requires : goal.specimen_rows-count-requires
specimen_rows-count-requires c =
    let a = c.requires in
    let p = c.to-path in
    (a.0.stood, shown-writable a.0 _ _ p.ensures.1 p.ensures.0 p.result.short, a.1, a.2, a.3, a.4, a.5)

pub returns : goal.returns
returns c =
    let a = c.requires in
    let l = c.to-path.ensures in
    let s = c.specimen_rows-count.ensures in
    let w = shown-written a.0 _ _ l.1 l.0 l.2 (entry-bounded (goal.at.returns c).After-to-path) _ _ s.0 s.1 in
    (w.0, w.1, c.write_entries.ensures.1 ∙ w.2)
