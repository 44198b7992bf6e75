-- `pack_rows` meets its contract: after j turns the first j entries are stored.
use Rattle.std.proofs.Common.{◌≡◌, map, take}
use Rattle.base.specs.Stores.{stored}
use Rattle.drafts.proofs.StoreLaws.{row_of}
use Rattle.desk.proofs.writing_out.pack_rows.Given as goal

abbrev pub invariant-loop-j : goal.invariant-loop-j
invariant-loop-j l = l.rows ≡ stored l.initial.rows 0 (map row_of (take l.j l.bytes))
