-- `judge_entries` meets its contract: the first entry that breaks a rule, or the first that fails.
use Rattle.std.proofs.Common.{subst}
use Rattle.pairs.specs.Pairs.{under}
use Rattle.slots.proofs.failing.JudgingLaws.{none-fails}
use Rattle.slots.specs.code.Lent.{AllPassedIn}
use Rattle.slots.proofs.service.JudgedLaws.{entries-judged, entries-refused}
use Rattle.std.proofs.lemmas.Result.{err_from_is_err_and}
use Rattle.slots.proofs.service.judge_entries.Goals as goal

pub returns-in_err-failing : goal.returns-in_err-failing
returns-in_err-failing c =
    let p = err_from_is_err_and c.from_residual.result c.from_residual.ensures.1 in
    let a = c.args.supplier.slots in
    rw (p.1, p.2) (λ s H. entries-refused c.args.supplier.marked.exclusions.pairs.now s c.args.input c.args.d.now c.args.total c.requires.1 a.table.now 4093 a.cells.now a.used (rw c.from.ensures at c.pass_entries.ensures) c.in_err-failing.was)

pub returns : goal.returns
returns c =
    let a = c.args.supplier.slots in
    let A = rw c.from.ensures at c.pass_entries.ensures in
    let P = subst (AllPassedIn (under c.args.supplier.marked.exclusions.pairs.now) c.args.d.now a c.args.total c.args.input) c.in_ok-failing.was A in
    λ s H. entries-judged c.args.supplier.marked.exclusions.pairs.now s c.args.input c.args.d.now c.args.total c.requires.1 a.table.now 4093 a.cells.now a.used (rw c.from.ensures at c.pass_entries.ensures) c.args.supplier.ruled.lawful H c.requires.0 c.in_ok-failing.was (none-fails _ P.2 _ c.is_none.ensures)
