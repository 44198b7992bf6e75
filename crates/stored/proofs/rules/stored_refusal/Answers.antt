-- `stored_refusal` meets its contract, test by test.
use Rattle.std.proofs.Common.{arith}
use Rattle.stored.proofs.rules.RefusalLaws.{by-depth, by-form, by-walking, right}
use Rattle.stored.proofs.rules.stored_refusal.Goals as goal

pub returns-in-Some : goal.returns-in-Some
returns-in-Some c = by-form c.args.x c.args.most c.entry_refusal.ensures c.owned_entry.ensures c.in-Some.is

pub returns-then-most-x : goal.returns-then-most-x
returns-then-most-x c = by-walking c.args.x c.args.most c.entry_refusal.ensures c.owned_entry.ensures c.in_default.is (omega (arith, c.if-most-x.true))

pub returns-then-x-gt32 : goal.returns-then-x-gt32
returns-then-x-gt32 c =
    by-depth c.args.x c.args.most c.entry_refusal.ensures c.owned_entry.ensures c.in_default.is (omega (arith, c.if-most-x.false)) (omega (arith, c.if-x-gt32.true))

pub returns : goal.returns
returns c =
    right c.args.x c.args.most c.entry_refusal.ensures c.owned_entry.ensures c.in_default.is (omega (arith, c.if-most-x.false)) (omega (arith, c.if-x-gt32.false))
