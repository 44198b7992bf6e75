-- `judge` meets its contract: nothing fits the supplier, or the first entry that fails is found by its slots.
use native.Mathlib.Omega.{arith}
use Rattle.blocks.specs.declared.Schema.TheVariants.{Description}
use Rattle.names.proofs.Legality.AcceptedReadings.{any-input}
use Rattle.slots.proofs.FailingLaws.{accepted-few}
use Rattle.slots.proofs.failing.JudgingLaws.{failing-bottom, failing-found}
use Rattle.slots.proofs.failing.Supplier.judge.Goals as goal

pub returns-then-self : goal.returns-then-self
returns-then-self g c = (omega arith, tt, λ d h. failing-bottom c.args.self.ruled.lawful d _ h c.if-self.true)

pub first_failing_entry-requires : goal.first_failing_entry-requires
first_failing_entry-requires g c = (omega arith, (accepted-few 1 _ c.args.d.read, c.requires, c.args.self.right))

pub returns : goal.returns
returns g c =
    let f = c.first_failing_entry.ensures in
    let second = any-input Description 1 2 _ c.args.d.read in
    (omega (arith, f.0, (accepted-few 2 _ second).1), f.1, λ d h. failing-found c.args.self.ruled.lawful d _ h second c.if-self.false f.2)
