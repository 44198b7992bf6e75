-- `each` meets its contract: nothing fits the supplier, or the bytes are those of the entries that fail by its slots.
use native.Mathlib.Omega.{arith}
use Rattle.blocks.specs.declared.Schema.TheVariants.{Description}
use Rattle.names.proofs.Legality.AcceptedReadings.{any-input}
use Rattle.slots.proofs.FailingLaws.{accepted-few}
use Rattle.slots.proofs.each.EachLaws.{each-bottom, each-found, zeros-front}
use Rattle.slots.proofs.failing.Supplier.each.Goals as goal

pub slice_bounds-fill-end : goal.slice_bounds-fill-end
slice_bounds-fill-end g c = omega (arith, (accepted-few 1 _ c.args.d.read).1)

pub returns-then-self : goal.returns-then-self
returns-then-self g c = λ d h.
    let few = accepted-few 1 _ c.args.d.read in
    each-bottom c.args.self.ruled.lawful d _ h c.args.d.total c.args.bytes.now c.if-self.true few.0 (zeros-front _ _ (omega (arith, few.1, c.told-bytes)) (c.fill.ensures.after (λ y e. e)))

pub each_failing_entry-requires : goal.each_failing_entry-requires
each_failing_entry-requires g c = (omega arith, (accepted-few 1 _ c.args.d.read, c.requires, c.args.self.right))

pub returns : goal.returns
returns g c = λ d h.
    each-found c.args.self.ruled.lawful d _ h c.args.bytes.now (any-input Description 1 2 _ c.args.d.read) c.if-self.false c.each_failing_entry.ensures
