-- `fill_accepted` meets its contract: too short, or cleared and filled.
use lib.ListN.{length, replicate}
use mathlib.Core.Path.{◌≡◌}
use native.Mathlib.Omega.{arith}
use borrow.Author.Rules.{rules}
use Rattle.pairs.specs.Pairs.{under}
use Rattle.slots.proofs.PassLaws.{blank-zeros}
use Rattle.slots.proofs.filling.FillingLaws.{filling-accepted, filling-short}
use Rattle.slots.proofs.filling.fill_accepted.Goals as goal

pub returns-then-min-d : goal.returns-then-min-d
returns-then-min-d c = filling-short (under _) _ c.args.d.read _ _ _ (omega (arith, c.if-min-d.true, c.min-2.ensures, c.min.ensures))

pub settled_slots-requires : goal.settled_slots-requires
settled_slots-requires c =
    let r = c.if-min-d.false in
    let a = c.min-2.ensures in
    let b = c.min.ensures in
    let bad : c.fill.new.self ≡ replicate (length c.args.bad.now) 0 = c.fill.ensures.after (λ y h. search rules) in
    let full : c.fill-2.new.self ≡ replicate (length c.args.full.now) 0 = c.fill-2.ensures.after (λ y h. search rules) in (
      omega (arith, r, a, b),
      rw bad (blank-zeros _ _ (omega (arith, r, a, b))),
      rw full (blank-zeros _ _ (omega (arith, r, a, b))),
    )

pub returns : goal.returns
returns c =
    let s = c.settled_slots in
    filling-accepted (under _) c.args.d.bytes.now c.args.d.read c.args.table.now c.args.bad.now c.args.full.now (omega (arith, c.if-min-d.false, c.min-2.ensures, c.min.ensures)) s.ensures.0 s.ensures.1
    (omega (arith, s.auto, c.fill.ensures.len)) (omega (arith, s.auto, c.fill-2.ensures.len))
