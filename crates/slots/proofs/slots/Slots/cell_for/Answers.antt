use Rattle.std.proofs.Common.{◌≡◌, ◌≤◌, ◌∙◌, sym, rules, arith}
use Rattle.base.proofs.WayLaws.{ends-found, ends-free, passed-more, passed_start}
use Rattle.slots.proofs.slots.Slots.cell_for.Goals.{then-s-eq0-via-else-s-eq0+then-key_in-key, then-s-eq0-via-then-s-eq0}
use Rattle.slots.proofs.slots.Slots.cell_for.Goals as goal

pub loop-bit-init : goal.loop-bit-init
loop-bit-init g c = passed_start (search rules)

pub offset_bounds-self-c : goal.offset_bounds-self-c
offset_bounds-self-c g c = omega (arith, c.args.self.kept.inside _ _ _ c.loop-bit.invariant, c.args.self.kept.small)

pub bounds-self-c : goal.bounds-self-c
bounds-self-c g c = omega (arith, c.args.self.sized, c.args.self.kept.inside _ _ _ c.loop-bit.invariant)

pub returns-then-s-eq0 : goal.returns-then-s-eq0
returns-then-s-eq0 g c =
    let i = c.loop-bit.invariant in
    let few : c.loop-bit.bit ≤ 23 = omega arith in (
      elim c.then-s-eq0.branch [
        | then-s-eq0-via-then-s-eq0 w ↦ ends-free i few (sym c.from-s.ensures ∙ w.if-s-eq0.true)
        | then-s-eq0-via-else-s-eq0+then-key_in-key w ↦ ends-found i few c.from-s.ensures (sym w.key_in.ensures.0 ∙ w.if-key_in-key.true)
      ],
      omega (arith, c.args.self.sized, c.args.self.kept.inside _ _ _ i),
    )

pub loop-bit-preserved : goal.loop-bit-preserved
loop-bit-preserved g c = passed-more c.loop-bit.invariant c.from-s.ensures c.if-s-eq0.false (λ q. c.if-key_in-key.false (c.key_in.ensures.0 ∙ q))

pub returns : goal.returns
returns g c =
    let i = c.loop-bit.invariant in
    let K = c.args.self.kept in
    let last : c.loop-bit.bit ≡ 23 = omega arith in (
      record {
        turns = c.loop-bit.bit;
        few = omega arith;
        passed = i;
        found = K.last c.args.key c.loop-bit.c c.requires (rw last at i);
      },
      omega (arith, c.args.self.sized, K.inside _ _ _ i),
    )
