use Rattle.std.proofs.Common.{◌≡◌, ◌≤◌, ◌∙◌, sym, rules, arith}
use Rattle.std.proofs.Math.Facts.{Fits-lt-pow}
use Rattle.base.proofs.WayLaws.{ends-found, ends-free, ends-last, passed-inside, passed-more, passed_start}
use Rattle.firsts.proofs.HeldLaws.{key-at, key-below}
use Rattle.firsts.proofs.firsts.cell_for.Goals.{then-n-eq0-via-else-n-eq0+then-keys-n, then-n-eq0-via-then-n-eq0}
use Rattle.firsts.proofs.firsts.cell_for.Goals as goal

pub loop-bit-init : goal.loop-bit-init
loop-bit-init g c = passed_start c.start_of-c.ensures

pub offset_bounds-cells-c : goal.offset_bounds-cells-c
offset_bounds-cells-c g c =
    let inside = passed-inside c.loop-bit.invariant c.requires.planted in
    omega (arith, c.requires.small)

pub bounds-cells-c : goal.bounds-cells-c
bounds-cells-c g c = omega (arith, c.told-cells, passed-inside c.loop-bit.invariant c.requires.planted)

pub returns-then-n-eq0 : goal.returns-then-n-eq0
returns-then-n-eq0 g c =
    let i = c.loop-bit.invariant in
    let few : c.loop-bit.bit ≤ 32 = omega arith in (
      elim c.then-n-eq0.branch [
        | then-n-eq0-via-then-n-eq0 w ↦ ends-free i few (sym c.from-n.ensures ∙ w.if-n-eq0.true)
        | then-n-eq0-via-else-n-eq0+then-keys-n w ↦
            ends-found i few c.from-n.ensures (key-at c.requires i c.from-n.ensures w.if-n-eq0.false ∙ w.if-keys-n.true)
      ],
      passed-inside i c.requires.planted,
    )

pub loop-bit-preserved : goal.loop-bit-preserved
loop-bit-preserved g c =
    let i = c.loop-bit.invariant in
    let own = key-at c.requires i c.from-n.ensures c.if-n-eq0.false in
    passed-more i c.from-n.ensures c.if-n-eq0.false (λ q. c.if-keys-n.false (sym own ∙ q))

pub returns : goal.returns
returns g c =
    let i = c.loop-bit.invariant in
    let R = c.requires.planted in
    let last : c.loop-bit.bit ≡ 32 = omega arith in
    let own = key-below c.requires _ (λ j. Fits-lt-pow (c.type_inv.keys j)) in
    (ends-last R (Fits-lt-pow c.ranges.key) own (rw last at i), passed-inside i R)

pub start_of-c-requires : goal.start_of-c-requires
start_of-c-requires g c = omega (arith, c.requires.planted.parting.inside 0)
