-- `give` meets its contract: the entry counts, or alters nothing.
use Rattle.std.proofs.Common.{◌∙◌, ℕ, eqb, length, ap, not, subst, arith}
use Rattle.base.proofs.Tests.{confirmed, refuted}
use Rattle.clashes.proofs.Completing.{counted-below, given-counted, given-other}
use Rattle.pairs.specs.code.Sides.{Marks}
use Rattle.clashes.proofs.clash.give.Goals as goal

pub returns-then-not-counts : goal.returns-then-not-counts
returns-then-not-counts c = λ es n G at.
    given-other _ es n at c.args.exclusions.indexed c.args.given.now G (refuted c.counts.ensures (ap not c.if-not-counts.true))

pub slice_copy_out-before : goal.slice_copy_out-before
slice_copy_out-before c =
    omega (arith, c.from-o.ensures, counted-below _ (length c.args.given.now) c.args.e (confirmed c.counts.ensures (ap not c.if-not-counts.false)))

pub bounds-given-o : goal.bounds-given-o
bounds-given-o c =
    omega (arith, c.from-o.ensures, counted-below _ (length c.args.given.now) c.args.e (confirmed c.counts.ensures (ap not c.if-not-counts.false)))

pub returns : goal.returns
returns c = λ es n G at.
    let P = c.args.exclusions.pairs.now in
    let named = subst (λ (p : ℕ). Marks P (λ q. eqb q p) c.sides-sides.result) c.property.ensures c.sides-sides.ensures in
    let counts = confirmed c.counts.ensures (ap not c.if-not-counts.false) in
    let r = given-counted P es n at c.args.exclusions.indexed c.args.given.now G counts c.from-o.ensures named in
    (c.excludes.ensures ∙ r.0, rw c.join.ensures r.1)
