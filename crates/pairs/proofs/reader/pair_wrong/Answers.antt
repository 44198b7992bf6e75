-- `pair_wrong` meets its contract, test by test.
use Rattle.std.proofs.Common.{◌≡◌, ◌∙◌, inl, inr}
use Rattle.base.proofs.Tests.{eq-eqb}
use Rattle.pairs.proofs.Partners.{first-named, second-named}
use Rattle.pairs.proofs.reader.PairLaws.{equal-decides, one-zero, other-zero}
use Rattle.pairs.specs.Pairs.{one_of, other_of}
use Rattle.pairs.proofs.reader.pair_wrong.Goals.{After-named_at-b, then-a-eq0, else-a-eq0}
use Rattle.pairs.proofs.reader.pair_wrong.Goals as goal

one : (c : After-named_at-b) → c.named_at-a.result.0 ≡ one_of c.args.pairs.now c.args.i
one c = c.named_at-a.ensures ∙ first-named c.args.pairs.now c.args.i c.requires.0

other : (c : After-named_at-b) → c.named_at-b.result.0 ≡ other_of c.args.pairs.now c.args.i
other c = c.named_at-b.ensures ∙ second-named c.args.pairs.now c.args.i c.requires.0

pub returns-then-b-eq0 : goal.returns-then-b-eq0
returns-then-b-eq0 c =
    let d = (goal.at.returns-then-b-eq0 c).After-named_at-b in
    elim c.if-a-eq0.branch [
      | then-a-eq0 w ↦ let e = one-zero _ _ (one d) (other d) w.if-a-eq0.true in cc
      | else-a-eq0 w ↦ elim c.if-b-eq0.either [
        | inl z ↦ absurd (w.if-a-eq0.false z)
        | inr y ↦ let e = other-zero _ _ (one d) (other d) y.0 y.1 in let t = eq-eqb y.1 in cc
      ]
    ]

pub returns-else-b-eq0 : goal.returns-else-b-eq0
returns-else-b-eq0 c =
    let d = (goal.at.returns-else-b-eq0 c).After-named_at-b in
    equal-decides _ _ (one d) (other d) c.if-b-eq0.false.0 c.if-b-eq0.false.1
