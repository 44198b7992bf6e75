-- `sides` meets its contract: where the chain of the property's bucket ends, all its numbers are gathered.
use Rattle.std.proofs.Common.{◌≡◌, ◌∙◌, ◌+◌, ◌<◌, ◌≢◌, ℕ, Option, get_or, unwrap_or, IfSome, ap, subst, sym}
use Rattle.base.proofs.ChainLaws.{walk-falls, walk-goes}
use Rattle.base.proofs.Tests.{eqb-eq, eqb-ne}
use Rattle.base.specs.Chain.{OnChain}
use Rattle.pairs.proofs.IndexLaws.{partners-reached}
use Rattle.pairs.proofs.SidesLaws.{Walked, walked-end, walked-hit, walked-miss, walked-start}
use Rattle.pairs.specs.code.Index.{bucket_of, named_at, named_count}
use Rattle.pairs.proofs.exclusions.Exclusions.sides.Goals.{After-link-next, After-link-next-in-Some, In-Some, else-eq, then-eq}
use Rattle.pairs.proofs.exclusions.Exclusions.sides.Goals as goal

-- it begins at the last number of the bucket
first : (c : After-link-next) → unwrap_or c.link-next.result 0 ≡ get_or c.args.self.index.now (bucket_of c.args.p.0) 0
first c = c.link-next.ensures.number ∙ ap (λ (b : ℕ). get_or c.args.self.index.now b 0) c.bucket.ensures.0

pub loop-next-init : goal.loop-next-init
loop-next-init c =
    let a = c.args in
    let e = first (goal.at.loop-next-init c).After-link-next in
    record {
      on = partners-reached a.self.indexed a.p.0 e;
      number = c.link-next.ensures.some;
      walked = rw c.none-sides.ensures (walked-start a.self.indexed a.p.0 e);
    }

-- the number that is looked at
is_number : (c : In-Some) → c.in-Some.k ≢ 0
is_number c = subst (λ (o : Option ℕ). IfSome o (λ k. k ≢ 0)) c.in-Some.is c.loop-next.invariant.number

on_chain : (c : In-Some)
    → (let s = c.args.self in OnChain (λ j. bucket_of (named_at s.pairs.now j)) (bucket_of c.args.p.0) c.in-Some.k (named_count s.pairs.now))
on_chain c =
    let s = c.args.self in
    subst (λ (o : Option ℕ). OnChain (λ j. bucket_of (named_at s.pairs.now j)) (bucket_of c.args.p.0) (unwrap_or o 0) (named_count s.pairs.now)) c.in-Some.is c.loop-next.invariant.on

gathered : (c : In-Some) → Walked c.args.self.pairs.now c.args.p.0 c.in-Some.k c.loop-next.sides
gathered c = subst (λ (o : Option ℕ). Walked c.args.self.pairs.now c.args.p.0 (unwrap_or o 0) c.loop-next.sides) c.in-Some.is c.loop-next.invariant.walked

-- the number before it
before : (c : After-link-next-in-Some) → unwrap_or c.link-next-in-Some.result 0 ≡ get_or c.args.self.index.now (256 + c.in-Some.k) 0
before c = c.link-next-in-Some.ensures.number ∙ ap (λ (k : ℕ). get_or c.args.self.index.now (256 + k) 0) c.from-in-Some.ensures

pub loop-next-smaller : goal.loop-next-smaller
loop-next-smaller c =
    let d = (goal.at.loop-next-smaller c).In-Some in
    let number = ap (λ (o : Option ℕ). unwrap_or o 0) c.in-Some.is in
    subst (λ (k : ℕ). unwrap_or c.link-next-in-Some.result 0 < k) (sym number)
    (walk-falls c.args.self.indexed.chains (bucket_of c.args.p.0) (on_chain d) (is_number d) (before (goal.at.loop-next-smaller c).After-link-next-in-Some))

pub loop-next-preserved : goal.loop-next-preserved
loop-next-preserved c =
    let I = c.args.self.indexed in
    let d = (goal.at.loop-next-preserved c).In-Some in
    let e = before (goal.at.loop-next-preserved c).After-link-next-in-Some in
    let looked = c.named_at.ensures ∙ ap (named_at c.args.self.pairs.now) c.from.ensures in
    record {
      on = walk-goes I.chains (bucket_of c.args.p.0) (on_chain d) (is_number d) e;
      number = c.link-next-in-Some.ensures.some;
      walked = elim c.if-eq.branch [
        | then-eq w ↦
            rw (w.sides-is, w.join-sides.ensures)
            (walked-hit I c.args.p.0 (on_chain d) (is_number d) e w.of_number.result (gathered d) (sym looked ∙ eqb-eq (sym c.eq.ensures ∙ w.if-eq.true)) w.of_number.ensures.first w.of_number.ensures.second)
        | else-eq w ↦
            rw w.sides-is
            (walked-miss I c.args.p.0 (on_chain d) (is_number d) e (gathered d) (λ z. eqb-ne (sym c.eq.ensures ∙ w.if-eq.false) (looked ∙ z)))
      ];
    }

pub returns : goal.returns
returns c = walked-end c.args.self.indexed c.args.p.0 c.loop-next.invariant.walked (ap (λ (o : Option ℕ). unwrap_or o 0) c.in_default.is)
