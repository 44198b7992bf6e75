-- `excluded_beside` meets its contract: where the chain of the property's bucket ends, no partner is held.
use Rattle.std.proofs.Common.{◌≡◌, ◌∙◌, ◌+◌, ◌<◌, ◌≢◌, ℕ, Bool, Option, get_or, unwrap_or, IfSome, ap, subst, sym, refl}
use Rattle.base.proofs.ChainLaws.{walk-falls, walk-goes}
use Rattle.base.proofs.Tests.{eqb-eq, eqb-ne}
use Rattle.base.specs.Chain.{OnChain}
use Rattle.pairs.proofs.BesideLaws.{held-end, held-here, held-miss, held-other, held-start}
use Rattle.pairs.proofs.IndexLaws.{partners-reached}
use Rattle.pairs.specs.code.Index.{bucket_of, named_at, named_count, partnered}
use Rattle.pairs.specs.code.Sides.{Marks}
use Rattle.pairs.proofs.exclusions.Exclusions.excluded_beside.Goals.{After-link-next, After-link-next-in-Some, In-Some, else-eq-via-else-eq, else-eq-via-then-eq+else-has_beside}
use Rattle.pairs.proofs.exclusions.Exclusions.excluded_beside.Goals as goal

-- it begins at the last number of the bucket
first : (c : After-link-next) → unwrap_or c.link-next.result 0 ≡ get_or c.args.self.index.now (bucket_of c.args.p.0) 0
first c = c.link-next.ensures.number ∙ ap (λ (b : ℕ). get_or c.args.self.index.now b 0) c.bucket.ensures.0

pub loop-next-init : goal.loop-next-init
loop-next-init c =
    let a = c.args in
    let e = first (goal.at.loop-next-init c).After-link-next in
    record {
      on = partners-reached a.self.indexed a.p.0 e;
      number = c.link-next.ensures.some;
      left = λ has M. held-start a.self.indexed has a.p.0 e;
    }

-- the number that is looked at
is_number : (c : In-Some) → c.in-Some.k ≢ 0
is_number c = subst (λ (o : Option ℕ). IfSome o (λ k. k ≢ 0)) c.in-Some.is c.loop-next.invariant.number

on_chain : (c : In-Some)
    → (let s = c.args.self in OnChain (λ j. bucket_of (named_at s.pairs.now j)) (bucket_of c.args.p.0) c.in-Some.k (named_count s.pairs.now))
on_chain c =
    let s = c.args.self in
    subst (λ (o : Option ℕ). OnChain (λ j. bucket_of (named_at s.pairs.now j)) (bucket_of c.args.p.0) (unwrap_or o 0) (named_count s.pairs.now)) c.in-Some.is c.loop-next.invariant.on

-- what is left is that of the number
left : (c : In-Some) (has : ℕ → Bool) → Marks c.args.self.pairs.now has c.args.held
    → partnered c.args.self.pairs.now has c.args.p.0 c.in-Some.k ≡ partnered c.args.self.pairs.now has c.args.p.0 (named_count c.args.self.pairs.now)
left c has M =
    let s = c.args.self in
    ap (λ (o : Option ℕ). partnered s.pairs.now has c.args.p.0 (unwrap_or o 0)) (sym c.in-Some.is) ∙ c.loop-next.invariant.left has M

-- the number before it
before : (c : After-link-next-in-Some) → unwrap_or c.link-next-in-Some.result 0 ≡ get_or c.args.self.index.now (256 + c.in-Some.k) 0
before c = c.link-next-in-Some.ensures.number ∙ ap (λ (k : ℕ). get_or c.args.self.index.now (256 + k) 0) c.from-in-Some.ensures

pub loop-next-smaller : goal.loop-next-smaller
loop-next-smaller c =
    let d = (goal.at.loop-next-smaller c).In-Some in
    let number = ap (λ (o : Option ℕ). unwrap_or o 0) c.in-Some.is in
    subst (λ (k : ℕ). unwrap_or c.link-next-in-Some.result 0 < k) (sym number)
    (walk-falls c.args.self.indexed.chains (bucket_of c.args.p.0) (on_chain d) (is_number d) (before (goal.at.loop-next-smaller c).After-link-next-in-Some))

pub loop-next-preserved : goal.loop-next-preserved
loop-next-preserved c =
    let I = c.args.self.indexed in
    let d = (goal.at.loop-next-preserved c).In-Some in
    let e = before (goal.at.loop-next-preserved c).After-link-next-in-Some in
    let looked = c.named_at.ensures ∙ ap (named_at c.args.self.pairs.now) c.from.ensures in
    let bound = (on_chain d).bound in
    record {
      on = walk-goes I.chains (bucket_of c.args.p.0) (on_chain d) (is_number d) e;
      number = c.link-next-in-Some.ensures.some;
      left = λ has M. elim c.else-eq.branch [
        | else-eq-via-then-eq+else-has_beside w ↦
            sym (held-other I has c.args.p.0 (on_chain d) (is_number d) e (sym looked ∙ eqb-eq (sym c.eq.ensures ∙ w.if-eq.true))
            (sym (w.has_beside.ensures c.args.self.pairs.now has M bound) ∙ w.if-has_beside.false))
            ∙ left d has M
        | else-eq-via-else-eq w ↦
            sym (held-miss I has c.args.p.0 (on_chain d) (is_number d) e (λ z. eqb-ne (sym c.eq.ensures ∙ w.if-eq.false) (looked ∙ z)))
            ∙ left d has M
      ];
    }

pub returns-then-has_beside : goal.returns-then-has_beside
returns-then-has_beside c = λ has M.
    let I = c.args.self.indexed in
    let d = (goal.at.returns-then-has_beside c).In-Some in
    let looked = c.named_at.ensures ∙ ap (named_at c.args.self.pairs.now) c.from.ensures in
    sym (held-here I has c.args.p.0 (on_chain d) (is_number d) refl (sym looked ∙ eqb-eq (sym c.eq.ensures ∙ c.if-eq.true))
    (sym (c.has_beside.ensures c.args.self.pairs.now has M (on_chain d).bound) ∙ c.if-has_beside.true))
    ∙ left d has M

pub returns : goal.returns
returns c = λ has M.
    sym (held-end c.args.self.indexed has c.args.p.0 (ap (λ (o : Option ℕ). unwrap_or o 0) c.in_default.is)) ∙ c.loop-next.invariant.left has M
