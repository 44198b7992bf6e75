use Rattle.std.proofs.Common.{◌≡◌, ◌∙◌, ◌+◌, ◌<◌, ◌≢◌, ◌∷◌, ℕ, Option, length, get_or, unwrap_or, IfSome, ap, subst, sym, rules}
use Rattle.base.specs.Chain.{OnChain}
use Rattle.base.proofs.Tests.{eqb-eq, eqb-ne}
use Rattle.pairs.proofs.IndexLaws.{partners-end, partners-falls, partners-goes, partners-hit, partners-miss}
use Rattle.pairs.specs.code.Index.{bucket_of, named_at, named_count, partners}
use Rattle.pairs.proofs.exclusions.ExcludersIterator.next.Goals.{After-beside, After-link-self, After-named_at}
use Rattle.pairs.proofs.exclusions.ExcludersIterator.next.Goals as goal

-- the number that is looked at
is_number : (c : After-link-self) → c.in-Some.k ≢ 0
is_number c = subst (λ (o : Option ℕ). IfSome o (λ k. k ≢ 0)) c.in-Some.is c.loop-self.self.number

on_chain : (c : After-link-self)
    → (let s = c.loop-self.self in OnChain (λ j. bucket_of (named_at s.all.pairs.now j)) (bucket_of s.of.0) c.in-Some.k (named_count s.all.pairs.now))
on_chain c =
    let s = c.loop-self.self in
    subst (λ (o : Option ℕ). OnChain (λ j. bucket_of (named_at s.all.pairs.now j)) (bucket_of s.of.0) (unwrap_or o 0) (named_count s.all.pairs.now)) c.in-Some.is s.reached

-- the number before it
before : (c : After-link-self) → unwrap_or c.link-self.result 0 ≡ get_or c.loop-self.self.all.index.now (256 + c.in-Some.k) 0
before c = c.link-self.ensures.number ∙ ap (λ (k : ℕ). get_or c.loop-self.self.all.index.now (256 + k) 0) c.from.ensures

-- what is left begins with that number
left : (c : After-link-self)
    → partners c.args.self.now.all.pairs.now c.args.self.now.of.0 (unwrap_or c.args.self.now.next 0) ≡ partners c.loop-self.self.all.pairs.now c.loop-self.self.of.0 c.in-Some.k
left c =
    let s = c.loop-self.self in
    c.loop-self.invariant.left ∙ ap (λ (o : Option ℕ). partners s.all.pairs.now s.of.0 (unwrap_or o 0)) c.in-Some.is

looked : (c : After-named_at) → c.named_at.result.0 ≡ named_at c.loop-self.self.all.pairs.now c.in-Some.k
looked c = c.named_at.ensures ∙ ap (named_at c.loop-self.self.all.pairs.now) c.from-in-Some.ensures

pub invariant_of-self : goal.invariant_of-self
invariant_of-self c =
    let s = c.loop-self.self in
    let d = (goal.at.invariant_of-self c).After-link-self in
    record { reached = partners-goes s.all.indexed s.of.0 (on_chain d) (is_number d) (before d); number = c.link-self.ensures.some }

-- what is given is the first of those left, and the others stay
given : (c : After-beside) → partners c.args.self.now.all.pairs.now c.args.self.now.of.0 (unwrap_or c.args.self.now.next 0)
    ≡ c.beside.result.0 ∷ partners c.loop-self.self.all.pairs.now c.loop-self.self.of.0 (unwrap_or c.link-self.result 0)
given c =
    let s = c.loop-self.self in
    let d = (goal.at.returns-then-eq-clause-steps c).After-link-self in
    let here = looked (goal.at.returns-then-eq-clause-steps c).After-named_at in
    left d ∙ partners-hit s.all.indexed s.of.0 (on_chain d) (is_number d) (before d) (sym here ∙ eqb-eq (sym c.eq.ensures ∙ c.if-eq.true))
    ∙ ap (λ (q : ℕ). q ∷ partners s.all.pairs.now s.of.0 (unwrap_or c.link-self.result 0)) (sym c.beside.ensures)

pub returns-then-eq-clause-steps : goal.returns-then-eq-clause-steps
returns-then-eq-clause-steps c = given c

pub returns-then-eq-clause-goes : goal.returns-then-eq-clause-goes
returns-then-eq-clause-goes c = let fewer = ap length (given c) in search rules

pub loop-self-smaller : goal.loop-self-smaller
loop-self-smaller c =
    let s = c.loop-self.self in
    let d = (goal.at.loop-self-smaller c).After-link-self in
    let number = ap (λ (o : Option ℕ). unwrap_or o 0) c.in-Some.is in
    subst (λ (k : ℕ). unwrap_or c.link-self.result 0 < k) (sym number) (partners-falls s.all.indexed s.of.0 (on_chain d) (is_number d) (before d))

pub loop-self-preserved : goal.loop-self-preserved
loop-self-preserved c =
    let s = c.loop-self.self in
    let d = (goal.at.loop-self-preserved c).After-link-self in
    let here = looked (goal.at.loop-self-preserved c).After-named_at in
    record {
      all_same = c.loop-self.invariant.all_same;
      of_same = c.loop-self.invariant.of_same;
      left = left d ∙ partners-miss s.all.indexed s.of.0 (on_chain d) (is_number d) (before d) (λ z. eqb-ne (sym c.eq.ensures ∙ c.if-eq.false) (here ∙ z));
    }

pub returns-clause-steps : goal.returns-clause-steps
returns-clause-steps c =
    let s = c.loop-self.self in
    let none = partners-end s.all.pairs.now s.of.0 (ap (λ (o : Option ℕ). unwrap_or o 0) c.in_default.is) in
    (c.loop-self.invariant.left ∙ none, none)
