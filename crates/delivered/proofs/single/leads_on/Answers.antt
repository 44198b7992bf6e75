-- `leads_on` meets its contract: an earlier single link of the owner is there exactly where its key has a number.
use Rattle.std.proofs.Common.{◌≡◌, ◌∙◌, ap, length, not, sym, arith, rules}
use Rattle.base.proofs.Tests.{confirmed, refuted}
use Rattle.delivered.proofs.NotedLaws.{met-many, met-noted, new-many, new-noted, noted-other, other-fine}
use Rattle.delivered.proofs.single.leads_on.Goals as goal

pub returns-then-not-single_link-clause-noted : goal.returns-then-not-single_link-clause-noted
returns-then-not-single_link-clause-noted g c =
    let q = refuted c.single_link.ensures (ap not c.if-not-single_link.true) in
    λ es n at N. (other-fine es n at q, λ z. noted-other N at q)

pub offset_bounds-leads-k : goal.offset_bounds-leads-k
offset_bounds-leads-k g c =
    let m = met-many _ _ _ c.enter.ensures.0 c.enter.ensures.1 c.in-Some.is in
    omega (arith, m.2, c.requires.1, c.requires.3)

pub bounds-leads-k : goal.bounds-leads-k
bounds-leads-k g c =
    let m = met-many _ _ _ c.enter.ensures.0 c.enter.ensures.1 c.in-Some.is in
    omega (arith, m.1, m.2, c.requires.1)

pub returns-in-Some-clause-noted : goal.returns-in-Some-clause-noted
returns-in-Some-clause-noted g c =
    let q = confirmed c.single_link.ensures (ap not c.if-not-single_link.false) in
    let k = c.key_of.ensures in
    λ es n at N. met-noted N at q k.1 _ _ k.0 c.enter.ensures.0 c.enter.ensures.1 c.in-Some.is

pub returns-in-Some-clause-used : goal.returns-in-Some-clause-used
returns-in-Some-clause-used g c = c.requires.2 ∙ (met-many _ _ _ c.enter.ensures.0 c.enter.ensures.1 c.in-Some.is).0

pub returns-in-None-clause-noted : goal.returns-in-None-clause-noted
returns-in-None-clause-noted g c =
    let q = confirmed c.single_link.ensures (ap not c.if-not-single_link.false) in
    let k = c.key_of.ensures in
    let long : length c.args.leads.now.items ≡ g.row.KEYS = search rules in
    λ es n at N.
    let r = new-noted N at q k.1 _ _ k.0 c.enter.ensures.0 c.enter.ensures.1 c.in-None.is c.requires.0 (omega (arith, c.requires.1, long)) c.requires.2 in
    (r.0, λ z. r.1)

pub returns-in-None-clause-used : goal.returns-in-None-clause-used
returns-in-None-clause-used g c = omega (arith, c.requires.2, new-many _ _ _ c.enter.ensures.0 c.enter.ensures.1 c.in-None.is c.requires.0)
