-- `keep_meeting` meets its contract, kind by kind.
use Rattle.std.proofs.Common.{◌≡◌, ◌∙◌, ap, sym, Bool, ◌&&◌, not, leb, ℕ, refl, arith, get_or, false}
use Rattle.base.proofs.Tests.{and_zero}
use Rattle.std.proofs.lemmas.List.{get_or-replicate}
use Rattle.items.proofs.MeetLaws.{meets-has, meets-lacks, meets-least, meets-most, meets-nothing, property-has, successors-degree}
use Rattle.items.specs.code.Record.{record_in}
use Rattle.items.proofs.judge.keep_meeting.Goals as goal

pub count_targets-requires : goal.count_targets-requires
count_targets-requires c = (c.saying-in-3.ensures.alike, λ x h. get_or-replicate 256 x _ _ h)

pub count_targets-requires-in-4 : goal.count_targets-requires-in-4
count_targets-requires-in-4 c = (c.saying-in-4.ensures.alike, λ x h. get_or-replicate 256 x _ _ h)

pub returns-in-1 : goal.returns-in-1
returns-in-1 c = λ x h.
    let F = c.args.facts.facts.now in let e = c.args.e in
    rw (meets-has (record_in F) e x c.in-1.is, ← property-has F _ _ c.saying.ensures.those e.name x c.giving.ensures) (c.keep_having.ensures x h)

pub returns-in-2 : goal.returns-in-2
returns-in-2 c = λ x h.
    let F = c.args.facts.facts.now in let e = c.args.e in
    rw (meets-lacks (record_in F) e x c.in-2.is, ← property-has F _ _ c.saying-in-2.ensures.those e.name x c.giving-in-2.ensures) (c.keep_lacking.ensures x h)

pub returns-in-3 : goal.returns-in-3
returns-in-3 c = λ x h.
    let F = c.args.facts.facts.now in let e = c.args.e in
    rw (meets-least (record_in F) e x c.in-3.is, successors-degree F _ _ c.saying-in-3.ensures.those e.name x c.linking.ensures, ← c.count_targets.ensures x h) (c.keep_least.ensures x h)

pub returns-in-4 : goal.returns-in-4
returns-in-4 c = λ x h.
    let F = c.args.facts.facts.now in let e = c.args.e in
    rw (meets-most (record_in F) e x c.in-4.is, successors-degree F _ _ c.saying-in-4.ensures.those e.name x c.linking-in-4.ensures, ← c.count_targets-in-4.ensures x h) (c.keep_most.ensures x h)

pub returns-in_default : goal.returns-in_default
returns-in_default c = λ x h.
    let n = meets-nothing (record_in c.args.facts.facts.now) c.args.e x (λ z. omega arith) (λ z. omega arith) (λ z. omega arith) (λ z. omega arith) in
    rw (n, and_zero (get_or c.args.marks.now x false)) (get_or-replicate 256 x false false h)
