use Rattle.std.proofs.Common.{◌≡◌, ◌+◌, ◌<◌, ℕ, List, ap, sym, ◌∙◌, length, length-set, get_or, get_or-set_other, get_or-set_same, below_more, arith}
use Rattle.blocks.proofs.Refusing.PassLaws.{Now, begun, ended, turned}
use Rattle.blocks.specs.Entries.{entries_of, nth}
use Rattle.items.proofs.RecordLaws.{facts-listed, small-sorted}
use Rattle.items.specs.code.Record.{fact_of}
use Rattle.items.proofs.facts.gather.Goals as goal
use Rattle.items.proofs.facts.gather.Goals.{In-Some}

below_ne : {j i : ℕ} → j < i → j ≡ i → ⊥
below_ne l q = omega arith

-- the turn: which entry it has
here : (c : In-Some) → Now c.args.delivered.bytes.now c.args.delivered.entries c.loop-before.yielded c.in-Some.before c.in-Some.bytes
here c = turned c.loop-before.invariant.over _ _ c.loop-before.yielded_by c.next.new.self c.in-Some.is c.next.ensures.steps

pub loop-before-init : goal.loop-before-init
loop-before-init c =
    let r = c.args.delivered in
    let n = c.enumerate-before-items.ensures in
    let many : c.entries.result ≡ r.entries = c.entries.ensures ∙ sym r.counted in
    let o = begun {s = r.bytes.now} {n = r.entries} (omega (arith, r.counted)) (omega (arith, r.few)) r.whole (c.entries_in_order.ensures.items ∙ rw (c.bytes.ensures, many)) n.source n.count c.into_iter-before-iterator.ensures.into_iter_gives in
    record { goes = (tt, tt, o.1); ends = tt; over = o.0; size = c.requires; done = λ j l. absurd (omega arith); small = λ j l. absurd (omega arith) }

pub offset_bounds-facts-before : goal.offset_bounds-facts-before
offset_bounds-facts-before c =
    let h = here (goal.at.offset_bounds-facts-before c).In-Some in
    omega (arith, h.before, c.args.delivered.few)

pub bounds-facts-before : goal.bounds-facts-before
bounds-facts-before c =
    let h = here (goal.at.bounds-facts-before c).In-Some in
    omega (arith, h.before, c.loop-before.invariant.size)

pub loop-before-preserved : goal.loop-before-preserved
loop-before-preserved c =
    let h = here (goal.at.loop-before-preserved c).In-Some in
    let i = c.loop-before.invariant in
    let k = c.in-Some.before in
    let x : c.fact_of.result ≡ fact_of (nth (entries_of c.args.delivered.bytes.now) (k + 1)) = c.fact_of.ensures.0 ∙ ap fact_of (c.from.ensures ∙ h.entry) in
    let same = get_or-set_same c.loop-before.facts k c.fact_of.result 0 (omega (arith, i.size, h.before)) in
    let old = rw (← h.same) at i.done in
    let few = rw (← h.same) at i.small in
    record {
      goes = c.in-Some.ensures.goes.keeps;
      ends = tt;
      over = i.over;
      size = length-set _ _ _ ∙ i.size;
      done = rw h.more (below_more _ _ (λ j l. get_or-set_other c.loop-before.facts k j c.fact_of.result 0 (λ q. below_ne l q) ∙ old j l) (same ∙ x));
      small = rw h.more (below_more _ _ (λ j l. rw (get_or-set_other c.loop-before.facts k j c.fact_of.result 0 (λ q. below_ne l q)) (few j l)) (rw same c.fact_of.ensures.1));
    }

pub returns-clause-sorted : goal.returns-clause-sorted
returns-clause-sorted c =
    let l = c.loop-before in
    let i = l.invariant in
    let n = ended i.over _ _ l.yielded_by c.next.new.self c.in-None.is c.next.ensures.steps in
    let r = c.args.delivered in
    rw (c.sort.ensures, facts-listed l.facts (entries_of r.bytes.now) (i.size ∙ r.counted) (λ j m. i.done j (omega (arith, r.counted, n))))

pub returns-clause-small : goal.returns-clause-small
returns-clause-small c =
    let l = c.loop-before in
    let i = l.invariant in
    let n = ended i.over _ _ l.yielded_by c.next.new.self c.in-None.is c.next.ensures.steps in
    rw c.sort.ensures (small-sorted 1099511627776 l.facts (λ j m. i.small j (omega (arith, i.size, n))))
