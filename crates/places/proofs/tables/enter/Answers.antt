-- `enter` meets its contract.
use Rattle.std.proofs.Common.{◌≡◌, ◌≢◌, ◌+◌, ◌<◌, ◌≤◌, ℕ, ap, sym, ◌∙◌, length, length-set, get_or, get_or-set_other, get_or-set_same, arith}
use Rattle.base.proofs.Tests.{eq-cases}
use Rattle.blocks.proofs.Refusing.PassLaws.{Now, begun, ended, turned}
use Rattle.blocks.specs.Entries.{entries_of, nth, zero_entry}
use Rattle.places.proofs.tables.enter.Goals as goal
use Rattle.places.proofs.tables.enter.Goals.{In-Some}

-- the turn: which entry it has
here : (c : In-Some) → Now c.args.d.now c.args.total c.loop-before.yielded c.in-Some.before c.in-Some.bytes
here c = turned c.loop-before.invariant.over _ _ c.loop-before.yielded_by c.next.new.self c.in-Some.is c.next.ensures.steps

pub loop-before-init : goal.loop-before-init
unfolding nth
loop-before-init c =
    let n = c.enumerate-before-items.ensures in
    let d = c.default.ensures in
    let e : c.default.result ≡ zero_entry = rw (d.0, d.1.0, d.1.1.0, d.1.1.1.0, d.1.1.1.1) in
    let o = begun (omega (arith, c.requires.0)) (omega (arith, c.requires.1)) c.requires.2 c.entries_in_order.ensures.items n.source n.count c.into_iter-before-iterator.ensures.into_iter_gives in
    record {
      goes = (tt, tt, o.1);
      ends = tt;
      over = o.0;
      size = rw (length-set c.args.entries.now 0 c.default.result) c.requires.3;
      first_size = rw (length-set c.args.first.now 0 0) c.requires.4;
      done = λ j h. let z : j ≡ 0 = omega arith in rw z (get_or-set_same c.args.entries.now 0 c.default.result zero_entry (omega (arith, c.requires.3)) ∙ e);
      empty = λ j h. let z : j ≡ 0 = omega arith in rw z (get_or-set_same c.args.first.now 0 0 0 (omega (arith, c.requires.4)));
    }

pub offset_bounds-entries-before : goal.offset_bounds-entries-before
offset_bounds-entries-before c =
    let h = here (goal.at.offset_bounds-entries-before c).In-Some in
    omega (arith, h.before, c.requires.1)

pub offset_bounds-first-before : goal.offset_bounds-first-before
offset_bounds-first-before c =
    let h = here (goal.at.offset_bounds-first-before c).In-Some in
    omega (arith, h.before, c.requires.1)

pub bounds-entries-before : goal.bounds-entries-before
bounds-entries-before c =
    let h = here (goal.at.bounds-entries-before c).In-Some in
    omega (arith, h.before, c.loop-before.invariant.size)

pub bounds-first-before : goal.bounds-first-before
bounds-first-before c =
    let h = here (goal.at.bounds-first-before c).In-Some in
    omega (arith, h.before, c.loop-before.invariant.first_size)

pub loop-before-preserved : goal.loop-before-preserved
loop-before-preserved c =
    let h = here (goal.at.loop-before-preserved c).In-Some in
    let i = c.loop-before.invariant in
    let k = c.in-Some.before in
    let es = c.loop-before.entries in
    let e = c.from.result in
    let x : e ≡ nth (entries_of c.args.d.now) (k + 1) = c.from.ensures ∙ h.entry in
    let old = rw (← h.same) at i.done in
    let none = rw (← h.same) at i.empty in
    record {
      goes = c.in-Some.ensures.goes.keeps;
      ends = tt;
      over = i.over;
      size = rw (length-set es (k + 1) e) i.size;
      first_size = rw (length-set c.loop-before.first (k + 1) 0) i.first_size;
      done = rw h.more (λ j l. eq-cases j (k + 1)
          (λ z. rw z (get_or-set_same es (k + 1) e zero_entry (omega (arith, i.size, h.before)) ∙ x))
          (λ z. get_or-set_other es (k + 1) j e zero_entry z ∙ old j (omega arith)));
      empty = rw h.more (λ j l. eq-cases j (k + 1)
          (λ z. rw z (get_or-set_same c.loop-before.first (k + 1) 0 0 (omega (arith, i.first_size, h.before))))
          (λ z. get_or-set_other c.loop-before.first (k + 1) j 0 0 z ∙ none j (omega arith)));
    }

pub returns-clause-numbered : goal.returns-clause-numbered
returns-clause-numbered c = λ k h.
    let l = c.loop-before in
    let n = ended l.invariant.over _ _ l.yielded_by c.next.new.self c.in-None.is c.next.ensures.steps in
    l.invariant.done k (omega (arith, n))

pub returns-clause-empty : goal.returns-clause-empty
returns-clause-empty c = λ k h.
    let l = c.loop-before in
    let n = ended l.invariant.over _ _ l.yielded_by c.next.new.self c.in-None.is c.next.ensures.steps in
    l.invariant.empty k (omega (arith, n))
