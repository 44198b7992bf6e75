use Rattle.std.proofs.Common.{◌≡◌, ◌+◌, ◌-◌, ◌<◌, ℕ, suc, sym, ap, get_or, length, ◌∙◌, arith}
use Rattle.base.proofs.SearchLaws.{first-end, first_goes, first_stops}
use Rattle.blocks.proofs.Refusing.InOrder.{may-number, over-numbered, turned-all-numbered}
use Rattle.blocks.proofs.Refusing.PassLaws.{Now, turned}
use Rattle.blocks.specs.Entries.{entries_of, nth}
use Rattle.pairs.specs.Pairs.{under}
use Rattle.slots.proofs.NextEntry.{owner-before}
use Rattle.slots.proofs.states.SlotStates.{holds-here, state-small, stated-more, stated-start}
use Rattle.slots.proofs.slots.Slots.first_failing_entry.Goals.{In-Some}
use Rattle.slots.proofs.slots.Slots.first_failing_entry.Goals as goal

-- the turn
here : (g : _) (c : In-Some g) → Now c.args.d.now c.args.total c.loop-before.yielded c.in-Some.before c.in-Some.bytes
here g c = let l = c.loop-before in turned l.invariant.over l.yielded l.before-iterator l.yielded_by c.next.new.self c.in-Some.is c.next.ensures.steps

pub loop-before-init : goal.loop-before-init
loop-before-init g c =
    let p = c.requires in
    let n = c.enumerate-before-items.ensures in
    let o = over-numbered p.0.3 (omega (arith, p.0.0)) c.entries_in_order.ensures.items n.source n.count c.into_iter-before-iterator.ensures.into_iter_gives in
    let e : c.args.total + 1 - 1 ≡ c.args.total = omega arith in
    record {
      goes = (tt, tt, may-number o (omega arith));
      ends = tt;
      over = o;
      stated = stated-start c.args.states.now (omega (arith, p.0.0, p.1));
      rest = λ ss x. rw e;
    }

pub bounds-states-from : goal.bounds-states-from
bounds-states-from g c =
    let h = here g (goal.at.bounds-states-from g c).In-Some in
    let p = c.requires.0 in
    let is : c.from-e.result ≡ nth (entries_of c.args.d.now) (suc c.in-Some.before) = c.from-e.ensures ∙ h.entry_suc in
    omega (arith, c.from.ensures, owner-before p.2 (omega (arith, h.before, p.0)) is, h.before, p.0, c.loop-before.invariant.stated.room)

pub look-requires : goal.look-requires
look-requires g c =
    let h = here g (goal.at.look-requires g c).In-Some in
    let p = c.requires.0 in
    let l = c.loop-before in
    let is : c.from-e.result ≡ nth (entries_of c.args.d.now) (suc c.in-Some.before) = c.from-e.ensures ∙ h.entry_suc in
    (omega arith, (state-small p.2 (rw (← h.same) at l.invariant.stated) (omega (arith, h.before, p.0)) is (ap (λ (o : ℕ). get_or l.states o 0) c.from.ensures), c.requires.2))

pub offset_bounds-states-before : goal.offset_bounds-states-before
offset_bounds-states-before g c = let h = here g (goal.at.offset_bounds-states-before g c).In-Some in omega (arith, h.before, c.requires.0.1)

pub bounds-states-before : goal.bounds-states-before
bounds-states-before g c = let h = here g (goal.at.bounds-states-before g c).In-Some in omega (arith, h.before, c.requires.0.0, c.loop-before.invariant.stated.room)

pub loop-before-preserved : goal.loop-before-preserved
loop-before-preserved g c =
    let h = here g (goal.at.loop-before-preserved g c).In-Some in
    let p = c.requires.0 in
    let l = c.loop-before in
    let i = l.invariant in
    let is : c.from-e.result ≡ nth (entries_of c.args.d.now) (suc c.in-Some.before) = c.from-e.ensures ∙ h.entry_suc in
    let read : get_or l.states c.from.result 0 ≡ get_or l.states c.from-e.result.owner 0 = ap (λ (o : ℕ). get_or l.states o 0) c.from.ensures in
    let S = rw (← h.same) at i.stated in
    let there : c.in-Some.before < length (entries_of c.args.d.now) = omega (arith, h.before, p.0) in
    let k = c.in-Some-look.ensures in
    record {
      goes = c.in-Some.ensures.goes.keeps;
      ends = tt;
      over = i.over;
      stated = rw h.more (stated-more p.2 S there is read (omega arith) k.0 k.2);
      rest = λ ss x. rw h.more (i.rest ss x ∙ rw (← h.same) (first_goes _ _ _ (omega (arith, h.before)) (holds-here p.2 S there is read (omega arith) (under c.args.marked.exclusions.pairs.now) ss x (k.1 ss x))));
    }

pub returns-in-None-look : goal.returns-in-None-look
returns-in-None-look g c =
    let h = here g (goal.at.returns-in-None-look g c).In-Some in
    let p = c.requires.0 in
    let l = c.loop-before in
    let i = l.invariant in
    let is : c.from-e.result ≡ nth (entries_of c.args.d.now) (suc c.in-Some.before) = c.from-e.ensures ∙ h.entry_suc in
    let read : get_or l.states c.from.result 0 ≡ get_or l.states c.from-e.result.owner 0 = ap (λ (o : ℕ). get_or l.states o 0) c.from.ensures in
    let S = rw (← h.same) at i.stated in
    let k = c.in-None-look.ensures in (
      omega (arith, h.before),
      omega arith,
      λ ss x. sym (i.rest ss x ∙ rw (← h.same) (first_stops _ _ _ (omega (arith, h.before)) (holds-here p.2 S (omega (arith, h.before, p.0)) is read (omega arith) (under c.args.marked.exclusions.pairs.now) ss x (k.1 ss x)))),
    )

pub returns : goal.returns
returns g c =
    let l = c.loop-before in
    let n = turned-all-numbered l.invariant.over l.yielded l.before-iterator l.yielded_by c.next.result c.next.new.self c.in-None.is c.next.ensures.steps in
    (omega arith, tt, λ ss x. sym (l.invariant.rest ss x ∙ first-end _ _ _ (omega (arith, n))))
