-- `each_failing_entry` meets its contract: each entry that is passed has its byte, and the state that is noted for an 'every' is right.
use Rattle.std.proofs.Common.{◌≡◌, ◌<◌, ℕ, suc, ap, get_or, length, length-set, refl, ◌∙◌, arith}
use Rattle.base.proofs.Lists.{listed}
use Rattle.base.proofs.StoresLaws.{stored-none}
use Rattle.base.specs.Search.{first_from}
use Rattle.blocks.proofs.Refusing.InOrder.{may-number, over-numbered, turned-all-numbered}
use Rattle.blocks.proofs.Refusing.PassLaws.{Now, turned}
use Rattle.blocks.specs.Entries.{entries_of, nth}
use Rattle.slots.specs.code.States.{holds_by_slots}
use Rattle.pairs.specs.Pairs.{under}
use Rattle.slots.proofs.NextEntry.{owner-before}
use Rattle.slots.proofs.each.EachLaws.{byte-more, judged-more, noted-every, noted-small}
use Rattle.slots.proofs.states.SlotStates.{holds-here, state-small, stated-more, stated-start}
use Rattle.slots.proofs.slots.Slots.each_failing_entry.Goals.{In-Some}
use Rattle.slots.proofs.slots.Slots.each_failing_entry.Goals as goal

-- the turn
here : (g : _) (c : In-Some g) → Now c.args.d.now c.args.total c.loop-before.yielded c.in-Some.before c.in-Some.eight
here g c = let l = c.loop-before in turned l.invariant.over l.yielded l.before-iterator l.yielded_by c.next.new.self c.in-Some.is c.next.ensures.steps

pub loop-before-init : goal.loop-before-init
unfolding first_from listed
loop-before-init g c =
    let p = c.requires in
    let n = c.enumerate-before-items.ensures in
    let o = over-numbered p.0.3 (omega (arith, p.0.0)) c.entries_in_order.ensures.items n.source n.count c.into_iter-before-iterator.ensures.into_iter_gives in
    record {
      goes = (tt, tt, may-number o (omega arith));
      ends = tt;
      over = o;
      stated = stated-start c.args.states.now (omega (arith, p.0.0, p.1));
      sized = c.told-bytes;
      so-far = λ ss x. (refl, stored-none _ _);
    }

pub bounds-states-from : goal.bounds-states-from
bounds-states-from g c =
    let h = here g (goal.at.bounds-states-from g c).In-Some in
    let p = c.requires.0 in
    let is : c.from-e.result ≡ nth (entries_of c.args.d.now) (suc c.in-Some.before) = c.from-e.ensures ∙ h.entry_suc in
    omega (arith, c.from.ensures, owner-before p.2 (omega (arith, h.before, p.0)) is, h.before, p.0, c.loop-before.invariant.stated.room)

pub look-below-requires : goal.look-below-requires
look-below-requires g c =
    let h = here g (goal.at.look-below-requires g c).In-Some in
    let p = c.requires.0 in
    let l = c.loop-before in
    let is : c.from-e.result ≡ nth (entries_of c.args.d.now) (suc c.in-Some.before) = c.from-e.ensures ∙ h.entry_suc in
    (omega arith, (state-small p.2 (rw (← h.same) at l.invariant.stated) (omega (arith, h.before, p.0)) is (ap (λ (o : ℕ). get_or l.states o 0) c.from.ensures), c.requires.2))

pub offset_bounds-states-before : goal.offset_bounds-states-before
offset_bounds-states-before g c = let h = here g (goal.at.offset_bounds-states-before g c).In-Some in omega (arith, h.before, c.requires.0.1)

pub bounds-states-before : goal.bounds-states-before
bounds-states-before g c = let h = here g (goal.at.bounds-states-before g c).In-Some in omega (arith, h.before, c.requires.0.0, c.loop-before.invariant.stated.room)

pub bounds-bytes-before : goal.bounds-bytes-before
bounds-bytes-before g c = let h = here g (goal.at.bounds-bytes-before g c).In-Some in omega (arith, h.before, c.requires.0.1)

pub loop-before-preserved : goal.loop-before-preserved
loop-before-preserved g c =
    let h = here g (goal.at.loop-before-preserved g c).In-Some in
    let p = c.requires.0 in
    let l = c.loop-before in
    let i = l.invariant in
    let b = under c.args.marked.exclusions.pairs.now in
    let is : c.from-e.result ≡ nth (entries_of c.args.d.now) (suc c.in-Some.before) = c.from-e.ensures ∙ h.entry_suc in
    let read : get_or l.states c.from.result 0 ≡ get_or l.states c.from-e.result.owner 0 = ap (λ (o : ℕ). get_or l.states o 0) c.from.ensures in
    let S = rw (← h.same) at i.stated in
    let there : c.in-Some.before < length (entries_of c.args.d.now) = omega (arith, h.before, p.0) in
    let k = c.look-below.ensures in
    record {
      goes = c.in-Some.ensures.goes.keeps;
      ends = tt;
      over = i.over;
      stated = rw h.more
          (stated-more p.2 S there is read (omega arith) (noted-small c.look-below.result k.0 c.unwrap_or.ensures)
          (λ e ss x. noted-every b ss _ _ e c.look-below.result (k.1 ss x) (k.2 e ss x) c.unwrap_or.ensures));
      sized = length-set l.bytes _ _ ∙ i.sized;
      so-far = λ ss x.
          let f = rw (← h.same) at (i.so-far ss x) in
          let now = holds-here p.2 S there is read {m = suc c.in-Some.before} refl b ss x (k.1 ss x) in
          rw h.more (
            judged-more (holds_by_slots b ss (entries_of c.args.d.now)) c.in-Some.before (omega arith) f.0 now c.is_some-none.ensures,
            byte-more (holds_by_slots b ss (entries_of c.args.d.now)) c.args.bytes.now c.in-Some.before c.is_none.result (omega arith) f.1 now c.is_none.ensures c.from-in-loop-before.ensures,
          );
    }

pub returns : goal.returns
returns g c =
    let l = c.loop-before in
    let n = turned-all-numbered l.invariant.over l.yielded l.before-iterator l.yielded_by c.next.result c.next.new.self c.in-None.is c.next.ensures.steps in
    λ ss x. rw n at (l.invariant.so-far ss x)
