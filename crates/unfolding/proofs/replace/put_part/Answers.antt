use Rattle.std.proofs.Common.{◌+◌, ◌<◌, ◌≤◌, List, ◌++◌, ap, get_or, length, length-append, map, set, ◌∙◌, arith}
use Rattle.std.proofs.lemmas.List.{length-map}
use lib.Seq.{get_or-set_same}
use Rattle.base.proofs.Tests.{eq-eqb, ne_eqb}
use Rattle.blocks.proofs.Refusing.InOrder.{may-number, over-numbered, turned-all-numbered}
use Rattle.blocks.proofs.Refusing.PassLaws.{Now, turned}
use Rattle.blocks.specs.Entries.{entries_of}
use Rattle.blocks.specs.declared.Entry.{Entry}
use Rattle.names.specs.Unfold.{owned_by, relocate, unfolded}
use Rattle.names.specs.code.Passes.{kept_by}
use Rattle.unfolding.proofs.ReplaceLaws.{entry-few, entry-form, entry_next, entry-owner, pass-ends, pass-entry, pass-name, pass-starts-at, room-entry, room-name}
use Rattle.unfolding.specs.code.Known.{size_in}
use Rattle.unfolding.proofs.replace.put_part.Goals as goal
use Rattle.unfolding.proofs.replace.put_part.Goals.{In-Some}

-- the turn
here : (c : In-Some) → Now c.args.s.now c.args.total c.loop-before.yielded c.in-Some.before c.in-Some.bytes
here c = let l = c.loop-before in turned l.invariant.over l.yielded l.before-iterator l.yielded_by c.next.new.self c.in-Some.is c.next.ensures.steps

there : (c : In-Some) → c.in-Some.before < length (entries_of c.args.s.now)
there c = omega (arith, c.requires.0, (here c).before)

-- the table has a number for it
placed : (c : In-Some) → c.in-Some.before + 1 < 1009
placed c = omega (arith, (here c).before, c.requires.2)

-- all has room
room : (c : In-Some)
    → length (c.args.out.now ++ map (relocate (length c.args.out.now) c.args.o) (unfolded (kept_by (size_in c.args.tables.now.of)) (entries_of c.args.s.now))) ≤ 1136
room c =
    let a = c.args in
    let U = unfolded (kept_by (size_in a.tables.now.of)) (entries_of a.s.now) in
    omega (arith, length-append a.out.now (map (relocate (length a.out.now) a.o) U), length-map U (relocate (length a.out.now) a.o), c.requires.6)

pub loop-before-init : goal.loop-before-init
loop-before-init c =
    let a = c.args in
    let n = c.enumerate-before-items.ensures in
    let o = over-numbered c.requires.1 (omega (arith, c.requires.0)) c.entries_in_order.ensures.items n.source n.count c.into_iter-before-iterator.ensures.into_iter_gives in
    record {
      goes = (tt, tt, may-number o (omega arith));
      ends = tt;
      over = o;
      passing = pass-starts-at (set a.number.now 0 a.o) a.o a.out.now (get_or-set_same a.number.now 0 a.o 0 (omega arith)) c.requires.4;
    }

pub bounds-number-from : goal.bounds-number-from
bounds-number-from c =
    let i = (goal.at.bounds-number-from c).In-Some in
    let o = entry-owner (entries_of c.args.s.now) _ (there i) (c.from-e.ensures ∙ (here i).entry) c.requires.4 in
    omega (arith, o, c.from.ensures, (here i).before, c.requires.2)

pub keep_name-requires : goal.keep_name-requires
keep_name-requires c =
    let i = (goal.at.keep_name-requires c).In-Some in
    let h = here i in
    let es : List Entry = entries_of c.args.s.now in
    let e = c.from-e.ensures ∙ h.entry in
    let named = eq-eqb c.if-e-eq-NAME.true in
    let fits = room-name (rw (← h.same) at c.loop-before.invariant.passing) (entry_next es _ (there i) e) named in (
      named,
      entry-form es _ (there i) e c.requires.3,
      entry-few es _ (there i) e c.requires.5 named,
      omega (arith, fits, room i),
    )

pub push-requires : goal.push-requires
push-requires c =
    let i = (goal.at.push-requires c).In-Some in
    let h = here i in
    let e = c.from-e.ensures ∙ h.entry in
    let fits = room-entry (rw (← h.same) at c.loop-before.invariant.passing) (entry_next (entries_of c.args.s.now) _ (there i) e) (ne_eqb c.if-e-eq-NAME.false) in
    omega (arith, fits, room i)

pub bounds-number-before : goal.bounds-number-before
bounds-number-before c = omega (arith, placed (goal.at.bounds-number-before c).In-Some)

pub offset_bounds-number-before : goal.offset_bounds-number-before
offset_bounds-number-before c = omega (arith, placed (goal.at.offset_bounds-number-before c).In-Some)

pub loop-before-preserved-then-e-eq-NAME : goal.loop-before-preserved-then-e-eq-NAME
loop-before-preserved-then-e-eq-NAME c =
    let i = (goal.at.loop-before-preserved-then-e-eq-NAME c).In-Some in
    let h = here i in
    let l = c.loop-before in
    let next = entry_next (entries_of c.args.s.now) _ (there i) (c.from-e.ensures ∙ h.entry) in
    let o = ap (λ k. get_or l.number k 0) c.from.ensures in
    let T = kept_by (size_in c.args.tables.now.of) in
    record {
      goes = c.in-Some.ensures.goes.keeps;
      ends = tt;
      over = l.invariant.over;
      passing = rw h.more
          (pass-name (rw (← h.same) at l.invariant.passing) next (eq-eqb c.if-e-eq-NAME.true) (ap (λ k. map (relocate (length l.out) k) (T c.from-e.result.name)) o) c.keep_name.ensures);
    }

pub loop-before-preserved : goal.loop-before-preserved
loop-before-preserved c =
    let i = (goal.at.loop-before-preserved c).In-Some in
    let h = here i in
    let l = c.loop-before in
    let next = entry_next (entries_of c.args.s.now) _ (there i) (c.from-e.ensures ∙ h.entry) in
    let o = ap (λ k. owned_by (get_or l.number k 0) c.from-e.result) c.from.ensures in
    record {
      goes = c.in-Some.ensures.goes.keeps;
      ends = tt;
      over = l.invariant.over;
      passing = rw h.more
          (pass-entry (rw (← h.same) at l.invariant.passing) next (ne_eqb c.if-e-eq-NAME.false) (omega (arith, c.told-number, h.before, c.requires.2)) o c.push.ensures c.len.ensures.0);
    }

pub returns : goal.returns
returns c =
    let l = c.loop-before in
    let n = turned-all-numbered l.invariant.over l.yielded l.before-iterator l.yielded_by c.next.result c.next.new.self c.in-None.is c.next.ensures.steps in
    pass-ends l.invariant.passing (omega (arith, n, c.requires.0))
