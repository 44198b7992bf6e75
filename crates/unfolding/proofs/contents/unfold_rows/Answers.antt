use Rattle.std.proofs.Common.{◌+◌, ◌<◌, List, [], ◌∷◌, ap, get_or, length, length-append, map, ◌∙◌, arith, refl}
use lib.ListN.{length-set}
use Rattle.base.proofs.Lists.{zeros-read}
use Rattle.base.proofs.Tests.{eq-eqb, ne_eqb}
use Rattle.blocks.proofs.Refusing.InOrder.{may-number, over-numbered, turned-all-numbered}
use Rattle.blocks.proofs.Refusing.PassLaws.{Now, turned}
use Rattle.blocks.specs.Entries.{entries_of}
use Rattle.blocks.specs.declared.Entry.{Entry}
use Rattle.names.specs.NamedReading.{dictionary_of}
use Rattle.names.specs.Unfold.{contents, owned_by, relocate, unfolded_by}
use Rattle.unfolding.proofs.PassLaws.{legal-name}
use Rattle.unfolding.proofs.ReplaceLaws.{bound-set, entry_next, entry-owner, pass-ends, pass-entry, pass-name, pass-starts, room-entry, room-name, stood-more, stood-none}
use Rattle.unfolding.proofs.contents.unfold_rows.Goals as goal
use Rattle.unfolding.proofs.contents.unfold_rows.Goals.{In-Some}

-- the turn
here : (c : In-Some) → Now c.args.d.now c.args.total c.loop-before.yielded c.in-Some.before c.in-Some.bytes
here c = let l = c.loop-before in turned l.invariant.over l.yielded l.before-iterator l.yielded_by c.next.new.self c.in-Some.is c.next.ensures.steps

there : (c : In-Some) → c.in-Some.before < length (entries_of c.args.d.now)
there c = omega (arith, c.requires.0, (here c).before)

-- the table has a number for it
placed : (c : In-Some) → c.in-Some.before + 1 < 1009
placed c = omega (arith, (here c).before, c.requires.2)

pub loop-before-init : goal.loop-before-init
unfolding unfolded_by
loop-before-init c =
    let n = c.enumerate-before-items.ensures in
    let o = over-numbered c.requires.1 (omega (arith, c.requires.0)) c.entries_in_order.ensures.items n.source n.count c.into_iter-before-iterator.ensures.into_iter_gives in
    record {
      goes = (tt, tt, may-number o (omega arith));
      ends = tt;
      over = o;
      passing = rw c.requires.3 (pass-starts _ (zeros-read 1009 refl 0) c.requires.4.owner);
      laid = record { stood = stood-none; bound = λ j. omega (arith, zeros-read 1137 refl j) };
      bound = λ j. omega (arith, zeros-read 1009 refl j);
      long = refl;
      none = c.new.ensures;
    }

pub bounds-number-from : goal.bounds-number-from
bounds-number-from c =
    let i = (goal.at.bounds-number-from c).In-Some in
    let o = entry-owner (entries_of c.args.d.now) _ (there i) (c.from-e.ensures ∙ (here i).entry) c.requires.4.owner in
    omega (arith, o, c.from.ensures, (here i).before, c.requires.2, c.loop-before.invariant.long)

pub put_name-requires : goal.put_name-requires
put_name-requires c =
    let i = (goal.at.put_name-requires c).In-Some in
    let h = here i in
    let I = c.loop-before.invariant in
    let e = c.from-e.ensures ∙ h.entry in
    let named = eq-eqb c.if-e-eq-NAME.true in
    let name = legal-name c.requires.4 _ (there i) e named in
    let room = room-name (rw (← h.same) at I.passing) (entry_next (entries_of c.args.d.now) _ (there i) e) named in
    let few = c.args.dictionary.ready.known.sized.few in
    (name.0, name.1, I.bound c.from.result, I.laid, omega (arith, room, c.requires.5), omega (arith, ap length I.none, room, c.requires.5, name.1, few))

pub push-requires : goal.push-requires
push-requires c =
    let i = (goal.at.push-requires c).In-Some in
    let h = here i in
    let e = c.from-e.ensures ∙ h.entry in
    let fits = room-entry (rw (← h.same) at c.loop-before.invariant.passing) (entry_next (entries_of c.args.d.now) _ (there i) e) (ne_eqb c.if-e-eq-NAME.false) in
    omega (arith, fits, c.requires.5)

pub bounds-number-before : goal.bounds-number-before
bounds-number-before c = omega (arith, placed (goal.at.bounds-number-before c).In-Some, c.loop-before.invariant.long)

pub offset_bounds-number-before : goal.offset_bounds-number-before
offset_bounds-number-before c = omega (arith, placed (goal.at.offset_bounds-number-before c).In-Some)

pub loop-before-preserved-then-e-eq-NAME : goal.loop-before-preserved-then-e-eq-NAME
loop-before-preserved-then-e-eq-NAME c =
    let i = (goal.at.loop-before-preserved-then-e-eq-NAME c).In-Some in
    let h = here i in
    let l = c.loop-before in
    let T = contents (dictionary_of c.args.dictionary.bytes.now) in
    let next = entry_next (entries_of c.args.d.now) _ (there i) (c.from-e.ensures ∙ h.entry) in
    let o = ap (λ k. get_or l.number k 0) c.from.ensures in
    let p = c.put_name.ensures in
    let xs = map (relocate (length l.rows) (get_or l.number c.from.result 0)) (T c.from-e.result.name) in
    record {
      goes = c.in-Some.ensures.goes.keeps;
      ends = tt;
      over = l.invariant.over;
      passing = rw h.more
          (pass-name (rw (← h.same) at l.invariant.passing) next (eq-eqb c.if-e-eq-NAME.true) (ap (λ k. map (relocate (length l.rows) k) (T c.from-e.result.name)) o) p.0);
      laid = p.1;
      bound = λ j. omega (arith, l.invariant.bound j, ap length p.0, length-append l.rows xs);
      long = l.invariant.long;
      none = p.2.opened ∙ l.invariant.none;
    }

pub loop-before-preserved : goal.loop-before-preserved
loop-before-preserved c =
    let i = (goal.at.loop-before-preserved c).In-Some in
    let h = here i in
    let l = c.loop-before in
    let next = entry_next (entries_of c.args.d.now) _ (there i) (c.from-e.ensures ∙ h.entry) in
    let o = ap (λ k. owned_by (get_or l.number k 0) c.from-e.result) c.from.ensures in
    let b : c.in-Some.before + 1 < length l.number = omega (arith, placed i, l.invariant.long) in
    let r : List Entry = owned_by (get_or l.number c.from.result 0) c.from-e.result ∷ [] in
    let more = length-append l.rows r in
    record {
      goes = c.in-Some.ensures.goes.keeps;
      ends = tt;
      over = l.invariant.over;
      passing = rw h.more (pass-entry (rw (← h.same) at l.invariant.passing) next (ne_eqb c.if-e-eq-NAME.false) b o c.push.ensures c.len.ensures.0);
      laid = record { stood = stood-more l.invariant.laid.stood r c.push.ensures; bound = λ j. omega (arith, l.invariant.laid.bound j, ap length c.push.ensures, more) };
      bound = bound-set l.number (c.in-Some.before + 1) c.len.result b l.invariant.bound (omega (arith, ap length c.push.ensures, more)) (omega (arith, c.len.ensures.0));
      long = length-set l.number (c.in-Some.before + 1) c.len.result ∙ l.invariant.long;
      none = l.invariant.none;
    }

pub returns : goal.returns
returns c =
    let l = c.loop-before in
    let n = turned-all-numbered l.invariant.over l.yielded l.before-iterator l.yielded_by c.next.result c.next.new.self c.in-None.is c.next.ensures.steps in
    pass-ends l.invariant.passing (omega (arith, n, c.requires.0))
