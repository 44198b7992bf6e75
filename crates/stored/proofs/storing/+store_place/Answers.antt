-- `store_place` meets its contract.
use Rattle.std.proofs.Common.{◌≡◌, ◌≤◌, ◌<◌, ◌+◌, ◌∙◌, ℕ, length, length-set, Option, refl, set, sym, ap, subst, arith}
use Rattle.base.proofs.StoresLaws.{length-stored, stored-none}
use Rattle.base.proofs.Tests.{eq-cases}
use Rattle.base.specs.Keys.{unless_zero}
use Rattle.base.specs.Stores.{stored}
use Rattle.blocks.proofs.Refusing.Legal.{owner-earlier}
use Rattle.blocks.specs.Entries.{entries_of, nth}
use Rattle.blocks.specs.declared.Entry.{Entry}
use Rattle.logic.specs.Size.{nodes}
use Rattle.places.specs.Owned.{next_of}
use Rattle.stored.proofs.TurnLaws.{deep-under, leaf-fewer, leaf-length, leaf-rows, node-fewer, node-length, node-rows, some-left}
use Rattle.stored.proofs.WalkLaws.{Next, first-left, left_from, packed_left, part, then-left}
use Rattle.stored.specs.Stored.{stored_packed}
use Rattle.stored.specs.Walked.{at_depth, walked}
use Rattle.stored.proofs.storing.+store_place.Goals.{then-e-eq-EVERY, else-e-eq-EVERY}
use Rattle.stored.proofs.storing.+store_place.Goals as goal

pub loop-next-init : goal.loop-next-init
loop-next-init t c =
    let es = entries_of c.args.places.now.bytes.now in
    let f = first-left es c.args.o c.begin-next.ensures in
    record { own = f.1; room = rw (← f.0) c.requires.2; ends = rw (← f.0) refl; rows = rw (← f.0) refl }

pub bounds-rows-end : goal.bounds-rows-end
bounds-rows-end t c =
    let es = entries_of c.args.places.now.bytes.now in
    let i = c.loop-next.invariant in
    let N = subst (Next es c.args.o) c.in-Some.is i.own in
    let room = subst (λ (r : Option ℕ). c.loop-next.end + length (packed_left c.args.depth (left_from es c.args.o r)) ≤ length c.loop-next.rows) c.in-Some.is i.room in
    let some = some-left es c.args.places.now.legal c.args.o c.args.depth c.in-Some.n N.0 N.1 N.2 {r = unless_zero (next_of es c.in-Some.n)} refl refl in
    omega (arith, room, some)

pub overflow_add-depth : goal.overflow_add-depth
overflow_add-depth t c =
    let es = entries_of c.args.places.now.bytes.now in
    let N = subst (Next es c.args.o) c.in-Some.is c.loop-next.invariant.own in
    omega (arith, (deep-under es c.args.places.now.legal c.args.o c.args.depth c.in-Some.n c.requires.1 N.0 N.1 N.2).0)

pub store_place-end-requires : goal.store_place-end-requires
store_place-end-requires t c =
    let es = entries_of c.args.places.now.bytes.now in
    let i = c.loop-next.invariant in
    let n = c.in-Some.n in
    let N = subst (Next es c.args.o) c.in-Some.is i.own in
    let room = subst (λ (r : Option ℕ). c.loop-next.end + length (packed_left c.args.depth (left_from es c.args.o r)) ≤ length c.loop-next.rows) c.in-Some.is i.room in
    let D = deep-under es c.args.places.now.legal c.args.o c.args.depth n c.requires.1 N.0 N.1 N.2 in
    let k : (nth es n).kind ≡ 5 = sym (ap (λ (e : Entry). e.kind) c.entry-e.ensures) ∙ c.if-e-eq-EVERY.true in
    let l = node-length es c.args.places.now.legal c.args.o c.args.depth n N.0 N.1 N.2 {r = unless_zero (next_of es n)} refl refl c.args.rows.now c.loop-next.end k in
    (omega (arith, c.decreases, owner-earlier c.args.places.now.legal n N.0 N.1, N.2, N.1), (N.1, D.1, omega (arith, room, l, length-set c.loop-next.rows c.loop-next.end c.pack_stored.result)))

pub loop-next-smaller : goal.loop-next-smaller
loop-next-smaller t c =
    let es = entries_of c.args.places.now.bytes.now in
    let n = c.in-Some.n in
    let N = subst (Next es c.args.o) c.in-Some.is c.loop-next.invariant.own in
    subst (λ (r : Option ℕ). nodes (left_from es c.args.o c.after-next.result) < nodes (left_from es c.args.o r)) (sym c.in-Some.is)
    (eq-cases (nth es n).kind 5
    (λ k. node-fewer es c.args.places.now.legal c.args.o c.args.depth n N.0 N.1 N.2 c.after-next.ensures refl k)
    (λ k. leaf-fewer es c.args.places.now.legal c.args.o c.args.depth n N.0 N.1 N.2 c.after-next.ensures refl k))

pub loop-next-preserved : goal.loop-next-preserved
loop-next-preserved t c =
    let es = entries_of c.args.places.now.bytes.now in
    let L = c.args.places.now.legal in
    let o = c.args.o in
    let d = c.args.depth in
    let i = c.loop-next.invariant in
    let n = c.in-Some.n in
    let end = c.loop-next.end in
    let rows = c.loop-next.rows in
    let rest = packed_left d (left_from es o c.after-next.result) in
    let N = subst (Next es o) c.in-Some.is i.own in
    let room = subst (λ (r : Option ℕ). end + length (packed_left d (left_from es o r)) ≤ length rows) c.in-Some.is i.room in
    let kind : (nth es n).kind ≡ c.entry-e.result.kind = sym (ap (λ (e : Entry). e.kind) c.entry-e.ensures) in
    let row = c.pack_stored.ensures ∙ ap stored_packed (c.placed.ensures ∙ ap (at_depth d) c.entry-e.ensures) in
    let after = c.after-next.ensures in
    let size : c.if-e-eq-EVERY.end + length rest ≡ end + length (packed_left d (part es o n)) =
    elim c.if-e-eq-EVERY.branch [
      | then-e-eq-EVERY w ↦ rw (w.end-is, w.store_place-end.ensures.0) (node-length es L o d n N.0 N.1 N.2 after row rows end (kind ∙ w.if-e-eq-EVERY.true))
      | else-e-eq-EVERY w ↦ rw w.end-is (leaf-length es L o d n N.0 N.1 N.2 after row rows end (λ z. w.if-e-eq-EVERY.false (sym kind ∙ z)))
    ] in
    let same : stored c.if-e-eq-EVERY.rows c.if-e-eq-EVERY.end rest ≡ stored rows end (packed_left d (part es o n)) =
    elim c.if-e-eq-EVERY.branch [
      | then-e-eq-EVERY w ↦
          rw (w.rows-is, w.end-is, w.store_place-end.ensures.0, w.store_place-end.ensures.1) (node-rows es L o d n N.0 N.1 N.2 after row rows end (kind ∙ w.if-e-eq-EVERY.true))
      | else-e-eq-EVERY w ↦ rw (w.rows-is, w.end-is) (leaf-rows es L o d n N.0 N.1 N.2 after row rows end (λ z. w.if-e-eq-EVERY.false (sym kind ∙ z)))
    ] in
    let long : length c.if-e-eq-EVERY.rows ≡ length rows =
    elim c.if-e-eq-EVERY.branch [
      | then-e-eq-EVERY w ↦ rw (w.rows-is, w.store_place-end.ensures.1) (length-stored (set rows end c.pack_stored.result) _ _ ∙ length-set rows end c.pack_stored.result)
      | else-e-eq-EVERY w ↦ rw w.rows-is (length-set rows end c.pack_stored.result)
    ] in
    record {
      own = (then-left es o n N.0 N.1 N.2 after).1;
      room = omega (arith, size, room, long);
      ends = size ∙ ap (λ (r : Option ℕ). end + length (packed_left d (left_from es o r))) (sym c.in-Some.is) ∙ i.ends;
      rows = same ∙ ap (λ (r : Option ℕ). stored rows end (packed_left d (left_from es o r))) (sym c.in-Some.is) ∙ i.rows;
    }

pub returns : goal.returns
unfolding walked
returns t c =
    let es = entries_of c.args.places.now.bytes.now in
    let i = c.loop-next.invariant in
    let ends = ap (λ (r : Option ℕ). c.loop-next.end + length (packed_left c.args.depth (left_from es c.args.o r))) (sym c.in_default.is) ∙ i.ends in
    let rows = ap (λ (r : Option ℕ). stored c.loop-next.rows c.loop-next.end (packed_left c.args.depth (left_from es c.args.o r))) (sym c.in_default.is) ∙ i.rows in
    (omega (arith, ends), stored-none c.loop-next.rows c.loop-next.end ∙ rows)
