use Rattle.std.proofs.Common.{◌≡◌, ℕ, suc, refl, ap, get_or, length-set, ◌∙◌, arith}
use Rattle.blocks.proofs.Refusing.InOrder.{may-number, over-numbered, turned-all-numbered}
use Rattle.blocks.proofs.Refusing.PassLaws.{Now, turned}
use Rattle.blocks.specs.Entries.{Bounded, entries_of, nth}
use Rattle.slots.proofs.build.BuildLaws.{building-ends, building-more, building-starts, exact-starts}
use Rattle.slots.proofs.NextEntry.{owner-before}
use Rattle.slots.specs.code.Tables.{Entered, high_kind, link_kind, low_kind}
use Rattle.slots.proofs.build.build.Goals.{After-from-e, In-Some}
use Rattle.slots.proofs.build.build.Goals as goal

-- the turn
here : (g : _) (c : In-Some g) → Now c.args.d.now c.args.total c.loop-before.yielded c.in-Some.before c.in-Some.bytes
here g c = let l = c.loop-before in turned l.invariant.over l.yielded l.before-iterator l.yielded_by c.next.new.self c.in-Some.is c.next.ensures.steps

-- what is read is of its type
bounded : (g : _) (c : After-from-e g) → Bounded c.from-e.result
bounded g c =
    let k = c.from-e.type_inv in
    record { kind = omega (arith, k); reserved = omega (arith, k); owner = omega (arith, k); name = omega (arith, k); number = omega (arith, k) }

pub loop-before-init : goal.loop-before-init
loop-before-init g c =
    let p = c.requires in
    let n = c.enumerate-before-items.ensures in
    let o = over-numbered p.0.3 (omega (arith, p.0.0)) c.entries_in_order.ensures.items n.source n.count c.into_iter-before-iterator.ensures.into_iter_gives in
    record {
      goes = (tt, tt, may-number o (omega arith));
      ends = tt;
      over = o;
      building = building-starts p.0.0 p.1 p.2;
      exact = exact-starts _;
      tables = refl;
      nodes = refl;
    }

pub bounds-node-from : goal.bounds-node-from
bounds-node-from g c =
    let h = here g (goal.at.bounds-node-from g c).In-Some in
    let p = c.requires.0 in
    omega (arith, c.from.ensures, owner-before p.2 {n = c.in-Some.before} (omega (arith, h.before, p.0)) (c.from-e.ensures ∙ h.entry_suc), h.before, p.0, c.loop-before.invariant.building.places)

pub entry_key-requires : goal.entry_key-requires
entry_key-requires g c =
    let h = here g (goal.at.entry_key-requires g c).In-Some in
    let B = c.loop-before.invariant.building in
    omega (arith, c.from-place.ensures, B.nodes.small c.from.result, B.few, h.same, h.before, c.requires.0.0, c.requires.0.1)

pub enter-s-requires : goal.enter-s-requires
enter-s-requires g c =
    let h = here g (goal.at.enter-s-requires g c).In-Some in
    let B = c.loop-before.invariant.building in
    let p = c.requires.0 in (
      omega arith,
      (
        B.kept,
        omega (arith, B.few, h.same, h.before, p.1),
        omega (arith, B.few, h.same, h.before, p.0, B.room),
        omega (arith, B.few, h.same, h.before, p.0, B.inside),
        c.entry_key.ensures.1,
        c.entry_bounds.ensures.3,
        c.entry_bounds.ensures.2,
      ),
    )

pub overflow_cast-node : goal.overflow_cast-node
overflow_cast-node g c =
    let h = here g (goal.at.overflow_cast-node g c).In-Some in
    omega (arith, c.enter-s.ensures.0, c.loop-before.invariant.building.few, h.same, h.before, c.requires.0.1)

pub offset_bounds-node-before : goal.offset_bounds-node-before
offset_bounds-node-before g c = let h = here g (goal.at.offset_bounds-node-before g c).In-Some in omega (arith, h.before, c.requires.0.1)

pub bounds-node-before : goal.bounds-node-before
bounds-node-before g c =
    let h = here g (goal.at.bounds-node-before g c).In-Some in
    omega (arith, h.before, c.requires.0.0, c.loop-before.invariant.building.places)

pub loop-before-preserved : goal.loop-before-preserved
loop-before-preserved g c =
    let h = here g (goal.at.loop-before-preserved g c).In-Some in
    let l = c.loop-before in
    let i = l.invariant in
    let p = c.requires.0 in
    let e = c.from-e.result in
    let is : e ≡ nth (entries_of c.args.d.now) (suc c.in-Some.before) = c.from-e.ensures ∙ h.entry_suc in
    let b = bounded g (goal.at.loop-before-preserved g c).After-from-e in
    let place : c.from-place.result ≡ get_or l.node e.owner 0 = c.from-place.ensures ∙ ap (λ (j : ℕ). get_or l.node j 0) c.from.ensures in
    let E : Entered l.table g.row.BUCKETS l.cells l.used (get_or l.node e.owner 0) (link_kind e.kind) e.name
    (low_kind e.kind e.number) (high_kind e.kind e.number) c.enter-s.result _ _ =
    rw (c.entry_bounds.ensures.0, c.entry_bounds.ensures.1) at
    (c.enter-s.ensures.1 (get_or l.node e.owner 0) (link_kind e.kind) e.name b.name (c.entry_key.ensures.0 ∙ rw place)) in
    let k = c.enter-s.auto in
    record {
      goes = c.in-Some.ensures.goes.keeps;
      ends = tt;
      over = i.over;
      building = rw (h.more, c.max-used.ensures) (building-more p.2 (rw (← h.same) at i.building) (omega (arith, h.before, p.0)) is b c.enter-s.ensures.0 (omega arith) (omega (arith, k)) E);
      exact = rw c.max-used.ensures (E.exact _ i.exact);
      tables = omega (arith, k, i.tables);
      nodes = simp length-set i.nodes;
    }

pub returns : goal.returns
returns g c =
    let l = c.loop-before in
    let n = turned-all-numbered l.invariant.over l.yielded l.before-iterator l.yielded_by c.next.result c.next.new.self c.in-None.is c.next.ensures.steps in
    let p = c.requires.0 in
    building-ends (omega (arith, n, p.0)) l.invariant.building l.invariant.exact (omega (arith, l.invariant.building.few, n, p.0))
