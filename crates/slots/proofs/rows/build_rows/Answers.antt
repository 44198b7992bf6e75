use Rattle.std.proofs.Common.{◌≡◌, ℕ, suc, refl, ap, get_or, length-set, ◌∙◌, arith}
use Rattle.blocks.specs.Entries.{Bounded, entries_of, nth}
use Rattle.slots.proofs.build.BuildLaws.{building-ends, building-more, building-starts, exact-starts}
use Rattle.slots.proofs.NextEntry.{owner-before}
use Rattle.slots.proofs.rows.ListingLaws.{listing-entry, listing-told}
use Rattle.slots.specs.code.Rows.{rows_bytes}
use Rattle.slots.specs.code.Tables.{Entered, high_kind, link_kind, low_kind}
use Rattle.slots.proofs.rows.build_rows.Goals.{After-entry_of_row-e}
use Rattle.slots.proofs.rows.build_rows.Goals as goal

-- what is read is of its type
bounded : (g : _) (c : After-entry_of_row-e g) → Bounded c.entry_of_row-e.result
bounded g c =
    let k = c.entry_of_row-e.type_inv in
    record { kind = omega (arith, k); reserved = omega (arith, k); owner = omega (arith, k); name = omega (arith, k); number = omega (arith, k) }

-- and the next entry
next : (g : _) (c : After-entry_of_row-e g) → c.entry_of_row-e.result ≡ nth (entries_of (rows_bytes c.args.listing.rows.now)) (suc c.loop-before.before)
next g c = c.entry_of_row-e.ensures ∙ listing-entry c.args.listing.rows.now c.loop-before.before (omega (arith, c.loop-before-test.true)) refl

pub loop-before-init : goal.loop-before-init
loop-before-init g c =
    let t = listing-told c.args.listing.rows.now c.args.listing.legal in
    record {
      building = building-starts t.many c.requires.0 c.requires.1;
      exact = exact-starts _;
      tables = refl;
      nodes = refl;
    }

pub bounds-node-from : goal.bounds-node-from
bounds-node-from g c =
    let w = (goal.at.bounds-node-from g c).After-entry_of_row-e in
    let t = listing-told c.args.listing.rows.now c.args.listing.legal in
    omega (arith, c.from.ensures, owner-before t.owned {n = c.loop-before.before} (omega (arith, c.loop-before-test.true, t.many)) (next g w), c.loop-before-test.true, t.many, c.loop-before.invariant.building.places)

pub enter-s-requires : goal.enter-s-requires
enter-s-requires g c =
    let t = listing-told c.args.listing.rows.now c.args.listing.legal in
    let B = c.loop-before.invariant.building in (
      omega arith,
      (
        B.kept,
        omega (arith, B.few, c.loop-before-test.true, c.args.listing.few),
        omega (arith, B.few, c.loop-before-test.true, t.many, B.room),
        omega (arith, B.few, c.loop-before-test.true, t.many, B.inside),
        c.entry_key.ensures.1,
        c.entry_bounds.ensures.3,
        c.entry_bounds.ensures.2,
      ),
    )

pub loop-before-preserved : goal.loop-before-preserved
loop-before-preserved g c =
    let w = (goal.at.loop-before-preserved g c).After-entry_of_row-e in
    let t = listing-told c.args.listing.rows.now c.args.listing.legal in
    let l = c.loop-before in
    let i = l.invariant in
    let e = c.entry_of_row-e.result in
    let b = bounded g w in
    let place : c.from-place.result ≡ get_or l.node e.owner 0 = c.from-place.ensures ∙ ap (λ (j : ℕ). get_or l.node j 0) c.from.ensures in
    let E : Entered l.table g.row.BUCKETS l.cells l.used (get_or l.node e.owner 0) (link_kind e.kind) e.name
    (low_kind e.kind e.number) (high_kind e.kind e.number) c.enter-s.result _ _ =
    rw (c.entry_bounds.ensures.0, c.entry_bounds.ensures.1) at
    (c.enter-s.ensures.1 (get_or l.node e.owner 0) (link_kind e.kind) e.name b.name (c.entry_key.ensures.0 ∙ rw place)) in
    let k = c.enter-s.auto in
    record {
      building = rw c.max-used.ensures (building-more t.owned i.building (omega (arith, c.loop-before-test.true, t.many)) (next g w) b c.enter-s.ensures.0 (omega arith) (omega (arith, k)) E);
      exact = rw c.max-used.ensures (E.exact _ i.exact);
      tables = omega (arith, k, i.tables);
      nodes = simp length-set i.nodes;
    }

pub returns : goal.returns
returns g c =
    let l = c.loop-before in
    let t = listing-told c.args.listing.rows.now c.args.listing.legal in
    let B = l.invariant.building in
    building-ends (omega (arith, c.loop-before-test.false, t.many)) B l.invariant.exact (omega (arith, B.few, l.auto, t.many))
