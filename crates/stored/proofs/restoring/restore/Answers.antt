-- `restore` meets its contract.
use Rattle.std.proofs.Common.{◌≡◌, ◌+◌, ◌-◌, ◌∙◌, suc, length, refl, sym, ap, arith}
use Rattle.base.proofs.Lists.{listed}
use Rattle.base.proofs.StoresLaws.{stored-none}
use Rattle.base.specs.Stores.{stored}
use Rattle.blocks.specs.Faults.{Faulty, first, rows_from}
use Rattle.blocks.specs.Reading.{answer}
use Rattle.stored.proofs.RestoredLaws.{entry-within, row-is, row_packed, rows-more, rows-packed, seen}
use Rattle.stored.proofs.WalkingLaws.{entry-end, entry-found, entry-more, entry-placed, kept-every, kept-leaf, kept-start}
use Rattle.stored.specs.Stored.{stored_entries}
use Rattle.stored.specs.Walking.{stored_rows}
use Rattle.stored.proofs.restoring.restore.Goals.{then-x-eq-EVERY, else-x-eq-EVERY}
use Rattle.stored.proofs.restoring.restore.Goals as goal

pub loop-before-init : goal.loop-before-init
unfolding listed
loop-before-init c =
    let e : c.args.total - 0 ≡ c.args.total = omega arith in
    record { kept = kept-start _ refl refl; rest = rw e refl; rows = stored-none c.args.rows.now 0 }

pub stored_entry-x-requires : goal.stored_entry-x-requires
stored_entry-x-requires c =
    (omega arith, omega (arith, c.requires.1, c.loop-before-test.true), entry-within _ _ _ c.requires.2 c.loop-before-test.true)

pub returns-in-Some-clause-refused : goal.returns-in-Some-clause-refused
returns-in-Some-clause-refused c =
    let i = c.loop-before.invariant in
    let n = c.loop-before.before in
    let es = stored_entries c.args.s.now in
    let a = seen _ _ _ c.requires.0 c.loop-before-test.true c.stored_entry-x.ensures in
    let w : c.args.total - n ≡ suc (c.args.total - suc n) = omega (arith, c.loop-before-test.true) in
    let q : n + 1 ≡ suc n = omega arith in
    let found : first (rows_from (stored_rows es) (n + 1) (c.args.total - n)) ≡ Faulty c.in-Some.cause (n + 1) =
    rw (w, q) (entry-found es _ n (c.args.total - suc n) i.kept.may a c.stored_refusal.ensures c.in-Some.is) in
    ap (answer 1 tt) (sym (i.rest ∙ found))

pub bounds-last-from : goal.bounds-last-from
bounds-last-from c =
    let a = seen _ _ _ c.requires.0 c.loop-before-test.true c.stored_entry-x.ensures in
    let p = entry-placed _ _ _ 0 c.loop-before.invariant.kept.may a c.stored_refusal.ensures c.in_default.is in
    omega (arith, c.from.ensures, p.1)

pub overflow_add-most : goal.overflow_add-most
overflow_add-most c =
    let a = seen _ _ _ c.requires.0 c.loop-before-test.true c.stored_entry-x.ensures in
    let p = entry-placed _ _ _ 0 c.loop-before.invariant.kept.may a c.stored_refusal.ensures c.in_default.is in
    omega (arith, p.1)

pub bounds-last-from-then-x-eq-EVERY : goal.bounds-last-from-then-x-eq-EVERY
bounds-last-from-then-x-eq-EVERY c =
    let a = seen _ _ _ c.requires.0 c.loop-before-test.true c.stored_entry-x.ensures in
    let p = entry-placed _ _ _ 0 c.loop-before.invariant.kept.may a c.stored_refusal.ensures c.in_default.is in
    omega (arith, c.from-then-x-eq-EVERY.ensures, p.1)

pub loop-before-preserved : goal.loop-before-preserved
loop-before-preserved c =
    let i = c.loop-before.invariant in
    let n = c.loop-before.before in
    let es = stored_entries c.args.s.now in
    let x = c.stored_entry-x.result in
    let a = seen _ _ _ c.requires.0 c.loop-before-test.true c.stored_entry-x.ensures in
    let p = entry-placed es _ n 0 i.kept.may a c.stored_refusal.ensures c.in_default.is in
    let w : c.args.total - n ≡ suc (c.args.total - suc n) = omega (arith, c.loop-before-test.true) in
    let q : n + 1 ≡ suc n = omega arith in
    let q' : suc n + 1 ≡ suc (suc n) = omega arith in
    let d : x.depth + 1 ≡ suc x.depth = omega arith in
    record {
      kept = elim c.if-x-eq-EVERY.branch [
        | then-x-eq-EVERY b ↦ rw (b.last-is, b.most-is, b.from-then-x-eq-EVERY.ensures, d, q) (kept-every es i.kept a p.0 p.1 (omega (arith, b.if-x-eq-EVERY.true)))
        | else-x-eq-EVERY b ↦ rw (b.last-is, b.most-is, q) (kept-leaf es i.kept a p.0 p.1 (λ z. b.if-x-eq-EVERY.false z))
      ];
      rest = i.rest ∙ rw (w, q, q') (entry-more es _ n (c.args.total - suc n) i.kept.may a c.stored_refusal.ensures c.in_default.is);
      rows = rows-more (row_packed es) c.args.rows.now n c.pack.result i.rows refl (c.pack.ensures ∙ row-is es _ _ n i.kept a p.0 c.owned_entry.ensures c.from.ensures);
    }

pub returns-clause-refused : goal.returns-clause-refused
returns-clause-refused c =
    ap (answer 1 tt) (sym (c.loop-before.invariant.rest ∙ entry-end (stored_entries c.args.s.now) _ _ (omega (arith, c.loop-before-test.false))))

pub returns-clause-given : goal.returns-clause-given
returns-clause-given c =
    let es = stored_entries c.args.s.now in
    let e : c.loop-before.before ≡ length es = omega (arith, c.requires.0, c.loop-before-test.false, c.loop-before.auto.before-end) in
    c.loop-before.invariant.rows ∙ ap (stored c.args.rows.now 0) (ap (listed (row_packed es) 1) e ∙ sym (rows-packed es))
