use Rattle.std.proofs.Common.{◌≡◌, ◌+◌, ◌-◌, length, ap, sym, ◌∙◌, arith, rules}
use Rattle.blocks.proofs.Refusing.PassLaws.{Now, begun, ended, turned}
use Rattle.blocks.specs.Entries.{entries_of}
use Rattle.blocks.specs.Faults.{Faulty, first, rows_from}
use Rattle.blocks.specs.Reading.{answer}
use Rattle.delivered.specs.Reading.{delivered_rows}
use Rattle.delivered.proofs.NotedLaws.{noted-start}
use Rattle.delivered.proofs.RowLaws.{rows-end, rows-found, rows-more}
use Rattle.delivered.proofs.reader.check_in_tables.Given.{Over}
use Rattle.delivered.proofs.reader.check_in_tables.Goals as goal
use Rattle.delivered.proofs.reader.check_in_tables.Goals.{In-Some}

-- the turn: which entry it has
here : {g : Over} (c : In-Some g) → Now c.args.blocks.bytes.now c.args.blocks.total c.loop-before.yielded c.in-Some.before c.in-Some.bytes
here c = turned c.loop-before.invariant.over _ _ c.loop-before.yielded_by c.next.new.self c.in-Some.is c.next.ensures.steps

pub loop-before-init : goal.loop-before-init
loop-before-init g c =
    let b = c.args.blocks in
    let n = c.enumerate-before-items.ensures in
    let many : c.total.result ≡ b.total = c.total.ensures ∙ sym b.counted in
    let o = begun {s = b.bytes.now} {n = b.total} (omega (arith, b.counted)) (omega (arith, b.few)) b.whole (c.entries_in_order.ensures.items ∙ rw (c.bytes.ensures, many)) n.source n.count c.into_iter-before-iterator.ensures.into_iter_gives in
    let e : b.total + 1 - 1 ≡ length (entries_of b.bytes.now) = omega (arith, b.counted) in
    record {
      goes = (tt, tt, o.1);
      ends = tt;
      over = o.0;
      noted = rw c.new-firsts.ensures (noted-start _ _);
      used = rw c.new-firsts.ensures;
      rest = rw e;
    }

pub entry_fault-requires : goal.entry_fault-requires
entry_fault-requires g c =
    let h = here (goal.at.entry_fault-requires g c).In-Some in
    let i = c.loop-before.invariant in
    (search rules, (search rules, (omega (arith, h.same, h.before, i.noted.few, c.requires.0), omega (arith, h.same, h.before, i.noted.few, c.requires.1), i.used, omega (arith, c.requires.3))))

pub overflow_cast-result : goal.overflow_cast-result
overflow_cast-result g c =
    let h = here (goal.at.overflow_cast-result g c).In-Some in
    omega (arith, h.before, c.args.blocks.few)

pub loop-before-preserved : goal.loop-before-preserved
loop-before-preserved g c =
    let h = here (goal.at.loop-before-preserved g c).In-Some in
    let i = c.loop-before.invariant in
    let f = c.entry_fault.ensures.noted _ _ (c.from.ensures ∙ h.entry) (rw (← h.same) at i.noted) in
    record {
      goes = c.in-Some.ensures.goes.keeps;
      ends = tt;
      over = i.over;
      noted = rw h.more (f.1 c.in_default.is);
      used = c.entry_fault.ensures.used;
      rest = rw h.more (i.rest ∙ rw (← h.same) (rows-more _ _ (c.in-Some.before + 1) c.args.blocks.total (omega (arith, h.before)) (sym f.0 ∙ c.in_default.is)));
    }

pub returns-in-Some-entry_fault : goal.returns-in-Some-entry_fault
returns-in-Some-entry_fault g c =
    let h = here (goal.at.returns-in-Some-entry_fault g c).In-Some in
    let i = c.loop-before.invariant in
    let f = c.entry_fault.ensures.noted _ _ (c.from.ensures ∙ h.entry) (rw (← h.same) at i.noted) in
    let es = entries_of c.args.blocks.bytes.now in
    let found : first (rows_from (delivered_rows c.args.total es) 1 (length es)) ≡ Faulty c.in-Some-entry_fault.cause (c.in-Some.before + 1) =
    i.rest ∙ rw (← h.same) (rows-found _ _ (c.in-Some.before + 1) c.args.blocks.total (omega (arith, h.before)) (sym f.0 ∙ c.in-Some-entry_fault.is)) in
    ap (answer 1 tt) (sym found)

pub returns : goal.returns
returns g c =
    let l = c.loop-before in
    let n = ended l.invariant.over _ _ l.yielded_by c.next.new.self c.in-None.is c.next.ensures.steps in
    ap (answer 1 tt) (sym (l.invariant.rest ∙ rows-end _ _ _ c.args.blocks.total (omega (arith, n))))
