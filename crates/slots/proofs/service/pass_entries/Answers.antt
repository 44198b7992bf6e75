use Rattle.std.proofs.Common.{◌≡◌, ◌∙◌, ◌+◌, ◌<◌, ◌≤◌, ℕ, List, ap, arith, get_or, suc}
use Rattle.std.proofs.lemmas.Result.{err_from_is_err_and}
use Rattle.std.specs.Iterator.Adapters.{enumerate_count}
use Rattle.blocks.proofs.Refusing.LevelLaws.{levels-start}
use Rattle.blocks.specs.Entries.{entries_of, nth}
use Rattle.blocks.specs.declared.Entry.{Entry}
use Rattle.slots.proofs.service.LeftLaws.{Resting, all-faults, left-end, left-may, left-next, left-start, resting-all, resting-more, resting-refused, resting-start}
use Rattle.slots.proofs.service.ServiceLaws.{judged-all, judged-fails, judged-more, judged-start, judged-state, owner-early}
use Rattle.slots.specs.code.Pass.{Left}
use Rattle.slots.proofs.service.pass_entries.Goals.{After-enumerate-rest, After-from, In_ok-check_entry}
use Rattle.slots.proofs.service.pass_entries.Goals as goal

-- all are left
begins : (c : After-enumerate-rest) → Left c.args.d.now c.args.total c.enumerate-rest.result
begins c =
    let p = c.requires in
    let n = c.enumerate-rest.ensures in
    left-start p.2 (omega (arith, p.0)) c.entries_in_order.ensures.items n.source n.count

pub loop-before-init-derived : goal.loop-before-init-derived
loop-before-init-derived c = ((tt, tt, left-may _ (begins c) (omega (arith, c.requires.1))), tt)

pub loop-before-init : goal.loop-before-init
loop-before-init c =
    let p = c.requires in
    let z = c.enumerate-rest.ensures.count in
    record {
      resting = resting-start (begins c) z (levels-start _ _ c.args.level.now (omega (arith, p.0, p.1)));
      judged = rw z (judged-start c.args.states.now (omega (arith, p.0, p.1)));
    }

pub returns-in_err-check_entry : goal.returns-in_err-check_entry
returns-in_err-check_entry c =
    let p = err_from_is_err_and c.from_residual.result c.from_residual.ensures.1 in
    let r = resting-refused c.loop-before.invariant.resting c.next.new.self c.in-Some.before c.in-Some.bytes c.in-Some.ensures.steps
    c.from-e.ensures _ _ _ c.check_entry.ensures c.in_err-check_entry.was in
    rw (p.1, p.2) (all-faults _ _ ∙ r.0, r.1)

-- it is checked
checked : (c : In_ok-check_entry) → Resting c.args.d.now c.args.total 0 c.next.new.self c.check_entry.new.level
checked c =
    resting-more c.loop-before.invariant.resting c.next.new.self c.in-Some.before c.in-Some.bytes c.in-Some.ensures.steps
    c.from-e.ensures _ _ _ c.check_entry.ensures c.in_ok-check_entry.was

-- it is the entry after those passed, and its owner stands earlier
record This (es : List Entry) (total n k m : ℕ) (e : Entry) : Type 0 where
  now : k ≡ n
  next : m ≡ k + 1
  there : n < total
  entry : e ≡ nth es (suc n)
  owner : e.owner ≤ n

this : (c : In_ok-check_entry)
    → This (entries_of c.args.d.now) c.args.total (enumerate_count c.loop-before.rest) c.in-Some.before (enumerate_count c.next.new.self) c.from-e.result
this c =
    let x =
    left-next c.loop-before.rest c.next.new.self c.in-Some.before c.in-Some.bytes c.loop-before.invariant.resting.left c.in-Some.ensures.steps in
    let is' : c.from-e.result ≡ nth (entries_of c.args.d.now) (c.in-Some.before + 1) = c.from-e.ensures ∙ x.2 in
    record {
      now = x.0;
      next = x.4;
      there = omega (arith, x.0, x.1);
      entry = is' ∙ ap (nth _) (omega (arith, x.0));
      owner = omega (arith, x.0, owner-early _ (rw x.4 at (checked c).levels) (omega arith) is');
    }

-- the state of its owner is read
state-read : (c : After-from) → get_or c.loop-before.states c.from.result 0 ≡ get_or c.loop-before.states c.from-e.result.owner 0
state-read c = ap (λ (o : ℕ). get_or c.loop-before.states o 0) c.from.ensures

pub bounds-states-from : goal.bounds-states-from
bounds-states-from c =
    let w = this (goal.at.bounds-states-from c).In_ok-check_entry in
    omega (arith, c.from.ensures, w.owner, w.there, c.requires.0, c.loop-before.invariant.judged.room)

pub look-requires : goal.look-requires
look-requires c =
    let at = goal.at.look-requires c in
    let w = this at.In_ok-check_entry in
    (omega arith, (judged-state c.loop-before.invariant.judged (omega (arith, w.there, c.requires.0)) w.entry (state-read at.After-from) w.owner, c.args.supplier.right))

pub loop-before-preserved : goal.loop-before-preserved
loop-before-preserved c =
    let at = goal.at.loop-before-preserved c in
    let w = this at.In_ok-check_entry in
    let k = c.in-Some-look.ensures in
    record {
      resting = checked at.In_ok-check_entry;
      judged = rw w.next (judged-more c.loop-before.invariant.judged (omega (arith, w.there, c.requires.0)) w.entry (state-read at.After-from)
          (omega (arith, w.now)) k.0 k.2 k.1);
    }

pub returns-in_err-check_rest-in-None : goal.returns-in_err-check_rest-in-None
returns-in_err-check_rest-in-None c =
    let R = checked (goal.at.returns-in_err-check_rest-in-None c).In_ok-check_entry in
    let p = err_from_is_err_and c.from_residual-in_err-check_rest-in-None.result c.from_residual-in_err-check_rest-in-None.ensures.1 in
    let r = c.in_err-check_rest-in-None.ensures c.args.d.now c.args.total R.left R.levels in
    rw (p.1, p.2) (all-faults _ _ ∙ R.rest ∙ r.0, r.1)

pub returns-in-None : goal.returns-in-None
returns-in-None c =
    let at = goal.at.returns-in-None c in
    let R = checked at.In_ok-check_entry in
    let w = this at.In_ok-check_entry in
    let number : c.in-Some.before + 1 ≡ suc (enumerate_count c.loop-before.rest) = omega (arith, w.now) in (
      all-faults _ _ ∙ R.rest ∙ c.in_ok-check_rest-in-None.ensures c.args.d.now c.args.total R.left R.levels,
      λ O ss x. number ∙ judged-fails c.loop-before.invariant.judged (omega (arith, w.there, c.requires.0)) w.entry
          (state-read at.After-from) w.there c.in-None.ensures.1 O ss x,
      omega arith,
    )

pub returns : goal.returns
returns c =
    let i = c.loop-before.invariant in
    let n = left-end _ c.next.new.self i.resting.left c.in_default.ensures.steps in
    (all-faults _ _ ∙ resting-all i.resting n, judged-all i.judged n, tt)
