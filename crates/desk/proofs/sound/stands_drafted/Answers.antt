-- `stands_drafted` meets its contract.
use Rattle.std.proofs.Common.{◌<◌, ◌≤◌, ◌∙◌, sym, ℕ, get_or, arith}
use Rattle.base.proofs.RangeLaws.{all-no, all_end, all_yes}
use Rattle.drafts.proofs.SoundLaws.{few-kept, few-stands}
use Rattle.drafts.specs.Memory.{area, entries_at}
use Rattle.drafts.specs.Sound.{drafted}
use Rattle.desk.proofs.sound.stands_drafted.Goals as goal

pub bounds-desk-j : goal.bounds-desk-j
bounds-desk-j c =
    let few = few-stands c.args.desk c.requires.1 in omega (arith, few, c.loop-j-test.true, c.from-j-end.ensures)

pub area_drafted-requires : goal.area_drafted-requires
area_drafted-requires c =
    let few = few-stands c.args.desk c.requires.1 in
    let l : c.loop-j.j < c.args.desk.stands = omega (arith, c.loop-j-test.true, c.from-j-end.ensures) in
    let kept = few-kept c.args.desk c.requires.1 c.loop-j.j l in
    (omega (arith, few, l, kept, c.requires.0), kept)

pub returns-then-not-area_drafted : goal.returns-then-not-area_drafted
returns-then-not-area_drafted c =
    let l : c.loop-j.j < c.args.desk.stands = omega (arith, c.loop-j-test.true, c.from-j-end.ensures) in
    sym (c.loop-j.invariant
    ∙ all-no (λ (j : ℕ). drafted (entries_at c.args.memory.now (area j) (get_or c.args.desk.counts j 0))) c.loop-j.j c.args.desk.stands l
    (sym c.area_drafted.ensures.tells ∙ c.if-not-area_drafted.true))

pub loop-j-preserved : goal.loop-j-preserved
loop-j-preserved c =
    let l : c.loop-j.j < c.args.desk.stands = omega (arith, c.loop-j-test.true, c.from-j-end.ensures) in
    c.loop-j.invariant
    ∙ all_yes (λ (j : ℕ). drafted (entries_at c.args.memory.now (area j) (get_or c.args.desk.counts j 0))) c.loop-j.j c.args.desk.stands l
    (sym c.area_drafted.ensures.tells ∙ c.if-not-area_drafted.false)

pub returns : goal.returns
returns c =
    let e : c.args.desk.stands ≤ c.loop-j.j = omega (arith, c.loop-j-test.false, c.from-j-end.ensures) in
    sym (c.loop-j.invariant
    ∙ all_end (λ (j : ℕ). drafted (entries_at c.args.memory.now (area j) (get_or c.args.desk.counts j 0))) c.loop-j.j c.args.desk.stands e)
