-- `stands_ok` meets its contract.
use Rattle.std.proofs.Common.{◌∙◌, sym, arith}
use Rattle.base.proofs.RangeLaws.{all-no, all_end, all_yes}
use Rattle.drafts.specs.Sound.{stand_ok}
use Rattle.desk.proofs.sound.stands_ok.Goals as goal

pub returns-then-not-stand_ok : goal.returns-then-not-stand_ok
returns-then-not-stand_ok c =
    let l = c.loop-j in
    sym (l.invariant ∙ all-no (stand_ok c.args.desk) l.j 4 (omega (arith, c.loop-j-test.true)) (sym c.stand_ok.ensures ∙ c.if-not-stand_ok.true))

pub loop-j-preserved : goal.loop-j-preserved
loop-j-preserved c =
    let l = c.loop-j in
    l.invariant ∙ all_yes (stand_ok c.args.desk) l.j 4 (omega (arith, c.loop-j-test.true)) (sym c.stand_ok.ensures ∙ c.if-not-stand_ok.false)

pub returns : goal.returns
returns c =
    let l = c.loop-j in
    sym (l.invariant ∙ all_end (stand_ok c.args.desk) l.j 4 (omega (arith, c.loop-j-test.false)))
