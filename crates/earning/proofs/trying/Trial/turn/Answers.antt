-- `turn` meets its contract: an 'every' is passed by, or a run is tried.
use mathlib.Core.Path.{◌∙◌, refl, sym}
use native.Mathlib.Omega.{arith}
use Rattle.blocks.specs.Entries.{entries_of}
use Rattle.earning.proofs.FoldLaws.{turn-skips, turn-tried}
use Rattle.earning.proofs.TriedLaws.{mark-read}
use Rattle.earning.specs.code.Tried.{enough, set_of}
use Rattle.pairs.specs.Pairs.{under}
use Rattle.earning.proofs.trying.Trial.turn.Goals as goal

pub returns-then-not-kept-at-clause-goes : goal.returns-then-not-kept-at-clause-goes
returns-then-not-kept-at-clause-goes c = λ pre es L more o.
    let a = c.args in
    turn-skips (enough (under a.service.exclusions.pairs.now) pre es (entries_of a.service.bytes.now)) es c.requires.0 refl
    (sym (mark-read a.kept.now _ a.at.to (omega (arith, c.told-kept, c.requires.1, a.tried.few))) ∙ c.if-not-kept-at.true) o

pub returns-clause-goes : goal.returns-clause-goes
returns-clause-goes c = λ pre es L more o.
    let a = c.args in
    let p = c.leaves-goes.ensures pre es L o in
    turn-tried (enough (under a.service.exclusions.pairs.now) pre es (entries_of a.service.bytes.now)) more es (set_of a.kept.now) (set_of c.leaves-goes.new.kept) c.leaves-goes.result
    (omega (arith, c.min-run.ensures, c.requires)) (omega (arith, c.min-run.ensures)) o p.0 p.1 c.after.ensures.2
