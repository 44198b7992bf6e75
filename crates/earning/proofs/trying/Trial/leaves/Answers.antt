-- `leaves` meets its contract: the run stays out, or is put back.
use mathlib.Core.Path.{◌∙◌, ap, fun_ext, sym}
use Rattle.blocks.specs.Entries.{entries_of}
use Rattle.earning.proofs.TrialLaws.{put-again}
use Rattle.earning.specs.code.Tried.{enough, set_of}
use Rattle.pairs.specs.Pairs.{under}
use mathlib.Core.Bool.{cond}
use lib.Dec.{leb, ltb}
use mathlib.Core.Bool.{Bool, ◌&&◌}
use Rattle.narrow.specs.Earned.{sayers}
use Rattle.earning.proofs.trying.Trial.leaves.Goals as goal

pub returns : goal.returns
returns c = λ pre es L o.
    let a = c.args in
    let K = set_of a.kept.now in (
      sym c.if-passes.false ∙ c.passes.ensures pre es L ∙ ap (enough (under a.service.exclusions.pairs.now) pre es (entries_of a.service.bytes.now)) (fun_ext c.leave_out.ensures),
      λ k. c.put_back.ensures pre es L k ∙ ap (λ (b : Bool). cond (ltb a.from k && leb k a.to) (sayers es k) b) (c.leave_out.ensures k) ∙ put-again es a.from a.to K o k,
    )
