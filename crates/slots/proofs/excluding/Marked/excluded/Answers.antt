-- `excluded` meets its contract: the marks of its place tell what it has.
use Rattle.std.proofs.Common.{◌∙◌, sym, subst}
use Rattle.pairs.specs.code.Sides.{Marks}
use Rattle.passes.specs.code.Restrict.{has_at}
use Rattle.slots.proofs.excluding.ExcludingLaws.{excluded-partnered}
use Rattle.slots.proofs.excluding.Marked.excluded.Goals as goal

pub returns : goal.returns
returns c = λ ss M.
    let a = c.args in
    let here = subst (Marks a.self.exclusions.pairs.now (has_at ss a.place)) (sym c.at.ensures) (M.each a.place) in
    c.excluded_beside.ensures (has_at ss a.place) here ∙ sym (excluded-partnered a.self.exclusions.pairs.now a.place a.p.0 ss)
