-- `fill_listed` meets its contract: the list is indexed whole.
use Rattle.std.proofs.Common.{◌∙◌, List, ℕ, subst}
use Rattle.pairs.proofs.IndexLaws.{list-whole}
use Rattle.pairs.specs.Pairs.{under}
use Rattle.slots.specs.code.Standing.{Fills}
use Rattle.slots.proofs.filling.fill_listed.Goals as goal

pub returns : goal.returns
returns c =
    let a = c.args in
    let f = c.fill_indexed in
    subst (λ (P : List ℕ). Fills (under P) a.d.now a.table.now a.bad.now a.full.now f.result f.new.table f.new.bad f.new.full)
    (c.new-exclusions.ensures.listed ∙ list-whole _ c.requires) f.ensures
