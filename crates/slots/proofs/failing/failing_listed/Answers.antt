-- `failing_listed` meets its contract: the list is indexed whole.
use Rattle.std.proofs.Common.{◌∙◌, List, ℕ, subst}
use Rattle.pairs.proofs.IndexLaws.{list-whole}
use Rattle.pairs.specs.Pairs.{under}
use Rattle.slots.specs.code.Standing.{Judges}
use Rattle.slots.proofs.failing.failing_listed.Goals as goal

pub failing_indexed-requires : goal.failing_indexed-requires
failing_indexed-requires c = rw (c.new-exclusions.ensures.listed ∙ list-whole _ c.requires.0) c.requires.1

pub returns : goal.returns
returns c =
    let a = c.args in
    subst (λ (P : List ℕ). Judges (under P) a.c.now a.d.now a.table.now c.failing_indexed.result c.failing_indexed.new.table)
    (c.new-exclusions.ensures.listed ∙ list-whole _ c.requires.0) c.failing_indexed.ensures
