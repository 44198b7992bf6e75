-- `level_under` meets its contract.
use Rattle.std.proofs.Common.{◌∙◌, sym, arith}
use Rattle.base.proofs.Tests.{eq-eqb, ne_eqb}
use Rattle.blocks.specs.code.ReadingSteps.{level_under}
use Rattle.reading.proofs.rules.level_under.Goals as goal

pub returns-then-kind-owning_kind : goal.returns-then-kind-owning_kind
unfolding level_under
returns-then-kind-owning_kind c = simp (level_under, eq-eqb (c.if-kind-owning_kind.true ∙ c.owning_kind.ensures)) (omega arith)

pub returns-else-kind-owning_kind : goal.returns-else-kind-owning_kind
unfolding level_under
returns-else-kind-owning_kind c = simp (level_under, ne_eqb (λ q. c.if-kind-owning_kind.false (q ∙ sym c.owning_kind.ensures)))
