-- `items_ok` meets its contract, test by test.
use Rattle.std.proofs.Common.{ap, not}
use Rattle.base.proofs.Tests.{confirmed, eq-eqb, ne_eqb, refuted}
use Rattle.delivered.specs.Reading.{items_ok}
use Rattle.delivered.proofs.entries.items_ok.Goals as goal

pub returns-then-not-is_item : goal.returns-then-not-is_item
unfolding items_ok
returns-then-not-is_item c = rw (items_ok, refuted c.is_item.ensures (ap not c.if-not-is_item.true))

pub returns-then-e-ne-LINKED : goal.returns-then-e-ne-LINKED
unfolding items_ok
returns-then-e-ne-LINKED c = rw (items_ok, confirmed c.is_item.ensures (ap not c.if-not-is_item.false), ne_eqb c.if-e-ne-LINKED.true)

pub returns-else-e-ne-LINKED : goal.returns-else-e-ne-LINKED
unfolding items_ok
returns-else-e-ne-LINKED c =
    rw (items_ok, confirmed c.is_item.ensures (ap not c.if-not-is_item.false), eq-eqb c.if-e-ne-LINKED.false) c.is_item-else-e-ne-LINKED.ensures
