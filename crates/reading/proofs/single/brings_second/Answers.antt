-- `brings_second` meets its contract: an earlier group of the owner and the link is there exactly where its key has a number.
use Rattle.std.proofs.Common.{ap, refl, not}
use Rattle.base.proofs.Tests.{both_ways, confirmed, lt-ltb, refuted}
use Rattle.blocks.proofs.Refusing.SingleLaws.{nine-many, nine-other}
use Rattle.blocks.proofs.Refusing.SingleTable.{kept-entered, kept-other}
use Rattle.reading.proofs.single.brings_second.Goals as goal

pub returns-then-not-single_group : goal.returns-then-not-single_group
returns-then-not-single_group g c =
    let q = refuted c.single_group.ensures (ap not c.if-not-single_group.true) in
    λ es n at K. (nine-other es n at q, λ z. kept-other K at q)

pub returns-then-e-gt0 : goal.returns-then-e-gt0
returns-then-e-gt0 g c =
    let q = confirmed c.single_group.ensures (ap not c.if-not-single_group.false) in
    λ es n at K. rw (lt-ltb c.if-e-gt0.true) (nine-many es n at q c.if-e-gt0.true, λ z. both_ways refl z)

pub returns-else-e-gt0 : goal.returns-else-e-gt0
returns-else-e-gt0 g c =
    let q = confirmed c.single_group.ensures (ap not c.if-not-single_group.false) in
    let k = c.key_of.ensures in
    λ es n at K.
    rw c.is_some.ensures (kept-entered K at q k.1 c.if-e-gt0.false k.0 c.enter.ensures.0 c.enter.ensures.1 c.requires)
