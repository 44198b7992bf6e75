-- `restricted_property` meets its contract.
use Rattle.std.proofs.Common.{ap, not}
use Rattle.base.proofs.Tests.{false_of_not, true_of_not}
use Rattle.slots.proofs.restrict.RestrictLaws.{property-made}
use Rattle.slots.specs.code.Tables.{property_word}
use Rattle.slots.proofs.restrict.restricted_property.Goals as goal

pub returns-then-not-out : goal.returns-then-not-out
unfolding property_word
returns-then-not-out c = rw (property_word, false_of_not c.args.out (ap not c.if-not-out.true))

pub returns : goal.returns
returns c =
    property-made _ (true_of_not c.args.out (ap not c.if-not-out.false)) c.key_in.ensures.0 c.low_in.ensures.0 c.low_in-2.ensures.0
    c.excluded_high.ensures.0 c.make_slot.ensures
