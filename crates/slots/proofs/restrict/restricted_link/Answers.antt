-- `restricted_link` meets its contract.
use Rattle.std.proofs.Common.{◌∙◌, sym}
use Rattle.slots.proofs.restrict.RestrictLaws.{link-made}
use Rattle.slots.specs.code.Tables.{link_word}
use Rattle.slots.proofs.restrict.restricted_link.Goals as goal

pub returns-then-below_single : goal.returns-then-below_single
unfolding link_word
returns-then-below_single c = rw (link_word, ← c.key_in.ensures.0, sym c.below_single.ensures ∙ c.if-below_single.true)

pub returns : goal.returns
returns c =
    link-made _ c.key_in.ensures.0 (sym c.below_single.ensures ∙ c.if-below_single.false) c.key_in-2.ensures.0 c.low_in.ensures.0
    c.low_in-2.ensures.0 c.high_in.ensures.0 c.single_high.ensures.0 c.make_slot.ensures
