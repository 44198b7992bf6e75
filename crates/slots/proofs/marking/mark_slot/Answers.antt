-- `mark_slot` meets its contract: a slot marks its place, or nothing.
use Rattle.std.proofs.Common.{◌≡◌, ◌%◌, ℕ, eqb, ap, not, subst}
use Rattle.base.proofs.Tests.{confirmed, refuted}
use Rattle.pairs.specs.code.Sides.{Marks}
use Rattle.slots.specs.code.Tables.{key_in}
use Rattle.slots.proofs.marking.MarkingLaws.{slot_marked, slot_unmarked}
use Rattle.slots.proofs.marking.mark_slot.Goals as goal

pub returns-then-not-is_marked : goal.returns-then-not-is_marked
returns-then-not-is_marked c = λ ss M.
    slot_unmarked c.args.exclusions.indexed c.args.x M (refuted c.is_marked.ensures (ap not c.if-not-is_marked.true))

pub returns : goal.returns
returns c = λ ss M.
    let P = c.args.exclusions.pairs.now in
    let name : c.key_in.result % 65536 ≡ key_in c.args.x % 65536 = ap (λ (k : ℕ). k % 65536) c.key_in.ensures.0 in
    let named = subst (λ (n : ℕ). Marks P (λ q. eqb q n) c.sides-sides.result) name c.sides-sides.ensures in
    let there = confirmed c.is_marked.ensures (ap not c.if-not-is_marked.false) in
    rw c.join.ensures (slot_marked c.args.exclusions.indexed c.args.x M there c.place_in-v.ensures (rw (← c.place_in-v.ensures) at c.requires) named)
