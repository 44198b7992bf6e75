-- `first_double` meets its contract: where no entry is a group by such a link, none breaks number 9.
use Rattle.std.proofs.Common.{◌≡◌, false, true, refl, rules, arith}
use Rattle.std.proofs.lemmas.Iterator.{cases_from_any}
use borrow.Author.Tests.{tests}
use Rattle.blocks.proofs.Refusing.InOrder.{Over, each-front, gives, over}
use Rattle.blocks.proofs.Refusing.SingleSearch.{none-double}
use Rattle.blocks.specs.Single.{single_group}
use Rattle.firsts.proofs.RoomLaws.{room-enough}
use Rattle.reading.proofs.single.first_double.Goals as goal

pub returns-then-not-any : goal.returns-then-not-any
returns-then-not-any c =
    let p = c.requires in
    let o : Over c.args.s.now c.args.n c.entries_in_order.result = over p.2 p.0 c.entries_in_order.ensures.items refl in
    let cases = cases_from_any c.any.new.self _ c.any.result (λ e. single_group e ≡ true) (λ e. single_group e ≡ false) c.any.ensures.ran (gives o) (λ x q k. search (rules, tests)) (λ x q k. search (rules, tests)) in
    none-double _ _ (each-front (λ e. single_group e ≡ false) _ _ p.0 (rw c.if-not-any.true at cases))

-- either table has room
pub double_in_table-requires : goal.double_in_table-requires
double_in_table-requires c =
    let p = c.requires in
    (p.0, p.1, p.2, room-enough 64 194 64 (omega arith) (omega arith) (omega arith) (omega (arith, c.if-n-lt64.true)), omega arith, omega arith)

pub double_in_table-requires-2 : goal.double_in_table-requires-2
double_in_table-requires-2 c =
    let p = c.requires in
    (p.0, p.1, p.2, room-enough 4096 8130 2016 (omega arith) (omega arith) (omega arith) p.1, omega arith, omega arith)
