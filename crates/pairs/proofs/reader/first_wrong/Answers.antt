-- `first_wrong` meets its contract.
use Rattle.std.proofs.Common.{◌≡◌, true, false, rules, tests}
use Rattle.std.proofs.lemmas.Iterator.{first_from_Range}
use Rattle.pairs.proofs.reader.PairLaws.{found-first}
use Rattle.pairs.specs.code.Search.{pair_right}
use Rattle.pairs.proofs.reader.first_wrong.Goals as goal

pub returns : goal.returns
returns c =
    let right = pair_right c.args.pairs.now in
    found-first right c.args.n _
    (first_from_Range _ _ _ _ (λ i. right i ≡ false) (λ i. right i ≡ true) c.find.ensures.ran (λ x q k. search (rules, tests)) (λ x q k. search (rules, tests)))
