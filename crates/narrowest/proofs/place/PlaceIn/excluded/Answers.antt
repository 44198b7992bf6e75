-- `excluded` meets its contract: those that exclude the property are looked for.
use Rattle.std.proofs.Common.{◌∙◌, sym, rules, tests}
use Rattle.logic.specs.Normal.{find, found}
use Rattle.logic.specs.Place.{has}
use Rattle.narrowest.proofs.lacking.LackLaws.{excluded-partner}
use Rattle.narrowest.specs.code.Places.{place_in}
use Rattle.pairs.proofs.Partners.{any-partnered}
use Rattle.narrowest.proofs.place.PlaceIn.excluded.Goals as goal

pub returns : goal.returns
returns c =
    let P = c.args.exclusions.pairs.now in
    let t = place_in c.args.self in
    any-partnered P (λ q. found (find has q t)) c.args.p.0 c.any.new.self _ _ c.any.ensures.ran c.excluding.ensures (λ x b q k. search (rules, tests))
    ∙ sym (excluded-partner P c.args.p.0 t)
