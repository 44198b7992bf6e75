-- `implies_lack` meets its contract: those that exclude the property are looked for.
use Rattle.std.proofs.Common.{◌∙◌, ◌&&◌, sym, rules, tests}
use Rattle.logic.specs.Normal.{find, found}
use Rattle.logic.specs.Place.{has}
use Rattle.narrowest.proofs.lacking.LackLaws.{implied-partner}
use Rattle.narrowest.specs.code.Places.{place_in}
use Rattle.pairs.proofs.Partners.{any-partnered}
use Rattle.narrowest.proofs.lacking.Sides.implies_lack.Goals as goal

pub returns : goal.returns
returns c =
    let P = c.args.exclusions.pairs.now in
    let t = place_in c.args.self.first in
    let u = place_in c.args.self.second in
    any-partnered P (λ q. found (find has q t) && found (find has q u)) c.args.p.0 c.any.new.self _ _ c.any.ensures.ran c.excluding.ensures (λ x b q k. search (rules, tests))
    ∙ sym (implied-partner P c.args.p.0 t u)
