-- `note_lack` meets its contract: noted where the joined place lists it.
use Rattle.std.proofs.Common.{ap, not, ◌∙◌, ◌∷◌, [], ℕ}
use mathlib.Core.Path.{refl}
use Rattle.base.proofs.Tests.{confirmed, refuted}
use Rattle.narrowest.proofs.lacks.NoteLaws.{lack-listed, lack_none}
use Rattle.narrowest.proofs.rows.CountLaws.{counted-as}
use Rattle.narrowest.specs.code.Places.{place_in}
use Rattle.narrowest.proofs.lacks.note_lack.Goals as goal

pub returns-then-not-lists_lack : goal.returns-then-not-lists_lack
returns-then-not-lists_lack c =
    let a = c.args in
    lack_none a.exclusions.pairs.now (place_in a.sides.first) (place_in a.sides.second) a.p.0 c.requires (refuted c.lists_lack.ensures (ap not c.if-not-lists_lack.true))

pub returns : goal.returns
returns c =
    let a = c.args in
    counted-as c.push.ensures refl
    (ap (λ (y : ℕ). y ∷ []) c.from.ensures ∙ lack-listed a.exclusions.pairs.now (place_in a.sides.first) (place_in a.sides.second) a.p.0 (confirmed c.lists_lack.ensures (ap not c.if-not-lists_lack.false)))
