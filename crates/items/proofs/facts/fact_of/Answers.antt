-- `fact_of` meets its contract: it takes five bytes at most.
use Rattle.std.proofs.Common.{◌≡◌, ◌≤◌, ◌<◌, ◌∙◌, eqb, refl, arith, rules}
use mathlib.Core.Bool.{Bool, false, true}
use mir.Val.{bool_byte}
use Rattle.base.specs.Range.{bit}
use Rattle.items.specs.code.Record.{fact_of}
use Rattle.items.proofs.facts.fact_of.Goals as goal

byte-bit : (b : Bool) → bool_byte b ≡ bit b
byte-bit true = refl
byte-bit false = refl

bit-few : (b : Bool) → bit b ≤ 1
bit-few true = omega arith
bit-few false = omega arith

pub returns : goal.returns
unfolding fact_of
returns c =
    let e = c.args.e in
    let link : c.from-2.result ≡ bit (eqb e.kind 8) = c.from-2.ensures ∙ byte-bit (eqb e.kind 8) in
    let owner : e.owner < 65536 = search rules in
    let name : e.name < 65536 = search rules in
    let number : e.number < 65536 = search rules in (
      rw (fact_of, c.from.ensures, link, c.saturating_sub.ensures, c.from-3.ensures, c.saturating_sub-2.ensures, c.from-4.ensures),
      omega (arith, c.from.ensures, link, bit-few (eqb e.kind 8), c.saturating_sub.ensures, c.from-3.ensures, c.saturating_sub-2.ensures, c.from-4.ensures, owner, name, number),
    )
