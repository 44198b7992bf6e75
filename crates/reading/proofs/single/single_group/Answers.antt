-- `single_group` meets its contract: the number is that of a group and of a single link exactly where it is made of these.
use Rattle.std.proofs.Common.{◌≡◌, ◌∙◌, ap, ℕ, ◌+◌, ◌*◌, ◌<◌, ◌&&◌, eqb, arith, refl, rules}
use mathlib.Core.Bool.{Bool, false, true}
use mir.Val.{bool_byte}
use Rattle.base.proofs.Tests.{eq-cases, ne_eqb}
use Rattle.base.specs.Links.{is_single}
use Rattle.reading.proofs.single.single_group.Goals as goal

told : (kind : ℕ) (single : Bool) → kind < 256 → eqb (256 * bool_byte single + kind) 263 ≡ eqb kind 7 && single
told kind true k = eq-cases kind 7 (λ q. rw q refl) (λ q. rw (ne_eqb q) (ne_eqb (λ y. q (omega arith))))
told kind false k = eq-cases kind 7 (λ q. rw q refl) (λ q. rw (ne_eqb q) (ne_eqb (λ y. q (omega arith))))

pub returns : goal.returns
returns c =
    let k : c.args.e.kind < 256 = search rules in
    let s : c.is_single.result ≡ is_single c.args.e.name = c.is_single.ensures ∙ ap is_single c.link.ensures in
    rw (c.from.ensures, c.from-2.ensures, c.from-3.ensures, ← s) (told c.args.e.kind c.is_single.result k)
