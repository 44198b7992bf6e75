-- `read_dictionary` meets its contract: its length, the number of its descriptions, then these in turn.
use Prim.Native.Nat.{ℕ}
use mathlib.Core.Path.{◌∙◌, ◌≡◌, sym}
use native.Mathlib.Omega.{arith}
use Rattle.names.proofs.Legality.NamedReadings.{dictionary-broken, dictionary-many, dictionary-parts}
use Rattle.unfolding.proofs.dictionary.read_dictionary.Goals as goal

pub returns-then-bytes-ne0 : goal.returns-then-bytes-ne0
returns-then-bytes-ne0 c = (sym (dictionary-broken _ c.if-bytes-ne0.true), λ n q. let z : ◌≡◌ {A = ℕ} 0 1 = cc in absurd (omega arith))

pub returns-then-parts_in-gt64 : goal.returns-then-parts_in-gt64
returns-then-parts_in-gt64 c =
    let many = dictionary-many c.args.bytes.now c.if-bytes-ne0.false (omega (arith, c.if-parts_in-gt64.true, c.parts_in.ensures)) in
    (sym many, λ n q. let z : ◌≡◌ {A = ℕ} 0 1 = cc in absurd (omega arith))

pub returns : goal.returns
returns c =
    let r = c.read_parts.ensures in
    let few = dictionary-parts c.args.bytes.now c.if-bytes-ne0.false (omega (arith, c.if-parts_in-gt64.false, c.parts_in.ensures)) in
    (r.0 ∙ sym few, r.1)
