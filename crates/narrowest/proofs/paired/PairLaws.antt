-- Which links a place closes.
-- Assumes nothing.
use Prim.Native.Nat.{◌*◌, ◌+◌, ◌≤◌, ℕ}
use lib.Dec.{eqb}
use lib.ListN.{get_or, length, length-map}
use mathlib.Core.Bool.{false}
use mathlib.Core.List.{List}
use mathlib.Core.Logic.{◌≢◌}
use mathlib.Core.Option.{none, some}
use mathlib.Core.Path.{◌∙◌, ◌≡◌, ap, refl, sym}
use Rattle.base.proofs.Tests.{eq-cases, eq-eqb, gt-leb, le-leb, ne_eqb}
use native.Mathlib.Omega.{arith}
use Rattle.logic.specs.Normal.{find}
use Rattle.logic.specs.Place.{Place, most}
use Rattle.meaning.proofs.Descriptions.Lookups.{match-within}
use Rattle.meaning.specs.Lookup.{entry_for}
use Rattle.narrowest.specs.code.Codes.{closes, mated}
use Rattle.narrowest.specs.code.Forms.{Held, entries_in}
use Rattle.unfolding.specs.code.Rows.{entry_of_row}

pub closes-some : (l m : ℕ) (t : Place) → find most l t ≡ some m → eqb m 0 ≡ closes l t
closes-some l m t e =
    rw e (eq-cases m 0
    (λ z. rw (eq-eqb z, le-leb {m = m} {n = 0} (omega arith)) refl)
    (λ z. rw (ne_eqb z, gt-leb {m = m} {n = 0} (omega arith)) refl))

pub closes-none : (l : ℕ) (t : Place) → find most l t ≡ none → false ≡ closes l t
closes-none l t e = rw e refl

-- an entry that is found, or none, by its number
pub found-within : (rows : List ℕ) (o k n : ℕ) {r : ℕ} → r ≡ entry_for (entries_in rows) o k n → r ≤ length rows
found-within rows o k n e = omega (arith, e, match-within (entries_in rows) o k n, length-map rows entry_of_row)

pub found-small : {rows : List ℕ} → Held rows → (o k n : ℕ) {r : ℕ} → r ≡ entry_for (entries_in rows) o k n → r ≤ 1008
found-small {rows} H o k n e = omega (arith, found-within rows o k n e, H.few)

-- the code of an 'every' and its mate
pub mated-none : (M : List ℕ) {m j : ℕ} → m ≡ j → get_or M m 0 ≡ 0 → 0 ≡ mated M j
mated-none M {m} {j} e z = let y : get_or M j 0 ≡ 0 = ap (λ (x : ℕ). get_or M x 0) (sym e) ∙ z in rw (eq-eqb y) refl

pub mated-some : (M : List ℕ) {m j : ℕ} → m ≡ j → get_or M m 0 ≢ 0 → 1024 * m + get_or M m 0 ≡ mated M j
mated-some M {m} {j} e z =
    let y : get_or M j 0 ≢ 0 = λ q. z (ap (λ (x : ℕ). get_or M x 0) e ∙ q) in
    rw (ne_eqb y) (ap (λ (x : ℕ). 1024 * x + get_or M x 0) e)
