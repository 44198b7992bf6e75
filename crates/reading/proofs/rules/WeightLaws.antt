-- The weights by which the form of an entry is seen at a look.
use Prim.Native.Nat.{◌*◌, ◌+◌, ◌<◌, ◌≤◌, ℕ}
use lib.Dec.{eqb}
use Rattle.std.specs.Prelude.{None}
use mathlib.Core.Bool.{◌||◌, false, true}
use mathlib.Core.Logic.{◌≢◌}
use mathlib.Core.Path.{◌≡◌, refl}
use native.Mathlib.Omega.{arith}
use Rattle.base.proofs.Tests.{bool_cases, eq-eqb, eqb-eq, ge-ltb, lt-ltb, ne_eqb, or_cases, or_left, or_right, tests}
use Rattle.blocks.specs.Entries.{form_ok, kind_ok, name_given, name_ok, names_ok, number_ok}
use Rattle.blocks.specs.code.ReadingSteps.{entry_refusal}
use Rattle.blocks.specs.declared.Entry.{Entry}
use Rattle.blocks.specs.declared.Schema.{Schema}

-- what a weight says of a kind: at most 1, that it is one of the schema and below a bound; 0, that it takes any number
abbrev pub Weighs : Schema → ℕ → ℕ → ℕ → Type 0
Weighs σ k bound r = (r ≤ 2) × (r ≤ 1 → (kind_ok σ k ≡ true) × (k < bound)) × (r ≡ 0 → (eqb k 3 || (eqb k 4 || eqb k 7)) ≡ true)

-- a kind that takes 0 only, one that takes any number, and one of which nothing is said
pub weighs-one : (σ : Schema) (k bound : ℕ) → kind_ok σ k ≡ true → k < bound → Weighs σ k bound 1
weighs-one σ k bound ok low = (omega arith, λ h. (ok, low), λ z. absurd (omega (arith, z)))

pub weighs-none : (σ : Schema) (k bound : ℕ) → kind_ok σ k ≡ true → k < bound → (eqb k 3 || (eqb k 4 || eqb k 7)) ≡ true → Weighs σ k bound 0
weighs-none σ k bound ok low free = (omega arith, λ h. (ok, low), λ z. free)

pub weighs-two : (σ : Schema) (k bound : ℕ) → Weighs σ k bound 2
weighs-two σ k bound = (omega arith, λ h. absurd (omega (arith, h)), λ z. absurd (omega (arith, z)))

-- ---- by the schema

-- what a weight says of a kind of any schema: it is neither 6 nor a name where the weight is at most 1
abbrev pub Tells : Schema → ℕ → ℕ → Type 0
Tells σ k r =
    (r ≤ 2) × (r ≤ 1 → (kind_ok σ k ≡ true) × (eqb k 6 ≡ false) × (eqb k 9 ≡ false)) × (r ≡ 0 → (eqb k 3 || (eqb k 4 || eqb k 7)) ≡ true)

pub described-tells : (k : ℕ) {r : ℕ} → Weighs Schema.Description k 6 r → Tells Schema.Description k r
described-tells k w = (w.0, λ h. let u = w.1 h in (u.0, ne_eqb {m = k} {n = 6} (omega (arith, u.1)), ne_eqb {m = k} {n = 9} (omega (arith, u.1))), w.2)

pub named-tells : (most k : ℕ) {r : ℕ} → Weighs Schema.Description k 6 r → Tells (Schema.Named most) k r
named-tells most k w =
    (w.0, λ h. let u = w.1 h in (or_right (eqb k 9) u.0, ne_eqb {m = k} {n = 6} (omega (arith, u.1)), ne_eqb {m = k} {n = 9} (omega (arith, u.1))), w.2)

pub grouped-tells : (k : ℕ) {r : ℕ} → Weighs Schema.Specimen k 8 r → Tells Schema.Specimen k r
grouped-tells k w =
    let other : kind_ok Schema.Specimen k ≡ true → (eqb k 6 ≡ false) × (eqb k 9 ≡ false) = λ ok.
    or_cases (eqb k 1) (eqb k 7) ok
    (λ q. (ne_eqb {m = k} {n = 6} (omega (arith, eqb-eq {m = k} {n = 1} q)), ne_eqb {m = k} {n = 9} (omega (arith, eqb-eq {m = k} {n = 1} q))))
    (λ q. (ne_eqb {m = k} {n = 6} (omega (arith, eqb-eq {m = k} {n = 7} q)), ne_eqb {m = k} {n = 9} (omega (arith, eqb-eq {m = k} {n = 7} q))))
    in
    (w.0, λ h. let u = w.1 h in let o = other u.0 in (u.0, o.0, o.1), w.2)

-- ---- what a look shows

module _ (σ : Schema) (e : Entry) {w : ℕ} (t : Tells σ e.kind w) (light : w * (e.number + 1) ≤ 1) where
  -- the weight is 0, or 1 and the number 0
  light-cases : {A : Type 0} → (w ≡ 0 → A) → (w ≡ 1 → e.number ≡ 0 → A) → A
  light-cases z o =
      bool_cases (eqb w 0) (λ q. z (eqb-eq {m = w} {n = 0} q))
      (λ q. bool_cases (eqb w 1)
      (λ p. let one : w ≡ 1 = eqb-eq {m = w} {n = 1} p in o one (let small : 1 * (e.number + 1) ≤ 1 = rw one at light in omega (arith, small)))
      (λ p. let two : w ≡ 2 = omega (tests, t.0, p, q) in let large : 2 * (e.number + 1) ≤ 1 = rw two at light in absurd (omega (arith, large))))

  light-number : number_ok e.kind e.number ≡ true
  unfolding number_ok
  light-number = light-cases (λ z. or_left (eqb e.number 0) (t.2 z)) (λ o n. or_right (eqb e.kind 3 || (eqb e.kind 4 || eqb e.kind 7)) (eq-eqb n))

  light-kind : (kind_ok σ e.kind ≡ true) × (eqb e.kind 6 ≡ false) × (eqb e.kind 9 ≡ false)
  light-kind = t.1 (light-cases (λ z. omega (arith, z)) (λ o n. omega (arith, o)))

-- an entry that is no name meets what is asked of names
no_name : (σ : Schema) (e : Entry) → eqb e.kind 9 ≡ false → names_ok σ e ≡ true
unfolding name_given
no_name Schema.Description e h = refl
no_name Schema.Specimen e h = refl
no_name (Schema.Named most) e h = rw h

-- an entry that a look shows to be right is not refused
pub look-right : (σ : Schema) (e : Entry) (l : ℕ) {w : ℕ} → Tells σ e.kind w → e.reserved ≡ 0 → e.name ≢ 0 → l ≤ 33 → l ≢ 0
    → w * (e.number + 1) ≤ 1 → entry_refusal σ e l ≡ None
unfolding entry_refusal form_ok name_ok
look-right σ e l t reserved name high low light =
    let k = light-kind σ e t light in
    rw (k.0, eq-eqb reserved, k.1, lt-ltb {m = 0} {n = e.name} (omega arith), light-number σ e t light, no_name σ e k.2, ne_eqb low, ge-ltb high)
