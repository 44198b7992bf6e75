-- Laws of a trial: what a comparison answers, and a run that is put back.
-- Assumes nothing.
use Prim.Native.Nat.{◌<◌, ◌≤◌, ℕ}
use lib.Dec.{eqb, leb, ltb}
use mathlib.Core.Bool.{Bool, ◌&&◌, cond, false, not, true}
use mathlib.Core.List.{List}
use mathlib.Core.Path.{◌∙◌, ◌≡◌, ap, refl, sym}
use native.Mathlib.Omega.{arith}
use Rattle.base.proofs.Tests.{and_one, bool_cases, leb-le, ltb-lt, and_left, and_right}
use Rattle.blocks.specs.declared.Entry.{Entry}
use Rattle.blocks.specs.declared.Refusal.{Refusal}
use Rattle.earning.specs.code.Tried.{Open}
use Rattle.narrow.specs.Earned.{sayers}
use Rattle.narrow.specs.Keeping.{without_run}
use Rattle.slots.specs.Holding.{Holding, holding_by}
use Rattle.slots.specs.declared.Unheld.{Unheld}
use Rattle.std.specs.Prelude.{Err, Ok, Option, Result, is_ok, is_some}

-- what is read is accepted
pub accepted : {X : Type 0} (r : Result ℕ Refusal) → is_ok r ≡ true → ((n : ℕ) → r ≡ Ok n → X) → X
accepted (Ok n) e f = f n refl
accepted (Err x) e f = cc

-- by its answer
same-not : (a b : Bool) → not a ≡ not b → a ≡ b
same-not true true e = refl
same-not true false e = cc
same-not false true e = cc
same-not false false e = refl

pub none-left : (u f : ℕ) {r : Holding} {x : Option Unheld} {b : Bool} → r ≡ Ok (holding_by u f) → r ≡ Ok x → is_some x ≡ not b → b ≡ eqb f 0
none-left u f {r} {x} {b} e i n =
    let y : ◌≡◌ {A = Holding} (Ok (holding_by u f)) (Ok x) = sym e ∙ i in
    let h : holding_by u f ≡ x = cc in
    same-not b (eqb f 0) (sym n ∙ ap is_some (sym h) ∙ bool_cases (eqb f 0) (λ q. rw q refl) (λ q. rw q refl))

pub not-refused : (u f : ℕ) {r : Holding} {x : Refusal} → r ≡ Ok (holding_by u f) → r ≡ Err x → false ≡ eqb f 0
not-refused u f e i = cc

-- ---- a run that does not go is put back

pub put-again : (es : List Entry) (a t : ℕ) (K : ℕ → Bool) → Open es t K → (k : ℕ)
    → cond (ltb a k && leb k t) (sayers es k) (without_run a t K k) ≡ K k
put-again es a t K o k =
    bool_cases (ltb a k && leb k t)
    (λ q.
    let x : a < k = ltb-lt (and_left (ltb a k) (leb k t) q) in
    let y : k ≤ t = leb-le (and_right (ltb a k) (leb k t) q) in
    rw q (sym (o k (omega arith) y)))
    (λ q. rw q (and_one (K k)))
