-- A refusal is no other answer, and it has one cause, input and place only.
-- Assumes nothing.
use Rattle.std.proofs.Common.{◌≡◌, ℕ, Ok, Result, ap, arith}
use Rattle.blocks.specs.Refusals.{refusal, refused}
use Rattle.blocks.specs.declared.Cause.{Cause}
use Rattle.blocks.specs.declared.Refusal.{Refusal}

pub refused-answered : {A X : Type 0} {r : Result A Refusal} {k : Cause} {i p : ℕ} {a : A} → r ≡ refused k i p → r ≡ Ok a → X
refused-answered e f = let z : ◌≡◌ {A = ℕ} 0 1 = cc in absurd (omega arith)

-- so what holds of the cause, the input and the place of one refusal holds of those of another that is the same answer
pub same-refused : {A : Type 0} (R : Cause → ℕ → ℕ → Type 0) {r : Result A Refusal} {k : Cause} {i p : ℕ} {k' : Cause} {i' p' : ℕ}
    → r ≡ refused k' i' p' → r ≡ refused k i p → R k' i' p' → R k i p
same-refused R {k = k} {i = i} {p = p} {k' = k'} {i' = i'} {p' = p'} e f h =
    let g : refusal k i p ≡ refusal k' i' p' = cc in
    let a = ap (λ (x : Refusal). x.cause) g in
    let b = ap (λ (x : Refusal). x.input) g in
    let c = ap (λ (x : Refusal). x.place) g in
    rw (a, b, c) h
