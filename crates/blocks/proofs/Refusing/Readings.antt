-- The ways that reading goes: one input is refused or accepted, by what was found; of two inputs the first is refused, or the second, or
-- neither.
-- Assumes nothing.
use Rattle.std.proofs.Common.{◌≡◌, ℕ, Result, Ok, Err, sym, refl, ap, arith}
use Rattle.blocks.specs.Reading.{answer}
use Rattle.blocks.specs.Faults.{Finding, Clean, Faulty}
use Rattle.blocks.specs.declared.Cause.{Cause}
use Rattle.blocks.specs.declared.Refusal.{Refusal}
use Rattle.blocks.specs.Refusals.{refusal, refused}

-- the finding behind a refusal, and behind an acceptance
pub refused-finding : {A : Type 0} (i : ℕ) (total : A) (f : Finding) {k : Cause} {j p : ℕ} → answer i total f ≡ refused k j p → (j ≡ i) × (f ≡ Faulty k p)
refused-finding i total Clean e = let z : ◌≡◌ {A = ℕ} 0 1 = cc in absurd (omega arith)
refused-finding i total (Faulty m q) {k} {j} {p} e =
    let g : refusal m i q ≡ refusal k j p = cc in
    let a : m ≡ k = ap (λ (r : Refusal). r.cause) g in
    let b : q ≡ p = ap (λ (r : Refusal). r.place) g in
    let c : j ≡ i = sym (ap (λ (r : Refusal). r.input) g) in
    (c, rw (a, b))

pub accepted-finding : {A : Type 0} (i : ℕ) (total : A) (f : Finding) {n : A} → answer i total f ≡ Ok n → (n ≡ total) × (f ≡ Clean)
accepted-finding i total Clean {n} e = let a : n ≡ total = cc in (a, refl)
accepted-finding i total (Faulty m q) e = let z : ◌≡◌ {A = ℕ} 0 1 = cc in absurd (omega arith)

-- a refusal is the same whatever the answer would have been
pub refused-alike : {A B : Type 0} (i : ℕ) (a : A) (b : B) (f : Finding) {r : Refusal} → answer i a f ≡ Err r → Err r ≡ answer i b f
refused-alike i a b f {r} e =
    let g = refused-finding i a f {k = r.cause} {j = r.input} {p = r.place} e in
    rw (g.1, ← g.0)

-- ---- cases

pub reading-cases : {A X : Type 0} (r : Result A Refusal) → ((k : Cause) (i p : ℕ) → r ≡ refused k i p → X) → ((n : A) → r ≡ Ok n → X) → X
reading-cases (Err e) f g = f e.cause e.input e.place refl
reading-cases (Ok n) f g = g n refl

-- [R25] input 1, then input 2
pub readings-cases : {A B X : Type 0} (r : Result A Refusal) (q : Result B Refusal) → ((k : Cause) (i p : ℕ) → r ≡ refused k i p → X)
    → ((n : A) (k : Cause) (i p : ℕ) → r ≡ Ok n → q ≡ refused k i p → X) → ((n : A) (m : B) → r ≡ Ok n → q ≡ Ok m → X) → X
readings-cases r q f g h = reading-cases r f (λ n e. reading-cases q (λ k i p e'. g n k i p e e') (λ m e'. h n m e e'))
