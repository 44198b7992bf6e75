-- A line of the table of refusals at many places: the first that applies is that of the lowest place where it does.
-- Assumes nothing.
use Rattle.std.proofs.Common.{◌≡◌, ℕ, zero, suc, ◌≤◌, Bool, cond, not, eqb, ◌≢◌, [], ◌∷◌, refl, ◌∙◌, arith}
use Rattle.base.proofs.Tests.{bool_cases, eq-cases, eq-eqb, ne_eqb}
use Rattle.base.specs.Search.{first_from}
use Rattle.blocks.specs.Faults.{Finding, Clean, Faulty, fault, first, rows_from}
use Rattle.blocks.specs.declared.Cause.{Cause}

-- what the lowest place w says, by the line's cause m; 0 is no place
abbrev pub found_at : Cause → ℕ → Finding
found_at m w = cond (eqb w 0) Clean (Faulty m w)

pub rows-searched : (wrong : ℕ → Bool) (m : Cause) (n left : ℕ) → 1 ≤ n
    → first (rows_from (λ i. fault (wrong i) m i ∷ []) n left) ≡ found_at m (first_from (λ i. not (wrong i)) n left)
unfolding first rows_from first_from
rows-searched wrong m n zero pos = refl
rows-searched wrong m n (suc left) pos =
    bool_cases (wrong n)
    (λ q. let z : eqb n 0 ≡ _ = ne_eqb {m = n} {n = 0} (λ y. omega arith) in rw (q, z))
    (λ q. rw q (rows-searched wrong m (suc n) left (omega arith)))

-- the place behind a finding
pub found-place : (m : Cause) (w : ℕ) {k : Cause} {p : ℕ} → found_at m w ≡ Faulty k p → (k ≡ m) × ((w ≡ p) × (p ≢ 0))
found-place m w {k} {p} e =
    eq-cases w 0
    (λ z. let g : Clean ≡ Faulty k p = rw (eq-eqb z) at e in let y : ◌≡◌ {A = ℕ} 0 1 = cc in absurd (omega arith))
    (λ z.
    let g : Faulty m w ≡ Faulty k p = rw (ne_eqb z) at e in
    let a : k ≡ m = cc in
    let b : w ≡ p = cc in
    (a, (b, λ y. z (b ∙ y))))
