-- Rows of a table, 64 elements apart: stored in turn, and what stands in a cell.
-- Assumes nothing.
use Prim.Native.Nat.{◌*◌, ◌+◌, ◌-◌, ◌<◌, ◌≤◌, suc, zero, ℕ}
use lib.ListN.{drop, drop_of_length-le, get_or, length, set}
use lib.Seq.{drop-cons, get_or-set_other, sets}
use mathlib.Core.List.{List, [], ◌∷◌}
use mathlib.Core.Path.{◌∙◌, ◌≡◌, ap, refl, sym}
use native.Mathlib.Nat.{add-suc, add-zero, suc-add}
use native.Mathlib.Omega.{arith}
use Rattle.base.proofs.StoresLaws.{get_d-stored, length-stored}
use Rattle.base.specs.Stores.{rows_at, stored}

-- ---- stored in turn

-- i rows are stored, and the table is what the others give
abbrev pub RowsSoFar : List (List ℕ) → List ℕ → List ℕ → ℕ → Type 0
RowsSoFar rows t t' i = rows_at t 0 rows ≡ rows_at t' i (drop i rows)

module _ (rows : List (List ℕ)) (t t' : List ℕ) (i : ℕ) (A : RowsSoFar rows t t' i) where
  pub rows-more : i < length rows → {t'' : List ℕ} → t'' ≡ stored t' (64 * i) (get_or rows i []) → RowsSoFar rows t t'' (i + 1)
  unfolding rows_at
  rows-more h e =
      let one : i + 1 ≡ suc i = omega arith in
      A ∙ rw (drop-cons rows i [] h, rows_at, ← e, one) refl

  pub rows-all : i ≡ length rows → t' ≡ rows_at t 0 rows
  unfolding rows_at
  rows-all h = let none = drop_of_length-le rows {i = i} (omega (arith, h)) in sym (A ∙ rw none refl)

-- ---- a cell

-- what stands before the place of a store stays
pub stored-before : (l xs : List ℕ) (at i : ℕ) → i < at → get_or (stored l at xs) i 0 ≡ get_or l i 0
unfolding stored
stored-before l [] at i h = refl
stored-before l (x ∷ xs) at i h = stored-before (set l at x) xs (suc at) i (omega arith) ∙ get_or-set_other l at i x 0 (omega arith)

rows-before : (rows : List (List ℕ)) (t : List ℕ) (k i : ℕ) → i < 64 * k → get_or (rows_at t k rows) i 0 ≡ get_or t i 0
unfolding rows_at
rows-before [] t k i h = refl
rows-before (r ∷ rs) t k i h = rows-before rs (stored t (64 * k) r) (suc k) i (omega arith) ∙ stored-before t r (64 * k) i h

-- rows of at most 64 elements
abbrev pub Narrow : List (List ℕ) → Type 0
Narrow rows = (i : ℕ) → i < length rows → length (get_or rows i []) ≤ 64

cell-from : (rows : List (List ℕ)) (t : List ℕ) (k i j : ℕ) → Narrow rows → 64 * (k + length rows) ≤ length t → i < length rows → j < length (get_or rows i [])
    → get_or (rows_at t k rows) (64 * (k + i) + j) 0 ≡ get_or (get_or rows i []) j 0
unfolding rows_at
cell-from [] t k i j N fits h b = absurd (omega arith)
cell-from (r ∷ rs) t k zero j N fits h b =
    let narrow : length r ≤ 64 = N 0 (omega arith) in
    let here : 64 * (k + 0) + j ≡ 64 * k + j = omega arith in
    ap (λ (m : ℕ). get_or (rows_at (stored t (64 * k) r) (suc k) rs) m 0) here
    ∙ rows-before rs (stored t (64 * k) r) (suc k) (64 * k + j) (omega arith)
    ∙ get_d-stored t r (64 * k) j b (omega arith)
cell-from (r ∷ rs) t k (suc i) j N fits h b =
    let there : 64 * (k + suc i) + j ≡ 64 * (suc k + i) + j = omega arith in
    ap (λ (m : ℕ). get_or (rows_at (stored t (64 * k) r) (suc k) rs) m 0) there
    ∙ cell-from rs (stored t (64 * k) r) (suc k) i j (λ m l. N (suc m) (omega arith)) (omega (arith, length-stored t r (64 * k))) (omega arith) b

-- cell j of row i
pub row-cell : (rows : List (List ℕ)) (t : List ℕ) (i j : ℕ) → Narrow rows → 64 * length rows ≤ length t → i < length rows → j < length (get_or rows i [])
    → get_or (rows_at t 0 rows) (64 * i + j) 0 ≡ get_or (get_or rows i []) j 0
row-cell rows t i j N fits h b = let z : 0 + i ≡ i = omega arith in rw z at (cell-from rows t 0 i j N (omega arith) h b)
