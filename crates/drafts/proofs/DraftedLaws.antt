-- Entries looked at one after the other, with a table of levels: where they stand, and what is found of them.
-- Assumes nothing.
use Rattle.std.proofs.Common.{◌≡◌, ℕ, zero, suc, ◌+◌, ◌-◌, ◌*◌, ◌/◌, ◌≤◌, ◌<◌, true, false, Option, None, Some, is_some, List, [], ◌∷◌, drop, get_or, length, length-drop, length-take, map, take, refl, sym, ap, ◌∙◌, add-one, arith}
use Rattle.std.proofs.lemmas.List.{get_or-drop, get_or-take}
use lib.ListN.{length-map}
use Rattle.std.specs.Simd.{first_chunks}
use borrow.Rule.Slice.PartMut.{mid_of}
use Rattle.blocks.specs.Entries.{entry_from, nth}
use Rattle.blocks.specs.Faults.{Clean, Faulty, entry_faults, first}
use Rattle.blocks.specs.code.ReadingSteps.{rule_faults}
use Rattle.blocks.specs.declared.Cause.{Cause}
use Rattle.blocks.specs.declared.Entry.{Entry}
use Rattle.blocks.specs.declared.Schema.TheVariants.{Description}
use Rattle.drafts.proofs.MemoryLaws.{entries-pieces, length-entries}
use Rattle.drafts.specs.Memory.{entries_at}
use Rattle.drafts.specs.Sound.{drafted, is_clean}

-- ---- pieces of eight bytes

abbrev pub entries_in : List (List ℕ) → List Entry
entries_in rows = map (λ b. entry_from b 0) rows

nth-suc : (rows : List (List ℕ)) (k : ℕ) → k < length rows → nth (entries_in rows) (suc k) ≡ entry_from (get_or rows k []) 0
unfolding nth
nth-suc [] k h = absurd (omega arith)
nth-suc (r ∷ rows) zero h = refl
nth-suc (r ∷ rows) (suc k) h = nth-suc rows k (omega arith)

pub nth-row : (rows : List (List ℕ)) (k : ℕ) → k < length rows → entry_from (get_or rows k []) 0 ≡ nth (entries_in rows) (k + 1)
nth-row rows k h = rw (add-one k) (sym (nth-suc rows k h))

-- what a search finds of them
pub drafted-of : (rows : List (List ℕ)) → first (rule_faults Description (entries_in rows) 1 (length rows)) ≡ Clean → true ≡ drafted (entries_in rows)
unfolding drafted entry_faults
drafted-of rows h = sym (rw (length-map rows (λ b. entry_from b 0)) (ap is_clean h))

pub undrafted-of : (rows : List (List ℕ)) {k : Cause} {p : ℕ} → first (rule_faults Description (entries_in rows) 1 (length rows)) ≡ Faulty k p
    → false ≡ drafted (entries_in rows)
unfolding drafted entry_faults
undrafted-of rows h = sym (rw (length-map rows (λ b. entry_from b 0)) (ap is_clean h))

-- ---- the pieces of an area

module _ (m : List ℕ) (at n : ℕ) (fits : at + 8 * n ≤ length m) where
  abbrev pub cells : List ℕ
  cells = mid_of at (at + 8 * n - at) m

  length-cells : length cells / 8 ≡ n
  length-cells =
      let k : at + 8 * n - at ≡ 8 * n = omega arith in
      let l : length cells ≡ 8 * n = simp (length-take, length-drop) (omega arith) in
      ap (λ (x : ℕ). x / 8) l ∙ omega arith

  pub area-entries : {rows : List (List ℕ)} → rows ≡ first_chunks 8 (length cells / 8) cells → entries_in rows ≡ entries_at m at n
  area-entries e =
      ap entries_in (e ∙ ap (λ (x : ℕ). first_chunks 8 x cells) length-cells)
      ∙ entries-pieces m cells at n (λ k b. get_or-take (at + 8 * n - at) (drop at m) k 0 (omega arith) ∙ get_or-drop at m k 0)

  pub area-length : {rows : List (List ℕ)} → rows ≡ first_chunks 8 (length cells / 8) cells → length rows ≡ n
  area-length {rows} e = sym (length-map rows (λ b. entry_from b 0)) ∙ ap length (area-entries e) ∙ length-entries m at n

-- ---- what is found, or nothing

pub is-none : {A : Type 0} (o : Option A) → is_some o ≡ false → o ≡ None
is-none None h = refl
is-none (Some a) h = absurd (let z : ◌≡◌ {A = ℕ} 0 1 = cc in omega arith)

pub is-found : {A X : Type 0} (o : Option A) → is_some o ≡ true → ((a : A) → o ≡ Some a → X) → X
is-found None h f = absurd (let z : ◌≡◌ {A = ℕ} 0 1 = cc in omega arith)
is-found (Some a) h f = f a refl

-- ---- the pieces of the first area

module _ (m : List ℕ) (n : ℕ) (fits : 8 * n ≤ length m) where
  length-front : length (take (8 * n) m) / 8 ≡ n
  length-front = let l : length (take (8 * n) m) ≡ 8 * n = simp length-take (omega arith) in ap (λ (x : ℕ). x / 8) l ∙ omega arith

  pub front-entries : {rows : List (List ℕ)} → rows ≡ first_chunks 8 (length (take (8 * n) m) / 8) (take (8 * n) m) → entries_in rows ≡ entries_at m 0 n
  front-entries e =
      ap entries_in (e ∙ ap (λ (x : ℕ). first_chunks 8 x (take (8 * n) m)) length-front)
      ∙ entries-pieces m (take (8 * n) m) 0 n (λ k b. get_or-take (8 * n) m k 0 b ∙ ap (λ (i : ℕ). get_or m i 0) (omega arith))

  pub front-length : {rows : List (List ℕ)} → rows ≡ first_chunks 8 (length (take (8 * n) m) / 8) (take (8 * n) m) → length rows ≡ n
  front-length {rows} e = sym (length-map rows (λ b. entry_from b 0)) ∙ ap length (front-entries e) ∙ length-entries m 0 n
