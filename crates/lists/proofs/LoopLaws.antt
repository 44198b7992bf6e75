-- Laws of the search for a part's end, and of the walk from part to part.
-- Assumes nothing.
use Rattle.std.proofs.Common.{Bor, Some, zero, suc, sym, ap, add-zero, zero-add, add-suc, suc-add}
use Rattle.std.specs.Iterator.{MakesProgress, item_count}
use Prim.Native.Nat.{◌*◌, ◌/◌, ◌+◌, ◌-◌, ◌<◌, ◌≤◌, ℕ}
use lib.ListN.{length, take}
use mathlib.Core.List.{List, ◌∷◌}
use mathlib.Core.Logic.{◌≢◌}
use mathlib.Core.Path.{◌∙◌, ◌≡◌, refl}
use native.Mathlib.Omega.{arith}
use Rattle.base.proofs.Parts.{high_is, high_of}
use Rattle.base.proofs.Tests.{eq-eqb, ne_eqb}
use Rattle.blocks.specs.Frame.{blocks_in}
use Rattle.blocks.specs.Words.{word_at}
use Rattle.lists.proofs.PartLaws.{parts-of}
use Rattle.lists.specs.Parts.{division_from, first_length, parts_of}

-- ---- the search for the end of the first part

module _ (s : List ℕ) where
  -- blocks that have another number are passed
  passed : (m left i : ℕ) → ((k : ℕ) → i ≤ k → k < i + m → word_at s (512 * k) ≢ 1) → division_from s i (m + left) ≡ division_from s (i + m) left
  unfolding division_from
  passed zero left i h = rw (zero-add left, add-zero i) refl
  passed (suc m) left i h =
      rw (suc-add m left, add-suc i m, ← suc-add i m, ne_eqb (h i (omega arith) (omega arith))) (passed m left (suc i) (λ k lo hi. h k (omega arith) (omega arith)))

  pub search-none : ((k : ℕ) → 1 ≤ k → k < length s / 512 → word_at s (512 * k) ≢ 1) → length s ≡ first_length s
  unfolding first_length division_from blocks_in
  search-none h =
      let n = length s / 512 - 1 in
      sym (ap (division_from s 1) (sym (add-zero n)) ∙ passed n 0 1 (λ k lo hi. h k lo (omega arith)))

  module _ {i : ℕ} (low : 1 ≤ i) (high : i < length s / 512) where
    pub search-found : word_at s (512 * i) ≡ 1 → ((k : ℕ) → 1 ≤ k → k < i → word_at s (512 * k) ≢ 1) → 512 * i ≡ first_length s
    unfolding first_length division_from blocks_in
    search-found e h =
        let m = length s / 512 - suc i in
        let all : length s / 512 - 1 ≡ (i - 1) + suc m = omega arith in
        let at : 1 + (i - 1) ≡ i = omega arith in
        let stop : division_from s i (suc m) ≡ 512 * i = rw (eq-eqb e) refl in
        sym (ap (division_from s 1) all ∙ passed (i - 1) (suc m) 1 (λ k lo hi. h k lo (omega arith)) ∙ ap (λ j. division_from s j (suc m)) at ∙ stop)

-- ---- from part to part

-- what is left has its first part, of length f, and those behind it, as the code takes them
pub left-parts : (s : List ℕ) {f : ℕ} → length s ≢ 0 → f ≡ first_length s → parts_of s ≡ take f s ∷ parts_of (high_of f s)
left-parts s {f} h e = parts-of s h ∙ rw (high_is f s, e)

-- so that fewer are left
pub parts-fall : (can : List (List ℕ) → Type 0) → ((l : List (List ℕ)) → can l) → (l m : List (List ℕ)) (x : Bor (List ℕ)) → l ≡ x.now ∷ m
    → MakesProgress can (item_count (λ parts. parts)) l (Some x) m
parts-fall can always l m x e = record {
  on = λ _. (always m, tt, rw e (omega arith));
  keeps = always m;
  rests = λ _. tt;
}
