-- What holds of each entry of a list, and of each entry of an unfolded one.
-- Assumes nothing.
use Prim.Native.Nat.{◌+◌, ◌<◌, ◌≤◌, suc, zero, ℕ}
use lib.ListN.{get_or, length}
use mathlib.Core.Bool.{false, true}
use mathlib.Core.List.{List, [], ◌++◌, ◌∷◌, map}
use mathlib.Core.Path.{◌≡◌}
use native.Mathlib.Omega.{arith}
use Rattle.base.proofs.Tests.{bool_cases}
use Rattle.blocks.specs.Entries.{is_named, nth, zero_entry}
use Rattle.blocks.specs.declared.Entry.{Entry}
use Rattle.names.proofs.Entries.OwnerSteps.{unfold-entry, unfold-name}
use Rattle.names.specs.Unfold.{noted, owned_by, relocate, unfold_from, unfolded}

module _ (P : Entry → Type 0) where
  abbrev pub EachEntry : List Entry → Type 0
  EachEntry [] = Unit {0}
  EachEntry (e ∷ es) = P e × EachEntry es

  -- ---- by number

  each_from : (es : List Entry) → ((i : ℕ) → i < length es → P (get_or es i zero_entry)) → EachEntry es
  each_from [] h = tt
  each_from (e ∷ es) h = (h 0 (omega arith), each_from es (λ i l. h (suc i) (omega arith)))

  each_at : (es : List Entry) → EachEntry es → (i : ℕ) → i < length es → P (get_or es i zero_entry)
  each_at [] h i l = absurd (omega arith)
  each_at (e ∷ es) h zero l = h.0
  each_at (e ∷ es) h (suc i) l = each_at es h.1 i (omega arith)

  pub each-of-numbers : (es : List Entry) → ((n : ℕ) → 1 ≤ n → n ≤ length es → P (nth es n)) → EachEntry es
  unfolding nth
  each-of-numbers es h = each_from es (λ i l. h (suc i) (omega arith) (omega arith))

  pub numbers-of-each : (es : List Entry) → EachEntry es → (n : ℕ) → 1 ≤ n → n ≤ length es → P (nth es n)
  unfolding nth
  numbers-of-each es h zero lo hi = absurd (omega arith)
  numbers-of-each es h (suc i) lo hi = each_at es h i (omega arith)

  -- ---- unfolded, where it does not go by owners

  module _ (any : (o : ℕ) (e : Entry) → P e → P (owned_by o e)) where
    each-moved : (m o : ℕ) (xs ys : List Entry) → EachEntry xs → EachEntry ys → EachEntry (map (relocate m o) xs ++ ys)
    each-moved m o [] ys h g = g
    each-moved m o (e ∷ xs) ys h g = (any _ e h.0, each-moved m o xs ys h.1 g)

    -- what is asked of an entry that is to be unfolded: of the contents if it is a name, else of itself
    abbrev pub Unfolds : (ℕ → List Entry) → Entry → Type 0
    Unfolds T e = (is_named e ≡ true → EachEntry (T e.name)) × (is_named e ≡ false → P e)

    unfold-each-from : (T : ℕ → List Entry) (ν : ℕ → ℕ) (k m : ℕ) (es : List Entry)
        → ((i : ℕ) → i < length es → Unfolds T (get_or es i zero_entry)) → EachEntry (unfold_from T ν k m es)
    unfolding unfold_from
    unfold-each-from T ν k m [] h = tt
    unfold-each-from T ν k m (e ∷ es) h =
        bool_cases (is_named e)
        (λ q. rw (unfold-name T ν k m e es q)
        (each-moved m (ν e.owner) (T e.name) (unfold_from T ν (suc k) (m + length (T e.name)) es) ((h 0 (omega arith)).0 q)
        (unfold-each-from T ν (suc k) (m + length (T e.name)) es (λ i l. h (suc i) (omega arith)))))
        (λ q. rw (unfold-entry T ν k m e es q)
        (any _ e ((h 0 (omega arith)).1 q), unfold-each-from T (noted ν k (suc m)) (suc k) (suc m) es (λ i l. h (suc i) (omega arith))))

    pub unfold-each : (T : ℕ → List Entry) (es : List Entry) → ((n : ℕ) → 1 ≤ n → n ≤ length es → Unfolds T (nth es n)) → EachEntry (unfolded T es)
    unfolding unfolded nth
    unfold-each T es h = unfold-each-from T (λ j. j) 1 0 es (λ i l. h (suc i) (omega arith) (omega arith))
