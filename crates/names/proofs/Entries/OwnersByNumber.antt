-- Owners that are allowed, by number and entry by entry: the same.
-- Assumes nothing.
use Prim.Native.Nat.{◌+◌, ◌<◌, ◌≤◌, suc, ℕ}
use lib.Dec.{eqb, ltb}
use lib.ListN.{get_or, length}
use mathlib.Core.Bool.{Bool, ◌&&◌, ◌||◌, false, true}
use mathlib.Core.List.{List, [], ◌∷◌}
use mathlib.Core.Path.{◌∙◌, ◌≡◌, ap, sym}
use native.Mathlib.Omega.{arith}
use Rattle.base.proofs.Tests.{bool_cases, eq-cases, eq-eqb, ne_eqb, tests}
use Rattle.blocks.specs.Entries.{nth, zero_entry}
use Rattle.blocks.specs.Owners.{owner_of, owner_ok}
use Rattle.blocks.specs.declared.Entry.{Entry}
use Rattle.blocks.specs.declared.Schema.TheVariants.{Description}
use Rattle.names.proofs.Entries.Numbers.{owning, top_owns}
use Rattle.names.proofs.Entries.OwnerSteps.{Owners}
use Rattle.names.specs.Promise.{OwnersOk}

-- ---- the rest of a list

-- the entries of es from entry k on are those of rest
abbrev pub Stands : List Entry → ℕ → List Entry → Type 0
Stands es k rest = (i : ℕ) → i < length rest → get_or rest i zero_entry ≡ nth es (k + i)

pub stands-whole : (es : List Entry) → Stands es 1 es
unfolding nth
stands-whole es i l = let e : 1 + i ≡ suc i = omega arith in rw e

pub stands-first : (es : List Entry) (k : ℕ) (e : Entry) (rest : List Entry) → Stands es k (e ∷ rest) → e ≡ nth es k
stands-first es k e rest s = let z : k + 0 ≡ k = omega arith in rw z at (s 0 (omega arith))

pub stands-rest : (es : List Entry) (k : ℕ) (e : Entry) (rest : List Entry) → Stands es k (e ∷ rest) → Stands es (suc k) rest
stands-rest es k e rest s i l = let z : suc k + i ≡ k + suc i = omega arith in rw z (s (suc i) (omega arith))

-- ---- who may own

-- the top, and every 'every' before entry k
abbrev owns_before : List Entry → ℕ → ℕ → Bool
owns_before es k j = eqb j 0 || (ltb j k && eqb (nth es j).kind 5)

owns-first : (es : List Entry) (j : ℕ) → top_owns j ≡ owns_before es 1 j
owns-first es j =
    eq-cases j 0
    (λ q. rw (eq-eqb q))
    (λ q. let z : ltb j 1 ≡ false = omega tests in rw (ne_eqb q, z))

owns-next : (es : List Entry) (k : ℕ) → 1 ≤ k → (j : ℕ) → owning (owns_before es k) k (nth es k) j ≡ owns_before es (suc k) j
owns-next es k pos j =
    eq-cases j k
    (λ q.
    let a : eqb k 0 ≡ false = omega tests in
    let b : ltb k k ≡ false = omega tests in
    let c : ltb k (suc k) ≡ true = omega tests in
    let d : eqb k k ≡ true = omega tests in
    rw (q, a, b, c, d) (bool_cases (eqb (nth es k).kind 5) (λ z. rw z) (λ z. rw z)))
    (λ q. let c : ltb j (suc k) ≡ ltb j k = same q in rw (ne_eqb q, c))
  where
    same : {j k : ℕ} → (j ≡ k → ⊥) → ltb j (suc k) ≡ ltb j k
    same {j} {k} q =
        bool_cases (ltb j k)
        (λ z. let y : ltb j (suc k) ≡ true = omega tests in y ∙ sym z)
        (λ z. let y : ltb j (suc k) ≡ false = omega tests in y ∙ sym z)

-- one entry more
owns-more : (es : List Entry) (own : ℕ → Bool) (k : ℕ) (e : Entry) → 1 ≤ k → e ≡ nth es k → ((j : ℕ) → own j ≡ owns_before es k j)
    → (j : ℕ) → owning own k e j ≡ owns_before es (suc k) j
owns-more es own k e pos at same j = rw (same j, at) (owns-next es k pos j)

-- ---- from one to the other

module _ (es : List Entry) where
  owners-from : (own : ℕ → Bool) (k : ℕ) (rest : List Entry) → 1 ≤ k → Stands es k rest → ((j : ℕ) → own j ≡ owns_before es k j)
      → ((n : ℕ) → k ≤ n → n < k + length rest → owner_ok Description es n ≡ true) → Owners own k rest
  unfolding owner_ok owner_of
  owners-from own k [] pos s same h = tt
  owners-from own k (e ∷ rest) pos s same h =
      let at : e ≡ nth es k = stands-first es k e rest s in (
        same e.owner ∙ ap (λ (x : Entry). owns_before es k x.owner) at ∙ h k (omega arith) (omega arith),
        owners-from (owning own k e) (suc k) rest (omega arith) (stands-rest es k e rest s) (owns-more es own k e pos at same)
            (λ n lo hi. h n (omega arith) (omega arith)),
      )

  owners-to : (own : ℕ → Bool) (k : ℕ) (rest : List Entry) → 1 ≤ k → Stands es k rest → ((j : ℕ) → own j ≡ owns_before es k j)
      → Owners own k rest → (n : ℕ) → k ≤ n → n < k + length rest → owner_ok Description es n ≡ true
  unfolding owner_ok owner_of
  owners-to own k [] pos s same w n lo hi = absurd (omega arith)
  owners-to own k (e ∷ rest) pos s same w n lo hi =
      let at : e ≡ nth es k = stands-first es k e rest s in
      eq-cases n k
      (λ q. rw q (sym (same e.owner ∙ ap (λ (x : Entry). owns_before es k x.owner) at) ∙ w.0))
      (λ q. owners-to (owning own k e) (suc k) rest (omega arith) (stands-rest es k e rest s) (owns-more es own k e pos at same) w.1 n
      (omega arith) (omega arith))

  pub owners-of-numbers : OwnersOk es → Owners top_owns 1 es
  owners-of-numbers h = owners-from top_owns 1 es (omega arith) (stands-whole es) (owns-first es) (λ n lo hi. h n lo (omega arith))

  pub numbers-of-owners : Owners top_owns 1 es → OwnersOk es
  numbers-of-owners w n lo hi = owners-to top_owns 1 es (omega arith) (stands-whole es) (owns-first es) w n lo (omega arith)
