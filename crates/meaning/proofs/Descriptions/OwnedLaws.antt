-- The entries of one owner, by number: what all_owned says, and the same by the list of entries.
-- Assumes nothing.
use Prim.Native.Nat.{◌≤◌, suc, zero, ℕ}
use lib.Dec.{eqb}
use lib.ListN.{get_or, length}
use mathlib.Core.Bool.{Bool, ◌||◌, not, true}
use mathlib.Core.List.{List}
use mathlib.Core.Path.{◌∙◌, ◌≡◌, refl, sym}
use native.Mathlib.Numerals.{one-add}
use native.Mathlib.Omega.{arith}
use Rattle.base.proofs.Tests.{and_both, and_left, and_right, eq-cases, eq-eqb, iff-eq, ne_eqb, or_right}
use Rattle.blocks.specs.Entries.{nth, zero_entry}
use Rattle.blocks.specs.Owners.{owner_of}
use Rattle.blocks.specs.declared.Entry.{Entry}
use Rattle.logic.proofs.Records.Counting.{every-ext, every-from, every_from}
use Rattle.logic.specs.Record.{every}
use Rattle.meaning.specs.Owned.{all_owned, all_where}

-- ---- by number

-- what each entry of o passes, entry k of o passes
pub owned_at : (p : ℕ → Bool) (es : List Entry) (o n : ℕ) → all_owned p es o n ≡ true
    → (k : ℕ) → 1 ≤ k → k ≤ n → owner_of es k ≡ o → p k ≡ true
unfolding all_where
owned_at p es o zero e k lo hi q = absurd (omega arith)
owned_at p es o (suc n) e k lo hi q =
    eq-cases k (suc n)
    (λ z.
    let own : eqb (owner_of es (suc n)) o ≡ true = eq-eqb (rw z at q) in
    rw z (and_left (p (suc n)) (all_owned p es o n) (rw own at e)))
    (λ z. owned_at p es o n (and_right (not (eqb (owner_of es (suc n)) o) || p (suc n)) (all_owned p es o n) e) k lo (omega arith) q)

-- what entry k of o passes for each k, each entry of o passes
pub owned-of : (p : ℕ → Bool) (es : List Entry) (o n : ℕ) → ((k : ℕ) → 1 ≤ k → k ≤ n → owner_of es k ≡ o → p k ≡ true)
    → all_owned p es o n ≡ true
unfolding all_where
owned-of p es o zero h = refl
owned-of p es o (suc n) h =
    and_both
    (eq-cases (owner_of es (suc n)) o
    (λ z. or_right (not (eqb (owner_of es (suc n)) o)) (h (suc n) (omega arith) (omega arith) z))
    (λ z. rw (ne_eqb z)))
    (owned-of p es o n (λ k lo hi q. h k lo (omega arith) q))

-- tests that agree on each entry of o pass alike
pub owned-ext : (p q : ℕ → Bool) (es : List Entry) (o n : ℕ) → ((k : ℕ) → 1 ≤ k → k ≤ n → owner_of es k ≡ o → p k ≡ q k)
    → all_owned p es o n ≡ all_owned q es o n
owned-ext p q es o n h =
    iff-eq
    (λ e. owned-of q es o n (λ k lo hi z. sym (h k lo hi z) ∙ owned_at p es o n e k lo hi z))
    (λ e. owned-of p es o n (λ k lo hi z. h k lo hi z ∙ owned_at q es o n e k lo hi z))

-- ---- by the list

-- the first n entries of o, by their places
owned-places : (p : ℕ → Entry → Bool) (es : List Entry) (o n : ℕ) → all_owned (λ k. p k (nth es k)) es o n
    ≡ every (λ i. not (eqb (get_or es i zero_entry).owner o) || p (suc i) (get_or es i zero_entry)) n
unfolding all_where every owner_of nth
owned-places p es o zero = refl
owned-places p es o (suc n) = rw (owned-places p es o n)

-- a test of all entries of o, by the list
pub owned-from : (p : ℕ → Entry → Bool) (es : List Entry) (o : ℕ)
    → all_owned (λ k. p k (nth es k)) es o (length es) ≡ every_from (λ k e. not (eqb e.owner o) || p k e) 1 es
owned-from p es o =
    owned-places p es o (length es)
    ∙ every-ext _ _ (length es) (λ i h. rw one-add)
    ∙ every-from (λ k e. not (eqb e.owner o) || p k e) zero_entry 1 es
