-- The numbers that reading refuses with are 1 to 6, 9 for a specimen, and 13 where names may be given, of the input that was read: 7 is left for an output that is
-- too short. Where none of 1 to 3 applies, they are from 4 on; where no line of an entry does, they are 1 to 3.
-- Assumes nothing.
use Rattle.std.proofs.Common.{◌≡◌, ℕ, zero, suc, ◌≤◌, true, ◌≢◌, ◌⊎◌, List, [], ◌∷◌, ◌++◌, length, sym, refl, ◌∙◌, inl, inr, ⊎_elim, arith}
use Rattle.blocks.proofs.Refusing.BlockLaws.{none-blocks}
use Rattle.blocks.proofs.Refusing.FirstFault.{first-append, first_found, first-front, found_first, none-clean}
use Rattle.blocks.proofs.Refusing.Legal.{legal-none}
use Rattle.blocks.proofs.RoundTrip.Accepting.{first-of-refused}
use Rattle.blocks.proofs.RoundTrip.Unbroken.{Unbroken}
use Rattle.blocks.specs.Entries.{entries_of}
use Rattle.blocks.specs.Faults.{Fault, Clean, block_faults, entry_faults, entry_rows, fault, faults, first, length_wrong, rows_from}
use Rattle.blocks.specs.Frame.{blocks_in, plain}
use Rattle.blocks.specs.Promise.{FirstOf, Further, Legal}
use Rattle.blocks.specs.Reading.{reading_of}
use Rattle.blocks.specs.declared.Cause.TheVariants.{Length, Check, Framing, Form, Owner, Depth, Double, Name}
use Rattle.blocks.specs.declared.Cause.{Cause}
use Rattle.blocks.specs.declared.Entry.{Entry}
use Rattle.blocks.specs.Refusals.{refused, number_of}
use Rattle.blocks.specs.declared.Schema.TheVariants.{Description, Named, Specimen}
use Rattle.blocks.specs.declared.Schema.{Schema}

module _ (P : Cause → Type 0) where
  -- P holds of the cause of each line
  abbrev Numbers : List Fault → Type 0
  Numbers [] = Unit {0}
  Numbers (f ∷ fs) = P f.cause × Numbers fs

  numbers-both : (fs gs : List Fault) → Numbers fs → Numbers gs → Numbers (fs ++ gs)
  numbers-both [] gs h g = g
  numbers-both (f ∷ fs) gs h g = (h.0, numbers-both fs gs h.1 g)

  numbers-blocks : P Check → P Framing → (s : List ℕ) (n i left : ℕ) → Numbers (block_faults plain s n i left)
  unfolding block_faults
  numbers-blocks h₂ h₃ s n i zero = tt
  numbers-blocks h₂ h₃ s n i (suc left) = (h₂, (h₃, numbers-blocks h₂ h₃ s n (suc i) left))

  numbers-rows : (rows : ℕ → List Fault) → ((k : ℕ) → Numbers (rows k)) → (n left : ℕ) → Numbers (rows_from rows n left)
  unfolding rows_from
  numbers-rows rows h n zero = tt
  numbers-rows rows h n (suc left) = numbers-both (rows n) (rows_from rows (suc n) left) (h n) (numbers-rows rows h (suc n) left)

  numbers-listed : (before after : List Fault) (k : Cause) (p : ℕ) → Numbers (before ++ (fault true k p ∷ after)) → P k
  numbers-listed [] after k p h = h.0
  numbers-listed (f ∷ before) after k p h = numbers-listed before after k p h.1

  -- the first that applies has such a number
  number-first : {fs : List Fault} {k : Cause} {p : ℕ} → Numbers fs → FirstOf fs k p → P k
  number-first {k = k} {p = p} h f = let l = f.listed in numbers-listed f.before f.after k p (rw l at h)

-- the numbers of the lines of an entry
abbrev EntryNumber : Schema → Cause → Type 0
EntryNumber Description k = (4 ≤ number_of k) × (number_of k ≤ 6)
EntryNumber Specimen k = ((4 ≤ number_of k) × (number_of k ≤ 6)) ⊎ (number_of k ≡ 9)
EntryNumber (Named most) k = ((4 ≤ number_of k) × (number_of k ≤ 6)) ⊎ (number_of k ≡ 13)

entry-numbers : (P : Cause → Type 0) (σ : Schema) → ((k : Cause) → EntryNumber σ k → P k) → (es : List Entry) (n : ℕ) → Numbers P (entry_rows σ es n)
entry-numbers P Description h es n = (h Form (omega arith, omega arith), (h Owner (omega arith, omega arith), (h Depth (omega arith, omega arith), tt)))
entry-numbers P Specimen h es n = (
  h Form (inl (omega arith, omega arith)),
  (h Owner (inl (omega arith, omega arith)), (h Depth (inl (omega arith, omega arith)), (h Double (inr refl), tt))),
)
entry-numbers P (Named most) h es n = (
  h Form (inl (omega arith, omega arith)),
  (h Name (inr refl), (h Owner (inl (omega arith, omega arith)), (h Depth (inl (omega arith, omega arith)), tt))),
)

entry-low : (σ : Schema) (k : Cause) → EntryNumber σ k → 4 ≤ number_of k
entry-low Description k h = h.0
entry-low Specimen k (inl h) = h.0
entry-low Specimen k (inr e) = omega arith
entry-low (Named most) k (inl h) = h.0
entry-low (Named most) k (inr e) = omega arith

module _ (σ : Schema) (i : ℕ) (s : List ℕ) {k : Cause} {j p : ℕ} (e : reading_of σ i s ≡ refused k j p) where
  -- a refusal by reading is with one of 1 to 3, or with a number of an entry
  number_by : (P : Cause → Type 0) → ((n : Cause) → number_of n ≤ 3 → P n) → ((n : Cause) → EntryNumber σ n → P n) → P k
  unfolding faults entry_faults
  number_by P low rows =
      let n = blocks_in s in
      let es = entries_of s in
      number-first P (
        low Length (omega arith),
        numbers-both P (block_faults plain s n 0 n) (entry_faults σ es 1 (length es)) (numbers-blocks P (low Check (omega arith)) (low Framing (omega arith)) s n 0 n)
            (numbers-rows P (entry_rows σ es) (entry-numbers P σ rows es) 1 (length es)),
      ) (first-of-refused σ i s e).1

  -- where none of 1 to 3 applies it is by an entry
  pub unbroken-number : Unbroken plain σ s → 4 ≤ number_of k
  unfolding faults entry_faults first
  unbroken-number u =
      let P : Cause → Type 0 = λ k. 4 ≤ number_of k in
      let n = blocks_in s in
      let es = entries_of s in
      let blocks = block_faults plain s n 0 n in
      let entries = entry_faults σ es 1 (length es) in
      let sound : first blocks ≡ Clean
      = none-clean blocks (none-blocks plain s n 0 n (λ m lo hi. (u.check m (omega arith), u.frame m (omega arith)))) in
      let skips : first (faults σ s) ≡ first entries = rw (u.length, first-append blocks entries, sound) in
      number-first P (numbers-rows P (entry_rows σ es) (entry-numbers P σ (entry-low σ) es) 1 (length es))
      (found_first entries k p (sym skips ∙ first_found (faults σ s) k p (first-of-refused σ i s e).1))

  -- where the entries are legal and keep the further lines it is by the length or a block
  pub legal-number : Legal σ (entries_of s) → Further σ (entries_of s) → number_of k ≤ 3
  unfolding faults
  legal-number L f =
      let P : Cause → Type 0 = λ k. number_of k ≤ 3 in
      let n = blocks_in s in
      let es = entries_of s in
      let front = fault (length_wrong σ s) Length 0 ∷ block_faults plain s n 0 n in
      let alike : first (faults σ s) ≡ first front = first-front front (entry_faults σ es 1 (length es)) (legal-none L f) in
      number-first P {fs = front} (omega arith, numbers-blocks P (omega arith) (omega arith) s n 0 n)
      (found_first front k p (sym alike ∙ first_found (faults σ s) k p (first-of-refused σ i s e).1))

-- [R26] accepted where none of 1 to 6 refuses
pub description-number : (i : ℕ) (s : List ℕ) {k : Cause} {j p : ℕ} → reading_of Description i s ≡ refused k j p → number_of k ≤ 6
description-number i s e = number_by Description i s e (λ k. number_of k ≤ 6) (λ n h. omega arith) (λ n h. h.1)

-- for a specimen there is 9 beside
pub specimen-number : (i : ℕ) (s : List ℕ) {k : Cause} {j p : ℕ} → reading_of Specimen i s ≡ refused k j p → (number_of k ≤ 6) ⊎ (number_of k ≡ 9)
specimen-number i s e =
    number_by Specimen i s e (λ k. (number_of k ≤ 6) ⊎ (number_of k ≡ 9)) (λ n h. inl (omega arith)) (λ n h. ⊎_elim (λ q. inl q.1) (λ q. inr q) h)

-- for a description with names 13
pub named-number : (most i : ℕ) (s : List ℕ) {k : Cause} {j p : ℕ} → reading_of (Named most) i s ≡ refused k j p → (number_of k ≤ 6) ⊎ (number_of k ≡ 13)
named-number most i s e =
    number_by (Named most) i s e (λ k. (number_of k ≤ 6) ⊎ (number_of k ≡ 13)) (λ n h. inl (omega arith)) (λ n h. ⊎_elim (λ q. inl q.1) (λ q. inr q) h)

-- a refusal by reading is of the input that was read, and never with 7
pub reading-number : (σ : Schema) (i : ℕ) (s : List ℕ) {k : Cause} {j p : ℕ} → reading_of σ i s ≡ refused k j p → (number_of k ≢ 7) × (j ≡ i)
reading-number σ i s {k} {j} e = (by-schema σ e, (first-of-refused σ i s e).0)
  where
    by-schema : (σ : Schema) {p : ℕ} → reading_of σ i s ≡ refused k j p → number_of k ≢ 7
    by-schema Description e = λ z. omega (arith, description-number i s e)
    by-schema Specimen e = λ z. ⊎_elim (λ q. omega arith) (λ q. omega arith) (specimen-number i s e)
    by-schema (Named most) e = λ z. ⊎_elim (λ q. omega arith) (λ q. omega arith) (named-number most i s e)
