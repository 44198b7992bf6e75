-- What reading by number gives: the entries of an accepted input, and of a refused one the zero entry at every number.
-- Assumes nothing.
use Rattle.std.proofs.Common.{◌≡◌, ℕ, List, Ok, sym, refl, ap, ◌∙◌, arith}
use Rattle.base.proofs.Tests.{eq-cases}
use Rattle.blocks.proofs.Refusing.EntryLaws.{of-above, of_none, of-nth}
use Rattle.blocks.proofs.RoundTrip.Accepting.{accepted-by-none, first-of-refused, none-of-accepted, refused-by-first}
use Rattle.blocks.specs.Entries.{entries_of, entry_of, nth, zero_entry}
use Rattle.blocks.specs.Reading.{Reading, reading_of, returned, total_read}
use Rattle.blocks.specs.Refusals.{refused}
use Rattle.blocks.specs.declared.Cause.{Cause}
use Rattle.blocks.specs.declared.Schema.{Schema}

-- a number has no entry where there are none
of-empty : (s : List ℕ) (n : ℕ) → entry_of s 0 n ≡ zero_entry
of-empty s n = eq-cases n 0 (λ z. sym (of_none s 0 n z refl)) (λ z. sym (of-above s 0 n (omega arith) refl))

module _ (σ : Schema) (i : ℕ) (s : List ℕ) where
  -- the total is that of the answer, whichever input the reader was told that it is
  pub total-accepted : {t : ℕ} → reading_of σ i s ≡ Ok t → total_read σ s ≡ t
  unfolding total_read
  total-accepted e =
      let none = none-of-accepted σ i s e in
      ap (λ (a : Reading). (returned a).entries) (accepted-by-none σ 1 s none.0) ∙ sym none.1

  pub total-refused : {k : Cause} {j p : ℕ} → reading_of σ i s ≡ refused k j p → total_read σ s ≡ 0
  unfolding total_read
  total-refused e = ap (λ (a : Reading). (returned a).entries) (refused-by-first σ 1 s (first-of-refused σ i s e).1)

  pub accepted-by-number : {t : ℕ} → reading_of σ i s ≡ Ok t → (n : ℕ) → entry_of s (total_read σ s) n ≡ nth (entries_of s) n
  accepted-by-number e n = of-nth s (total_read σ s) n (total-accepted e ∙ (none-of-accepted σ i s e).1)

  pub refused-by-number : {k : Cause} {j p : ℕ} → reading_of σ i s ≡ refused k j p → (n : ℕ) → entry_of s (total_read σ s) n ≡ zero_entry
  refused-by-number e n = ap (λ (t : ℕ). entry_of s t n) (total-refused e) ∙ of-empty s n
