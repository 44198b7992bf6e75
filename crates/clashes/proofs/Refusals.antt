-- A specimen under a list is refused exactly by the first fault that applies, of the list or else of the specimen; by 12 at the lowest
-- entry that completes a pair, where nothing else is refused.
-- Assumes nothing.
use Prim.Native.Nat.{◌+◌, ℕ}
use lib.ListN.{length}
use mathlib.Core.List.{List}
use mathlib.Core.Logic.{◌↔◌, ◌≢◌, inl, inr, ⊎_elim}
use mathlib.Core.Path.{◌∙◌, ◌≡◌, ap, sym}
use native.Mathlib.Omega.{arith}
use Rattle.base.proofs.SearchLaws.{Least, first-least, least_first}
use Rattle.base.proofs.Tests.{false_of_not, not-to-false, not-to-true, true_of_not}
use Rattle.blocks.proofs.Refusing.FirstFault.{clean-none, first_found, found_first, none-clean}
use Rattle.blocks.proofs.Refusing.Readings.{accepted-finding, reading-cases, refused-finding}
use Rattle.blocks.proofs.RoundTrip.RefusalNumbers as numbers
use Rattle.blocks.specs.Entries.{entries_of}
use Rattle.blocks.specs.Faults.{first}
use Rattle.blocks.specs.Frame.{plain, total_in}
use Rattle.blocks.specs.Promise.{NoneApplies}
use Rattle.blocks.specs.Reading.{reading_of, Reading}
use Rattle.blocks.specs.declared.Entry.{Entry}
use Rattle.std.specs.Prelude.{Ok}
use Rattle.blocks.specs.Refusals.{number_of, refusal, refused}
use Rattle.blocks.specs.declared.Refusal.{Refusal}
use Rattle.blocks.specs.declared.Schema.TheVariants.{Specimen}
use Rattle.clashes.proofs.Ways.{clash-refused, list-refused, lowest_clash, specimen-cases, under-list}
use Rattle.clashes.specs.Clash.{specimen_faults, specimen_reading}
use Rattle.clashes.specs.Promise.{LowestClash, RefusedBy, apart_ok}
use Rattle.pairs.proofs.PairsRefused.{first-of-pairs, pairs-refused}
use Rattle.pairs.specs.Pairs.{pair_count, pair_faults, pairs_reading}
use Rattle.blocks.specs.declared.Cause.{Cause}
use Rattle.blocks.specs.declared.Cause.TheVariants.{Clash}

-- a refusal is no acceptance, and of one number, input and place only
pub refused-accepted : {A : Type 0} {r : Reading} {k : Cause} {i p n : ℕ} → r ≡ refused k i p → r ≡ Ok n → A
refused-accepted e f = let z : ◌≡◌ {A = ℕ} 0 1 = cc in absurd (omega arith)

same-refusal : {r : Reading} {k : Cause} {i p : ℕ} {k' : Cause} {i' p' : ℕ} → r ≡ refused k i p → r ≡ refused k' i' p' → (k ≡ k') × ((i ≡ i') × (p ≡ p'))
same-refusal {r} {k} {i} {p} {k'} {i'} {p'} e f =
    let g : refusal k i p ≡ refusal k' i' p' = cc in
    (ap (λ (x : Refusal). x.cause) g, (ap (λ (x : Refusal). x.input) g, ap (λ (x : Refusal). x.place) g))

-- ---- the list's faults, or none

pub list-none : (P : List ℕ) {m : ℕ} → pairs_reading P ≡ Ok m → NoneApplies (pair_faults P)
unfolding pairs_reading
list-none P e = clean-none (pair_faults P) (accepted-finding 0 (pair_count P) (first (pair_faults P)) e).1

pub none_list : (P : List ℕ) → NoneApplies (pair_faults P) → pairs_reading P ≡ Ok (pair_count P)
unfolding pairs_reading
none_list P h = rw (pairs_reading, none-clean (pair_faults P) h)

module _ (P s : List ℕ) {k : Cause} {i p : ℕ} where
  -- ---- refused exactly by the first that applies

  refused-by : RefusedBy P s k i p → specimen_reading P s ≡ refused k i p
  refused-by (inl r) = let i = r.0 in list-refused P s (pairs-refused P r.1 ∙ rw i)
  refused-by (inr r) =
      let i = r.1.0 in
      let q = first_found (specimen_faults P s) k p r.1.1 in
      under-list P s (none_list P r.0) ∙ rw (q, i)

  first_of : specimen_reading P s ≡ refused k i p → RefusedBy P s k i p
  first_of e =
      reading-cases (pairs_reading P)
      (λ k' i' p' f. let r = first-of-pairs P (f ∙ sym (list-refused P s f) ∙ e) in inl (r.1.0, r.1.1))
      (λ m f.
      let r = refused-finding 1 (total_in plain s) (first (specimen_faults P s)) (sym (under-list P s f) ∙ e) in
      inr (list-none P f, (r.0, found_first (specimen_faults P s) k p r.1)))

  -- [R25] 11 before all else, then 1 to 9 of the specimen, then 12
  pub refused-exactly : (specimen_reading P s ≡ refused k i p) ↔ RefusedBy P s k i p
  refused-exactly = (first_of, refused-by)

  -- ---- by which number

  -- never with 7, which is left for an output that is too short
  pub reading-number : specimen_reading P s ≡ refused k i p → number_of k ≢ 7
  reading-number e z =
      specimen-cases P s
      (λ k' i' p' f g. let a = ap number_of (first-of-pairs P f).0 in let b = ap number_of (same-refusal g e).0 in omega arith)
      (λ m k' i' p' f h g. (numbers.reading-number Specimen 1 s h).0 (ap number_of (same-refusal g e).0 ∙ z))
      (λ m n f h y g. let a = ap number_of (same-refusal g e).0 in omega arith)
      (λ m n f h y g. refused-accepted e g)

-- ---- number 12

module _ (P s : List ℕ) where
  abbrev es : List Entry
  es = entries_of s

  least-clash : {p : ℕ} → Least (apart_ok P es) 1 (1 + length es) p → LowestClash P es p
  least-clash l = record {
    from = l.low;
    to = omega (arith, l.high);
    clashes = true_of_not _ l.fails;
    before = λ j lo hi. false_of_not _ (l.before j lo hi);
  }

  clash-least : {p : ℕ} → LowestClash P es p → Least (apart_ok P es) 1 (1 + length es) p
  clash-least c = record {
    low = c.from;
    high = omega (arith, c.to);
    fails = not-to-false c.clashes;
    before = λ j lo hi. not-to-true (c.before j lo hi);
  }

  -- [R12] at the lowest entry that completes a pair
  pub twelve-place : {i p : ℕ} → specimen_reading P s ≡ refused Clash i p → (i ≡ 1) × LowestClash P es p
  twelve-place {i} {p} e =
      specimen-cases P s
      (λ k' i' p' f g. let a = ap number_of (first-of-pairs P f).0 in let b = ap number_of (same-refusal g e).0 in absurd (omega arith))
      (λ m k' i' p' f h g. let a = ap number_of (same-refusal g e).0 in absurd (⊎_elim (λ q. omega arith) (λ q. omega arith) (numbers.specimen-number 1 s h)))
      (λ m n f h z g.
      let r = same-refusal g e in
      (sym r.1.0, least-clash (first-least (apart_ok P es) 1 (length es) r.1.1 (λ y. z (r.1.1 ∙ y)))))
      (λ m n f h z g. refused-accepted e g)

  -- [S13] after the specimen's other checks
  pub twelve-refuses : {m n p : ℕ} → pairs_reading P ≡ Ok m → reading_of Specimen 1 s ≡ Ok n → LowestClash P es p
      → specimen_reading P s ≡ refused Clash 1 p
  twelve-refuses {m} {n} {p} e f c =
      let at : lowest_clash P s ≡ p = least_first (apart_ok P es) 1 (length es) p (clash-least c) in
      clash-refused P s e f (λ z. omega (arith, c.from)) ∙ rw at
