-- The comparison's answer by the ways through it: refused, contained, not contained.
-- Assumes nothing.
use Prim.Native.Nat.{◌+◌, ◌<◌, ◌≤◌, ℕ}
use lib.ListN.{length}
use mathlib.Core.List.{List, []}
use mathlib.Core.Option.{none}
use mathlib.Core.Logic.{◌≢◌}
use mathlib.Core.Path.{◌∙◌, ◌≡◌, ap}
use native.Mathlib.Omega.{arith}
use Rattle.base.proofs.Tests.{eq-cases, eq-eqb, ge-ltb, lt-cases, lt-ltb, ne_eqb}
use Rattle.blocks.proofs.Refusing.Readings.{reading-cases, readings-cases}
use Rattle.blocks.proofs.RoundTrip.Accepting.{accepted-by-none, refused-by-first}
use Rattle.blocks.specs.Entries.{entries_of}
use Rattle.blocks.specs.Faults.{faults}
use Rattle.blocks.specs.Promise.{FirstOf, NoneApplies}
use Rattle.blocks.specs.Reading.{reading_of}
use Rattle.blocks.specs.declared.Entry.{Entry}
use Rattle.std.specs.Prelude.{Ok, None}
use Rattle.blocks.specs.Refusals.{number_of, refused}
use Rattle.compare.specs.declared.NotContained.{NotContained}
use Rattle.blocks.specs.declared.Schema.TheVariants.{Description}
use Rattle.compare.specs.Answer.{compare_of, compare_under, output_after, output_of, output_under, returned, verdict, not_contained}
use Rattle.logic.specs.Background.{Background, standing}
use Rattle.meaning.specs.Failing.{failing, specimen_of}
use Rattle.compare.specs.Promise.{Comparable}
use Rattle.pairs.proofs.PairsAccepted.{none-accepted}
use Rattle.pairs.proofs.PairsRefused.{pairs-refused}
use Rattle.pairs.proofs.Under.{empty-read, empty-standing}
use Rattle.pairs.specs.Pairs.{pair_faults, pairs_reading, under}
use Rattle.blocks.specs.declared.Cause.{Cause}
use Rattle.blocks.specs.declared.Cause.TheVariants.{Room}

-- ---- the ways to an answer

module _ (b : Background) (c d out : List ℕ) where
  -- [R25] input 1 first
  pub first-refused : {k : Cause} {i p : ℕ} → reading_of Description 1 c ≡ refused k i p → compare_under b c d out ≡ refused k i p
  unfolding compare_under
  first-refused e = rw (compare_under, e)

  -- [R25] then input 2
  pub second-refused : {n : ℕ} {k : Cause} {i p : ℕ} → reading_of Description 1 c ≡ Ok n → reading_of Description 2 d ≡ refused k i p
      → compare_under b c d out ≡ refused k i p
  unfolding compare_under
  second-refused e f = rw (compare_under, e, f)

  -- [R25] 7 last
  pub too_short : {n m : ℕ} → reading_of Description 1 c ≡ Ok n → reading_of Description 2 d ≡ Ok m
      → length out < length c + length d → compare_under b c d out ≡ refused Room 0 0
  unfolding compare_under
  too_short e f h = rw (compare_under, e, f, lt-ltb h)

  -- the two lists of entries are compared
  pub compared : Comparable c d out → compare_under b c d out ≡ verdict b (entries_of c) (entries_of d)
  unfolding compare_under
  compared r = rw (compare_under, r.first_read, r.second-read, ge-ltb r.room)

  -- refused, or compared
  pub compare-cases : {X : Type 0} → ((k : Cause) (i p : ℕ) → compare_under b c d out ≡ refused k i p → X) → (Comparable c d out → X) → X
  compare-cases f g =
      readings-cases (reading_of Description 1 c) (reading_of Description 2 d)
      (λ k i p e. f k i p (first-refused e))
      (λ n k i p e e'. f k i p (second-refused e e'))
      (λ n m e e'. lt-cases (length out) (length c + length d)
      (λ h. f Room 0 0 (too_short e e' h))
      (λ h. g (record { first = n; second = m; first_read = e; second-read = e'; room = h })))

  -- what is contained or not contained was compared
  pub contained-ready : compare_under b c d out ≡ Ok None → Comparable c d out
  contained-ready e = compare-cases (λ k i p q. let z : ◌≡◌ {A = ℕ} 0 1 = cc in absurd (omega arith)) (λ r. r)

  pub not-contained-ready : {j k : ℕ} → compare_under b c d out ≡ not_contained j k → Comparable c d out
  not-contained-ready e = compare-cases (λ k i p q. let z : ◌≡◌ {A = ℕ} 0 1 = cc in absurd (omega arith)) (λ r. r)

-- ---- under a list of pairs

module _ (P c d out : List ℕ) where
  -- [R25] 11 before all else
  pub list-refused : {k : Cause} {i p : ℕ} → pairs_reading P ≡ refused k i p → compare_of P c d out ≡ refused k i p
  unfolding compare_of
  list-refused e = rw (compare_of, e)

  -- a list that is accepted stands for its background
  pub list_read : {n : ℕ} → pairs_reading P ≡ Ok n → compare_of P c d out ≡ compare_under (under P) c d out
  unfolding compare_of
  list_read e = rw (compare_of, e)

  pub list-output : {n : ℕ} → pairs_reading P ≡ Ok n → output_of P c d out ≡ output_under (under P) c d out
  unfolding output_of output_under
  list-output e = ap (output_after (under P) c d out) (list_read e)

  -- refused by the list, or compared under it
  pub list_cases : {X : Type 0} → ((k : Cause) (i p : ℕ) → compare_of P c d out ≡ refused k i p → X)
      → ((n : ℕ) → pairs_reading P ≡ Ok n → compare_of P c d out ≡ compare_under (under P) c d out → X) → X
  list_cases f g = reading-cases (pairs_reading P) (λ k i p e. f k i p (list-refused e)) (λ n e. g n e (list_read e))

-- [S11] an empty list is none
pub empty-list : (c d out : List ℕ) → (compare_of [] c d out ≡ compare_under standing c d out) × (output_of [] c d out ≡ output_under standing c d out)
empty-list c d out = (list_read [] c d out empty-read ∙ rw empty-standing, list-output [] c d out empty-read ∙ rw empty-standing)

-- ---- the numbers of the refusals [K6]

module _ (P c d out : List ℕ) where
  -- [R25] 11 before all else
  pub returned-list : {k : Cause} {p : ℕ} → FirstOf (pair_faults P) k p
      → returned (compare_of P c d out) ≡ record { contained = none; entry = 0; entries = 0; number = number_of k; input = 0; place = p }
  returned-list f = ap returned (list-refused P c d out (pairs-refused P f))

  module _ (l : NoneApplies (pair_faults P)) where
    under-list : compare_of P c d out ≡ compare_under (under P) c d out
    under-list = list_read P c d out (none-accepted P l)

    -- [R24] by the first that applies of input 1
    pub returned-first : {k : Cause} {p : ℕ} → FirstOf (faults Description c) k p
        → returned (compare_of P c d out) ≡ record { contained = none; entry = 0; entries = 0; number = number_of k; input = 1; place = p }
    returned-first f = ap returned (under-list ∙ first-refused (under P) c d out (refused-by-first Description 1 c f))

    -- of input 2, where input 1 is accepted
    pub returned-second : {k : Cause} {p : ℕ} → NoneApplies (faults Description c) → FirstOf (faults Description d) k p
        → returned (compare_of P c d out) ≡ record { contained = none; entry = 0; entries = 0; number = number_of k; input = 2; place = p }
    returned-second n f =
        ap returned (under-list ∙ second-refused (under P) c d out (accepted-by-none Description 1 c n) (refused-by-first Description 2 d f))

    -- [R25] 7 last, [R23] at input 0
    pub returned-short : NoneApplies (faults Description c) → NoneApplies (faults Description d) → length out < length c + length d
        → returned (compare_of P c d out) ≡ record { contained = none; entry = 0; entries = 0; number = 7; input = 0; place = 0 }
    returned-short n m h =
        ap returned (under-list ∙ too_short (under P) c d out (accepted-by-none Description 1 c n) (accepted-by-none Description 2 d m) h)

-- otherwise the two are compared
pub none-comparable : (c d out : List ℕ) → NoneApplies (faults Description c) → NoneApplies (faults Description d) → length c + length d ≤ length out → Comparable c d out
none-comparable c d out n m h =
    record {
      first = length (entries_of c);
      second = length (entries_of d);
      first_read = accepted-by-none Description 1 c n;
      second-read = accepted-by-none Description 2 d m;
      room = h;
    }

-- ---- two lists of entries

module _ (b : Background) (c d : List Entry) where
  -- [C5] every entry holds: contained
  pub verdict-contained : failing b c d ≡ 0 → verdict b c d ≡ Ok None
  unfolding verdict
  verdict-contained e = rw (verdict, eq-eqb e)

  pub verdict-not : failing b c d ≢ 0 → verdict b c d ≡ not_contained (failing b c d) (length (specimen_of b c d))
  unfolding verdict
  verdict-not z = rw (verdict, ne_eqb z)

  pub contained-verdict : verdict b c d ≡ Ok None → failing b c d ≡ 0
  contained-verdict e =
      eq-cases (failing b c d) 0 (λ z. z)
      (λ z. let f = verdict-not z in let y : ◌≡◌ {A = ℕ} 0 1 = cc in absurd (omega arith))

  pub not-verdict : {j k : ℕ} → verdict b c d ≡ not_contained j k → (failing b c d ≢ 0) × (failing b c d ≡ j) × (length (specimen_of b c d) ≡ k)
  not-verdict {j} {k} e =
      eq-cases (failing b c d) 0
      (λ z. let f = verdict-contained z in let y : ◌≡◌ {A = ℕ} 0 1 = cc in absurd (omega arith))
      (λ z.
      let f = verdict-not z in
      let g : ◌≡◌ {A = NotContained} (record { entry = failing b c d; entries = length (specimen_of b c d) }) (record { entry = j; entries = k }) = cc in
      (z, ap (λ (n : NotContained). n.entry) g, ap (λ (n : NotContained). n.entries) g))
