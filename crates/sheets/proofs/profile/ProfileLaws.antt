-- One law for each way through the profile of an entry.
-- Assumes nothing.
use Rattle.std.proofs.Common.{◌≡◌, ◌≢◌, ℕ, ◌+◌, ◌<◌, ◌≤◌, eqb, ◌||◌, true, false, Option, Some, None, nat_le, nat_lt, sym, ◌∙◌, arith}
use Rattle.base.proofs.Tests.{bool_cases, eq-eqb, ne_eqb, or_cases, tests}
use Rattle.blocks.specs.Entries.{form_ok, kind_ok, name_ok, number_ok}
use Rattle.blocks.specs.code.ReadingSteps.{entry_refusal}
use Rattle.blocks.specs.declared.Cause.{Cause}
use Rattle.blocks.specs.declared.Cause.TheVariants.{Profile}
use Rattle.blocks.specs.declared.Entry.{Entry}
use Rattle.blocks.specs.declared.Schema.TheVariants.{Description}
use Rattle.sheets.specs.Sheet.{in_profile, kind_in}
use Rattle.sheets.specs.code.SheetSteps.{head_start, sheet_refusal}

-- an entry that a look shows to be in a sheet
module _ (e : Entry) (l : ℕ) (reserved : e.reserved ≡ 0) (name : e.name ≢ 0) (owner : l ≢ 0) (depth : l ≤ 4) where
  told : kind_ok Description e.kind ≡ true → kind_in e.kind ≡ true → eqb e.kind 6 ≡ false
      → number_ok e.kind e.number ≡ true
      → e.number ≤ 99 → sheet_refusal e l ≡ None
  unfolding sheet_refusal entry_refusal form_ok name_ok in_profile
  told kind inside six number few =
      let named : nat_lt 0 e.name ≡ true = omega tests in
      let deep : nat_lt 33 l ≡ false = omega tests in
      let low : nat_le l 4 ≡ true = omega tests in
      let small : nat_le e.number 99 ≡ true = omega tests in
      rw (kind, eq-eqb reserved, six, named, number, ne_eqb owner, deep, inside, small, low)

  pub told-plainly : {m : ℕ} → m ≡ head_start e.kind → e.number + m ≤ 100 → sheet_refusal e l ≡ None
  unfolding kind_in number_ok
  told-plainly {m} r h =
      let k = e.kind in
      bool_cases (eqb k 1 || eqb k 5)
      (λ q.
      let whole : m ≡ 100 = r ∙ rw q in
      let z : e.number ≡ 0 = omega arith in
      or_cases (eqb k 1) (eqb k 5) q
      (λ i. let s : k ≡ 1 = omega tests in told (rw s) (rw s) (rw s) (rw (s, z)) (omega arith))
      (λ i. let s : k ≡ 5 = omega tests in told (rw s) (rw s) (rw s) (rw (s, z)) (omega arith)))
      (λ q.
      bool_cases (eqb k 3 || eqb k 4)
      (λ q'.
      let one : m ≡ 1 = r ∙ rw (q, q') in
      or_cases (eqb k 3) (eqb k 4) q'
      (λ i. let s : k ≡ 3 = omega tests in told (rw s) (rw s) (rw s) (rw s) (omega arith))
      (λ i. let s : k ≡ 4 = omega tests in told (rw s) (rw s) (rw s) (rw s) (omega arith)))
      (λ q'.
      bool_cases (eqb k 2)
      (λ i. let past : m ≡ 101 = r ∙ rw (q, q', i) in absurd (omega arith))
      (λ i. let past : m ≡ 102 = r ∙ rw (q, q', i) in absurd (omega arith))))

module _ (e : Entry) (l : ℕ) {o : Option Cause} (r : o ≡ entry_refusal Description e l) where
  pub refused-plainly : {k : Cause} → o ≡ Some k → Some k ≡ sheet_refusal e l
  unfolding sheet_refusal
  refused-plainly {k} z = let q : entry_refusal Description e l ≡ Some k = sym r ∙ z in rw q

  module _ (z : o ≡ None) where
    plain : entry_refusal Description e l ≡ None
    plain = sym r ∙ z

    pub outside-kind : in_profile e ≡ false → Some Profile ≡ sheet_refusal e l
    unfolding sheet_refusal
    outside-kind p = rw (plain, p)

    pub outside-depth : in_profile e ≡ true → 4 < l → Some Profile ≡ sheet_refusal e l
    unfolding sheet_refusal
    outside-depth p d = let q : nat_le l 4 ≡ false = omega tests in rw (plain, p, q)

    pub inside-profile : in_profile e ≡ true → l ≤ 4 → None ≡ sheet_refusal e l
    unfolding sheet_refusal
    inside-profile p d = let q : nat_le l 4 ≡ true = omega tests in rw (plain, p, q)
