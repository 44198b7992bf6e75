-- The pass over the entries of a sheet, by the table of levels: what it sees of an entry is what the entry's lines
-- find.
-- Assumes nothing.
use Rattle.std.proofs.Common.{◌≡◌, ℕ, zero, suc, ◌+◌, ◌-◌, ◌<◌, ◌≤◌, not, ◌&&◌, nat_le, List, [], ◌∷◌, Option, Some, None, sym, refl, ap, ◌∙◌, add-one, arith}
use Rattle.base.proofs.RangeLaws.{none_left, one_left}
use Rattle.base.proofs.Tests.{bool_cases, both_ways, iff-eq, tests}
use Rattle.blocks.proofs.Refusing.FirstFault.{clean-none, first-append, first-front, step, step-found, step-more}
use Rattle.blocks.proofs.Refusing.LevelLaws.{entries-end, entries-found, entries-more, level-cases}
use Rattle.blocks.specs.Entries.{nth}
use Rattle.blocks.specs.Faults.{Clean, Faulty, entry_rows, fault, first, rows_from}
use Rattle.blocks.specs.Owners.{depth_of, owner_of}
use Rattle.blocks.specs.Promise.{NoneApplies}
use Rattle.blocks.specs.code.ReadingSteps.{Levels, entry_refusal, level_by, rule_faults}
use Rattle.blocks.specs.declared.Cause.{Cause}
use Rattle.blocks.specs.declared.Cause.TheVariants.{Profile}
use Rattle.blocks.specs.declared.Entry.{Entry}
use Rattle.blocks.specs.declared.Schema.TheVariants.{Description}
use Rattle.sheets.specs.Sheet.{in_profile, sheet_ok, sheet_rows}
use Rattle.sheets.specs.code.SheetSteps.{sheet_refusal}

cause-cases {ℓ} : {A : Type ℓ} (o : Option Cause) → (o ≡ None → A) → ((k : Cause) → o ≡ Some k → A) → A
cause-cases None f g = f refl
cause-cases (Some k) f g = g k refl

module _ (es : List Entry) (t : List ℕ) (n : ℕ) {e : Entry} {l : ℕ} {o : Option Cause} (T : Levels Description es t n)
    (one : 1 ≤ n) (at : e ≡ nth es n)
    (lv : l ≡ level_by t n e.owner) (r : o ≡ sheet_refusal e l) where
  owner-level : l ≡ level_by t n (owner_of es n)
  unfolding owner_of
  owner-level = lv ∙ ap (λ (x : Entry). level_by t n x.owner) at

  -- the lines of any description, of one entry
  one-entry : first (rule_faults Description es n (n + 1 - n)) ≡ first (entry_rows Description es n)
  unfolding rows_from
  one-entry =
      let m : n + 1 - n ≡ suc zero = omega arith in
      rw m (first-front (entry_rows Description es n) [] (unfold NoneApplies in tt))

  plainly-clean : entry_refusal Description e l ≡ None → first (entry_rows Description es n) ≡ Clean
  plainly-clean z =
      sym one-entry ∙ entries-more Description es t n T one at lv refl n (omega arith) z
      ∙ entries-end Description es (n + 1) n (omega arith)

  plainly-found : {k : Cause} → entry_refusal Description e l ≡ Some k
      → first (entry_rows Description es n) ≡ Faulty k n
  plainly-found z = sym one-entry ∙ entries-found Description es t n T one at lv refl n (omega arith) z

  -- an entry that no line of a description refuses is one less deep than its owner's level
  level-depth : entry_refusal Description e l ≡ None → l ≡ suc (depth_of es n)
  unfolding NoneApplies
  level-depth z =
      level-cases Description es t n T one owner-level
      (λ q w. let h = clean-none (entry_rows Description es n) (plainly-clean z) in both_ways (ap not w) h.1.0)
      (λ q w b d. d)

  inside : entry_refusal Description e l ≡ None → sheet_ok es n ≡ (in_profile e && nat_le l 4)
  unfolding sheet_ok
  inside z =
      let d = level-depth z in
      let q : nat_le (depth_of es n) 3 ≡ nat_le l 4 = iff-eq (λ h. omega tests) (λ h. omega tests) in
      rw (at, q)

  here : first (sheet_rows es n) ≡ step o n Clean
  unfolding sheet_refusal first
  here =
      first-append (entry_rows Description es n) (fault (not (sheet_ok es n)) Profile n ∷ [])
      ∙ cause-cases (entry_refusal Description e l)
      (λ z. bool_cases (in_profile e && nat_le l 4)
      (λ q. let i = inside z ∙ q in rw (r, z, q, plainly-clean z, i))
      (λ q. let i = inside z ∙ q in rw (r, z, q, plainly-clean z, i)))
      (λ k z. rw (r, z, plainly-found z))

  sheet-step : (left : ℕ)
      → first (rows_from (sheet_rows es) n (suc left)) ≡ step o n (first (rows_from (sheet_rows es) (suc n) left))
  unfolding rows_from
  sheet-step left =
      first-append (sheet_rows es n) (rows_from (sheet_rows es) (suc n) left)
      ∙ cause-cases o (λ z. rw (here, z)) (λ k z. rw (here, z))

  -- what refuses no sheet refuses no description
  pub unrefused-plainly : o ≡ None → entry_refusal Description e l ≡ None
  unfolding sheet_refusal
  unrefused-plainly z =
      cause-cases (entry_refusal Description e l)
      (λ q. q)
      (λ k q. let w : Some k ≡ None = rw q at (sym r ∙ z) in let y : ◌≡◌ {A = ℕ} 0 1 = cc in absurd (omega arith))

  pub sheet-more : (total : ℕ) → n ≤ total → o ≡ None
      → first (rows_from (sheet_rows es) n (total + 1 - n))
      ≡ first (rows_from (sheet_rows es) (n + 1) (total + 1 - (n + 1)))
  sheet-more total h z = rw (one_left n (total + 1) (omega arith), add-one n)
      (sheet-step (total + 1 - suc n) ∙ step-more _ _ _ z)

  pub sheet-found : (total : ℕ) → n ≤ total → {k : Cause} → o ≡ Some k
      → first (rows_from (sheet_rows es) n (total + 1 - n)) ≡ Faulty k n
  sheet-found total h z = rw (one_left n (total + 1) (omega arith))
      (sheet-step (total + 1 - (n + 1)) ∙ step-found _ _ _ z)

pub sheet-end : (es : List Entry) (n total : ℕ) → total < n
    → first (rows_from (sheet_rows es) n (total + 1 - n)) ≡ Clean
unfolding rows_from first
sheet-end es n total h = rw (none_left n (total + 1) (omega arith))
