-- The lines of the entries of a delivered record, one after the other.
-- Assumes nothing.
use Rattle.std.proofs.Common.{◌≡◌, ℕ, suc, ◌+◌, ◌-◌, ◌<◌, ◌≤◌, true, false, cond, not, List, ◌++◌, Option, Some, None, add-one, refl, ap, ◌∙◌, arith}
use Rattle.base.proofs.RangeLaws.{none_left, one_left}
use Rattle.base.proofs.Tests.{bool_cases}
use Rattle.blocks.proofs.Refusing.FirstFault.{step, step-found, step-more}
use Rattle.blocks.specs.Entries.{nth}
use Rattle.blocks.specs.Faults.{Clean, Faulty, first, rows_from}
use Rattle.blocks.specs.declared.Cause.{Cause}
use Rattle.blocks.specs.declared.Cause.TheVariants.{Double, Form, Item}
use Rattle.blocks.specs.declared.Entry.{Entry}
use Rattle.delivered.specs.Reading.{another, delivered_rows, form_ok, items_ok}
use Rattle.delivered.specs.code.Noted.{delivered_refusal}

module _ (total : ℕ) (es : List Entry) where
  row-step : (n left : ℕ) → first (rows_from (delivered_rows total es) n (suc left))
      ≡ step (delivered_refusal total es n) n (first (rows_from (delivered_rows total es) (suc n) left))
  unfolding first rows_from delivered_refusal
  row-step n left =
      bool_cases (form_ok (nth es n))
      (λ p. rw p (bool_cases (items_ok total (nth es n))
      (λ q. rw q (bool_cases (another es n) (λ r. rw r) (λ r. rw r)))
      (λ q. rw q)))
      (λ p. rw p)

  pub rows-more : (n count : ℕ) → n ≤ count → delivered_refusal total es n ≡ None
      → first (rows_from (delivered_rows total es) n (count + 1 - n)) ≡ first (rows_from (delivered_rows total es) (n + 1) (count + 1 - (n + 1)))
  rows-more n count h z =
      rw (one_left n (count + 1) (omega arith), add-one n) (row-step n (count + 1 - suc n) ∙ step-more _ _ _ z)

  pub rows-found : (n count : ℕ) → n ≤ count → {k : Cause} → delivered_refusal total es n ≡ Some k
      → first (rows_from (delivered_rows total es) n (count + 1 - n)) ≡ Faulty k n
  rows-found n count h z =
      rw (one_left n (count + 1) (omega arith)) (row-step n (count + 1 - (n + 1)) ∙ step-found _ _ _ z)

  pub rows-end : (n count : ℕ) → count < n → first (rows_from (delivered_rows total es) n (count + 1 - n)) ≡ Clean
  unfolding rows_from first
  rows-end n count h = rw (none_left n (count + 1) (omega arith))

-- why an entry is refused, number by number
module _ (total : ℕ) (es : List Entry) (n : ℕ) {e : Entry} (at : e ≡ nth es n) where
  pub refused-form : form_ok e ≡ false → Some Form ≡ delivered_refusal total es n
  unfolding delivered_refusal
  refused-form p = rw (delivered_refusal, ← at, p)

  pub refused-item : form_ok e ≡ true → items_ok total e ≡ false → Some Item ≡ delivered_refusal total es n
  unfolding delivered_refusal
  refused-item p q = rw (delivered_refusal, ← at, p, q)

  pub refused-double : form_ok e ≡ true → items_ok total e ≡ true → another es n ≡ true → Some Double ≡ delivered_refusal total es n
  unfolding delivered_refusal
  refused-double p q r = rw (delivered_refusal, r, ← at, p, q)

  pub refused-not : form_ok e ≡ true → items_ok total e ≡ true → another es n ≡ false → None ≡ delivered_refusal total es n
  unfolding delivered_refusal
  refused-not p q r = rw (delivered_refusal, r, ← at, p, q)
