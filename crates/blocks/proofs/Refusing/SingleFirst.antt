-- Number 9 looked for apart: the first fault of a specimen's entries is that of numbers 4 to 6, unless an earlier entry breaks 9.
-- Assumes nothing.
use Rattle.std.proofs.Common.{◌≡◌, ℕ, zero, suc, ◌+◌, ◌-◌, ◌<◌, ◌≤◌, Bool, false, not, eqb, ◌≢◌, List, [], ◌∷◌, ◌++◌, sym, refl, ap, ◌∙◌, arith}
use Rattle.base.proofs.Tests.{bool_cases, eq-eqb, ne_eqb, tests}
use Rattle.base.specs.Search.{first_from}
use Rattle.blocks.proofs.Refusing.FirstFault.{first-append, or_else}
use Rattle.blocks.proofs.Refusing.LevelLaws.{names-passed, names-refused}
use Rattle.blocks.specs.Entries.{form_ok, names_ok, nth}
use Rattle.blocks.specs.Faults.{Fault, Finding, Clean, Faulty, depth_row, entry_faults, fault, first, owner_row, rows_from}
use Rattle.blocks.specs.Owners.{depth_ok, owner_ok}
use Rattle.blocks.specs.Single.{single_ok}
use Rattle.blocks.specs.code.ReadingSteps.{rule_faults, rule_rows}
use Rattle.blocks.specs.code.SingleSteps.{stand_before, unless_single}
use Rattle.blocks.specs.declared.Entry.{Entry}
use Rattle.blocks.specs.declared.Cause.TheVariants.{Double}
use Rattle.blocks.specs.declared.Schema.TheVariants.{Description, Named, Specimen}
use Rattle.blocks.specs.declared.Schema.{Schema}

-- what was found gives a place from n on and below e, if any
abbrev Within : ℕ → ℕ → Finding → Type 0
Within n e Clean = Unit {0}
Within n e (Faulty k p) = (n ≤ p) × (p < e)

-- of one entry and those after it
within-either : (n left : ℕ) (x f : Finding) → Within n (suc n) x → Within (suc n) (suc n + left) f → Within n (n + suc left) (or_else x f)
within-either n left Clean Clean h g = tt
within-either n left Clean (Faulty k p) h g = (omega (arith, g.0), omega (arith, g.1))
within-either n left (Faulty k p) f h g = (h.0, omega (arith, h.1))

-- how many of `left` entries from entry n on stand before what was found
abbrev ahead : ℕ → ℕ → Finding → ℕ
ahead n left Clean = left
ahead n left (Faulty k p) = p - n

before-ahead : (n : ℕ) (f : Finding) → stand_before n f ≡ ahead 1 n f
before-ahead n Clean = refl
before-ahead n (Faulty k p) = refl

-- they are not more than there are
before-most : (n : ℕ) (f : Finding) → Within 1 (1 + n) f → stand_before n f ≤ n
before-most n Clean h = omega arith
before-most n (Faulty k p) h = omega (arith, h.1)

-- one entry more
ahead_more : (n left : ℕ) (f : Finding) → Within (suc n) (suc n + left) f → ahead n (suc left) f ≡ suc (ahead (suc n) left f)
ahead_more n left Clean h = refl
ahead_more n left (Faulty k p) h = omega (arith, h.0)

module _ (rows : ℕ → List Fault) (ok : ℕ → Bool) (placed : (n : ℕ) → Within n (suc n) (first (rows n))) where
  -- the lines of an entry, and number 9 after them
  abbrev with-nine : ℕ → List Fault
  with-nine n = rows n ++ (fault (not (ok n)) Double n ∷ [])

  -- the lines of entries give their places
  rows-within : (n left : ℕ) → Within n (n + left) (first (rows_from rows n left))
  unfolding rows_from first
  rows-within n zero = tt
  rows-within n (suc left) =
      rw (first-append (rows n) (rows_from rows (suc n) left)) (within-either n left (first (rows n)) _ (placed n) (rows-within (suc n) left))

  -- entry n and what is found after it
  step-nine : (n left : ℕ) (x f : Finding) {g : Finding} → 1 ≤ n → Within n (suc n) x → Within (suc n) (suc n + left) f
      → g ≡ unless_single (first_from ok (suc n) (ahead (suc n) left f)) f
      → or_else (or_else x (first (fault (not (ok n)) Double n ∷ []))) g ≡ unless_single (first_from ok n (ahead n (suc left) (or_else x f))) (or_else x f)
  unfolding first first_from
  step-nine n left (Faulty k p) f one w h e = let z : p - n ≡ 0 = omega (arith, w.1) in rw z
  step-nine n left Clean f one w h e =
      bool_cases (ok n)
      (λ q. rw (q, ahead_more n left f h, q) e)
      (λ q. let some : eqb n 0 ≡ false = omega tests in rw (q, ahead_more n left f h, q, some))

  nine-from : (n left : ℕ) → 1 ≤ n
      → first (rows_from with-nine n left) ≡ unless_single (first_from ok n (ahead n left (first (rows_from rows n left)))) (first (rows_from rows n left))
  unfolding rows_from first first_from
  nine-from n zero one = refl
  nine-from n (suc left) one =
      first-append (with-nine n) (rows_from with-nine (suc n) left)
      ∙ ap (λ (x : Finding). or_else x (first (rows_from with-nine (suc n) left))) (first-append (rows n) (fault (not (ok n)) Double n ∷ []))
      ∙ rw (first-append (rows n) (rows_from rows (suc n) left))
      (step-nine n left (first (rows n)) (first (rows_from rows (suc n) left)) one (placed n) (rows-within (suc n) left)
      (nine-from (suc n) left (omega arith)))

-- ---- entries

-- numbers 4, 13, 5 and 6 of an entry give its own place
rules-placed : (σ : Schema) (es : List Entry) (n : ℕ) → Within n (suc n) (first (rule_rows σ es n))
unfolding first
rules-placed σ es n =
    bool_cases (form_ok σ (nth es n))
    (λ p. bool_cases (names_ok σ (nth es n))
    (λ w. let s = names-passed σ es n (owner_row σ es n ∷ depth_row es n ∷ []) w in
    bool_cases (owner_ok σ es n)
    (λ q. bool_cases (depth_ok es n) (λ r. rw (p, s, q, r) tt) (λ r. rw (p, s, q, r) (omega arith, omega arith)))
    (λ q. rw (p, s, q) (omega arith, omega arith)))
    (λ w. rw (p, names-refused σ es n (owner_row σ es n ∷ depth_row es n ∷ []) w) (omega arith, omega arith)))
    (λ p. rw p (omega arith, omega arith))

-- a description's lines are these
pub description-first : (es : List Entry) (n : ℕ) → first (rule_faults Description es 1 n) ≡ first (entry_faults Description es 1 n)
unfolding entry_faults
description-first es n = refl

pub named-first : (most : ℕ) (es : List Entry) (n : ℕ) → first (rule_faults (Named most) es 1 n) ≡ first (entry_faults (Named most) es 1 n)
unfolding entry_faults
named-first most es n = refl

-- a specimen's are these, unless an earlier entry breaks 9
module _ (es : List Entry) (n : ℕ) {f : Finding} (e : f ≡ first (rule_faults Specimen es 1 n)) where
  pub before-within : stand_before n f ≤ n
  before-within = before-most n f (rw e (rows-within (rule_rows Specimen es) (single_ok es) (rules-placed Specimen es) 1 n))

  specimen-first : {d : ℕ} → d ≡ first_from (single_ok es) 1 (stand_before n f) → unless_single d f ≡ first (entry_faults Specimen es 1 n)
  unfolding entry_faults
  specimen-first g =
      sym (nine-from (rule_rows Specimen es) (single_ok es) (rules-placed Specimen es) 1 n (omega arith) ∙ rw (← e, ← before-ahead n f, ← g))

  pub single-nowhere : {d : ℕ} → d ≡ first_from (single_ok es) 1 (stand_before n f) → d ≡ 0 → f ≡ first (entry_faults Specimen es 1 n)
  single-nowhere g z = rw (eq-eqb z) at (specimen-first g)

  pub single-found : {d : ℕ} → d ≡ first_from (single_ok es) 1 (stand_before n f) → d ≢ 0 → Faulty Double d ≡ first (entry_faults Specimen es 1 n)
  single-found g z = rw (ne_eqb z) at (specimen-first g)
