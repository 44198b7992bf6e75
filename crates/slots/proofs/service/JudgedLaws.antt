-- What judging a service with no names answers: refused by its blocks or its entries, or judged by the first entry that fails.
-- Assumes nothing.
use Prim.Native.Nat.{ℕ}
use lib.Dec.{eqb}
use mathlib.Core.Bool.{Bool, false, true}
use mathlib.Core.List.{List, []}
use mathlib.Core.Path.{◌∙◌, ◌≡◌, ap, refl, subst, sym}
use Rattle.std.specs.Prelude.{Option, unwrap_or, Err, Ok, Result}
use Rattle.blocks.proofs.Refusing.SingleFirst.{named-first}
use Rattle.blocks.specs.Entries.{entries_of}
use Rattle.blocks.specs.Faults.{entry_faults, first}
use Rattle.blocks.specs.Reading.{answer, reading_of}
use Rattle.blocks.specs.Refusals.{refused}
use Rattle.blocks.specs.declared.Refusal.{Refusal}
use Rattle.blocks.specs.declared.Schema.TheVariants.{Description, Named}
use Rattle.logic.specs.Background.{LawfulBackground}
use Rattle.names.proofs.Legality.AcceptedReadings.{nameless-sent, sent-accepted}
use Rattle.pairs.specs.Pairs.{under}
use Rattle.slots.proofs.FailingLaws.{accepted-few}
use Rattle.slots.proofs.failing.JudgingLaws.{failing-bottom, failing-found}
use Rattle.slots.specs.Holding.{failing_in}
use Rattle.slots.specs.code.Judging.{Judgement, plain_judged, unless_told}
use Rattle.slots.specs.code.Pass.{PassedAll}
use Rattle.slots.specs.code.Tables.{Held}
use Rattle.unfolding.proofs.BufferLaws.{sent-itself}

-- without names, it is a plain description
plain-read : (i : ℕ) (d : List ℕ) {n : ℕ} → reading_of (Named 0) i d ≡ Ok n → reading_of Description 2 d ≡ Ok n
plain-read i d e =
    let u = sym (nameless-sent i d [] refl) ∙ e in
    ap (reading_of Description 2) (sym (sent-itself [] d refl)) ∙ (sent-accepted [] i d u 2).0

module _ (P c : List ℕ) (i : ℕ) (d : List ℕ) where
  -- it is refused as a whole
  pub plain-refused : {x : Refusal} → reading_of (Named 0) i d ≡ Err x → Err x ≡ plain_judged P c i d
  unfolding plain_judged
  plain-refused e = rw e

  -- nothing fits the supplier's
  pub plain-broken : LawfulBackground (under P) → {t cells : List ℕ} {most : ℕ} {used : ℕ} {impossible : Bool} → Held (under P) c used t most cells impossible → impossible ≡ true
      → {r : Judgement} → r ≡ unless_told (reading_of (Named 0) i d) true → r ≡ plain_judged P c i d
  unfolding plain_judged
  plain-broken law H z e = let none = failing-bottom law c d H z in e ∙ rw (← none)

  -- its entries decide
  module _ (total : ℕ) (e : reading_of (Named 0) i d ≡ answer i total (first (entry_faults (Named 0) (entries_of d) 1 total)))
      (t : List ℕ) (most : ℕ) (cells : List ℕ) (used : ℕ) {r : Result (Option ℕ) Refusal} (A : PassedAll (under P) d t most cells used total i r) where
    pub entries-refused : {x : Refusal} → r ≡ Err x → Err x ≡ plain_judged P c i d
    entries-refused {x} q =
        let f = subst (PassedAll (under P) d t most cells used total i) q A in
        let whose : refused x.cause i x.place ≡ Err x = ap (λ (j : ℕ). refused x.cause j x.place) (sym f.1) in
        plain-refused (e ∙ rw (sym (named-first 0 (entries_of d) total) ∙ f.0) whose)

    pub entries-judged : LawfulBackground (under P) → {impossible : Bool} → Held (under P) c used t most cells impossible → impossible ≡ false → {f : Option ℕ} {x : Bool} → r ≡ Ok f
        → x ≡ eqb (unwrap_or f 0) 0 → Ok x ≡ plain_judged P c i d
    unfolding plain_judged
    entries-judged law H z {f} q is =
        let F = subst (PassedAll (under P) d t most cells used total i) q A in
        let accepted : reading_of (Named 0) i d ≡ Ok total = e ∙ rw (sym (named-first 0 (entries_of d) total) ∙ F.0) in
        let whole = plain-read i d accepted in
        let fails : unwrap_or f 0 ≡ failing_in (under P) c d = failing-found law c d H whole z (λ ss x. F.1 (accepted-few 2 d whole).2 ss x) in
        rw (accepted, is, fails)
