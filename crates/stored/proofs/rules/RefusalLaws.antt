-- Why a stored entry is refused: as an entry of the top it breaks number 4 or none, and its depth tells the rest.
-- Assumes nothing.
use Rattle.std.proofs.Common.{◌≡◌, ℕ, ◌<◌, ◌≤◌, true, cond, Option, Some, None, refl, sym, ap, ◌∙◌}
use Rattle.base.proofs.Tests.{bool_cases, gt-leb, le-leb}
use Rattle.blocks.specs.Entries.{form_ok}
use Rattle.blocks.specs.code.ReadingSteps.{entry_refusal}
use Rattle.blocks.specs.declared.Cause.{Cause}
use Rattle.blocks.specs.declared.Cause.TheVariants.{Depth, Form, Walking}
use Rattle.blocks.specs.declared.Entry.{Entry}
use Rattle.blocks.specs.declared.Schema.TheVariants.{Description}
use Rattle.stored.proofs.WalkingLaws.{none-some}
use Rattle.stored.specs.Stored.{owned_entry}
use Rattle.stored.specs.code.Steps.{stored_refusal}
use Rattle.stored.specs.declared.StoredEntry.{StoredEntry}

form-alone : (e : Entry) → entry_refusal Description e 1 ≡ cond (form_ok Description e) None (Some Form)
unfolding entry_refusal
form-alone e = refl

module _ (x : StoredEntry) (most : ℕ) {f : Option Cause} {e : Entry} (r : f ≡ entry_refusal Description e 1) (own : e ≡ owned_entry 0 x) where
  alone : f ≡ cond (form_ok Description (owned_entry 0 x)) None (Some Form)
  alone = r ∙ form-alone e ∙ ap (λ (y : Entry). cond (form_ok Description y) None (Some Form)) own

  pub by-form : {k : Cause} → f ≡ Some k → Some k ≡ stored_refusal x most
  unfolding stored_refusal
  by-form z =
      bool_cases (form_ok Description (owned_entry 0 x))
      (λ q. absurd (none-some _ (rw q at alone) z))
      (λ q. rw (stored_refusal, q) (sym z ∙ rw q at alone))

  fine : f ≡ None → form_ok Description (owned_entry 0 x) ≡ true
  fine z =
      bool_cases (form_ok Description (owned_entry 0 x))
      (λ q. q)
      (λ q. absurd (none-some Form z (rw q at alone)))

  pub by-walking : f ≡ None → most < x.depth → Some Walking ≡ stored_refusal x most
  unfolding stored_refusal
  by-walking z h = rw (stored_refusal, fine z, gt-leb h) refl

  pub by-depth : f ≡ None → x.depth ≤ most → 32 < x.depth → Some Depth ≡ stored_refusal x most
  unfolding stored_refusal
  by-depth z h d = rw (stored_refusal, fine z, le-leb h, gt-leb d) refl

  pub right : f ≡ None → x.depth ≤ most → x.depth ≤ 32 → None ≡ stored_refusal x most
  unfolding stored_refusal
  right z h d = rw (stored_refusal, fine z, le-leb h, le-leb d) refl
