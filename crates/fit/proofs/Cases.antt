-- The desk examples: each specimen shows that the service's description asks more than the supplier's gives.
-- Assumes nothing.
use lib.ListN.{length}
use mathlib.Core.Bool.{Bool, ◌&&◌, false, false≢true, not, true}
use mathlib.Core.List.Memᴰ
use mathlib.Core.List.{List, Memᴰ, [], ◌∷◌}
use mathlib.Core.Logic.{⊎_elim}
use mathlib.Core.Path.{◌∙◌, ◌≡◌, refl}
use Rattle.base.proofs.Tests.{and_left, and_right, false_of_not}
use Rattle.base.specs.Range.{sum}
use Rattle.blocks.proofs.Refusing.FirstFault.{clean-none}
use Rattle.blocks.proofs.Refusing.Legal.{none-legal}
use Rattle.blocks.specs.Entries.{form_ok, name_ok, nth, number_ok}
use Rattle.blocks.specs.Faults.{entry_faults, first, rows_from, Finding, Clean, Faulty}
use Rattle.blocks.specs.Owners.{chain, depth_of, depth_ok, owner_of, owner_ok}
use Rattle.blocks.specs.Promise.{Legal}
use Rattle.blocks.specs.Single.{items_up_to, single_ok}
use Rattle.blocks.specs.declared.Entry.{Entry}
use Rattle.blocks.specs.declared.Schema.{Schema}
use Rattle.blocks.specs.declared.Schema.TheVariants.{Description, Specimen}
use Rattle.fit.proofs.FitByNumber.{fit-by-groups}
use Rattle.fit.specs.Promise.{Shows}
use Rattle.fit.specs.code.Bare.{quiet}
use Rattle.fit.specs.code.Groups.{fits_place, groups_by, has_property, meets_entry}
use Rattle.logic.proofs.Records.Counting.{every_in}
use Rattle.meaning.specs.FitExamples.{Case, cases}
use Rattle.meaning.specs.Owned.{all_where}

-- ---- by computing

-- no fault was found
abbrev clean : Finding → Bool
clean Clean = true
clean (Faulty k p) = false

-- what is computed as clean is clean
clean_is : (f : Finding) → clean f ≡ true → f ≡ Clean
clean_is Clean e = refl
clean_is (Faulty k p) e = absurd (false≢true e)

-- no entry breaks a rule
abbrev lawful : Schema → List Entry → Bool
lawful σ es = clean (first (entry_faults σ es 1 (length es)))

-- entries that are computed as lawful are legal
lawful-legal : (σ : Schema) (es : List Entry) → lawful σ es ≡ true → Legal σ es
lawful-legal σ es e = none-legal (clean-none _ (clean_is _ e))

-- the case is shown by entry numbers
abbrev shown : Case → Bool
shown c =
    (lawful Specimen c.specimen && (lawful Description c.supplier && lawful Description c.service))
    && (fits_place 33 c.specimen c.supplier 0 0 && not (fits_place 33 c.specimen c.service 0 0))

-- a case that is shown by entry numbers is shown in the record of its specimen
shown-shows : (c : Case) → shown c ≡ true → Shows c
shown-shows c e =
    let s = lawful Specimen c.specimen in
    let a = lawful Description c.supplier in
    let b = lawful Description c.service in
    let y = fits_place 33 c.specimen c.supplier 0 0 in
    let n = fits_place 33 c.specimen c.service 0 0 in
    let legal = and_left (s && (a && b)) (y && not n) e in
    let fit = and_right (s && (a && b)) (y && not n) e in
    let both = and_right s (a && b) legal in
    let supplier = lawful-legal Description c.supplier (and_left a b both) in
    let service = lawful-legal Description c.service (and_right a b both) in
    record {
      legal-specimen = lawful-legal Specimen c.specimen (and_left s (a && b) legal);
      legal-supplier = supplier;
      legal-service = service;
      fits-supplier = fit-by-groups c.specimen c.supplier supplier ∙ and_left y (not n) fit;
      not-service = fit-by-groups c.specimen c.service service ∙ false_of_not n (and_right y (not n) fit);
    }

-- each case of a list is shown if all are
all-show : (cs : List Case) → every_in shown cs ≡ true → (c : Case) → Memᴰ c cs → Shows c
unfolding every_in
all-show [] e c m = absurd (Memᴰ.not-nil m)
all-show (b ∷ cs) e c m =
    ⊎_elim
    (λ q. rw q (shown-shows b (and_left (shown b) (every_in shown cs) e)))
    (λ r. all-show cs (and_right (shown b) (every_in shown cs) e) c r)
    (Memᴰ.cases_cons m)

-- every desk example is shown by its specimen
pub cases-show : (c : Case) → Memᴰ c cases → Shows c
unfolding cases every_in first entry_faults rows_from single_ok items_up_to sum form_ok name_ok number_ok owner_ok owner_of nth depth_ok depth_of chain all_where has_property groups_by quiet meets_entry
cases-show = all-show cases refl
