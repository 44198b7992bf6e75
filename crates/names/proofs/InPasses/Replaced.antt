-- Names replaced by what stands for the same change nothing, once all are unfolded.
-- Assumes nothing.
use Prim.Native.Nat.{suc, zero, ℕ}
use lib.Dec.{eqb}
use mathlib.Core.Bool.{◌&&◌, true}
use mathlib.Core.List.{List, [], ◌∷◌, append-nil, map}
use mathlib.Core.Path.{◌∙◌, ◌≡◌, ap, fun_ext, refl}
use native.Mathlib.Omega.{arith}
use Rattle.base.proofs.Tests.{and_left, and_right, eqb-eq}
use Rattle.blocks.specs.Entries.{form_ok, is_named, nth}
use Rattle.blocks.specs.Owners.{owner_of, owner_ok}
use Rattle.blocks.specs.declared.Entry.{Entry}
use Rattle.names.proofs.Entries.EachEntry.{each-of-numbers, numbers-of-each, unfold-each}
use Rattle.names.proofs.InPasses.UnfoldTwice.{unfold-twice}
use Rattle.names.specs.NamedForm.{named_form_ok}
use Rattle.names.specs.Promise.{FormsOk, OwnersOk}
use Rattle.names.specs.Unfold.{contents, owned_by, relocate, shifted, unfold_from, unfolded, unfolded_by}
use Rattle.names.specs.code.Passes.{StandsFor, name_again}

-- ---- forms

-- unfolded by allowed forms, allowed forms stay
pub unfold-forms : (T : ℕ → List Entry) → ((n : ℕ) → FormsOk (T n)) → (es : List Entry) → FormsOk es → FormsOk (unfolded T es)
unfolding named_form_ok form_ok
unfold-forms T t es h =
    let Formed : Entry → Type 0 = λ e. named_form_ok e ≡ true in
    numbers-of-each Formed (unfolded T es)
    (unfold-each Formed (λ o e f. f) T es (λ n lo hi. (λ q. each-of-numbers Formed (T (nth es n).name) (t (nth es n).name), λ q. h n lo hi)))

-- ---- a name that is left as it is

pub again-forms : (n : ℕ) → FormsOk (name_again n)
unfolding named_form_ok nth
again-forms n i lo hi = let q : i ≡ 1 = omega arith in rw q

-- it is the entry with a new owner
pub name-again : (m o : ℕ) (e : Entry) → is_named e ≡ true → named_form_ok e ≡ true → map (relocate m o) (name_again e.name) ≡ owned_by o e ∷ []
unfolding named_form_ok
name-again m o e q h =
    let f : (eqb e.reserved 0 && eqb e.number 0) ≡ true = rw q at h in
    let k : e.kind ≡ 9 = eqb-eq q in
    let a : e.reserved ≡ 0 = eqb-eq (and_left (eqb e.reserved 0) (eqb e.number 0) f) in
    let b : e.number ≡ 0 = eqb-eq (and_right (eqb e.reserved 0) (eqb e.number 0) f) in
    rw (k, a, b)

pub again-owners : (n : ℕ) → OwnersOk (name_again n)
unfolding owner_ok owner_of nth
again-owners n i lo hi = let q : i ≡ 1 = omega arith in rw q

moved_nowhere : (es : List Entry) → map (relocate 0 0) es ≡ es
moved_nowhere [] = refl
moved_nowhere (e ∷ es) = let z : shifted 0 0 e.owner ≡ e.owner = same e.owner in rw (z, moved_nowhere es)
  where
    same : (j : ℕ) → shifted 0 0 j ≡ j
    same zero = refl
    same (suc j) = omega arith

-- it is replaced by its contents
pub unfold-again : (T : ℕ → List Entry) (n : ℕ) → unfolded T (name_again n) ≡ T n
unfolding unfolded unfold_from
unfold-again T n = append-nil (map (relocate 0 0) (T n)) ∙ moved_nowhere (T n)

-- ---- a pass

-- replacing names by entries that stand for the same changes nothing once all are unfolded
pub unfold-pass : (K : List (List Entry)) (S : ℕ → List Entry) → StandsFor K S → (es : List Entry) → OwnersOk es
    → unfolded_by K (unfolded S es) ≡ unfolded_by K es
unfolding unfolded_by
unfold-pass K S F es w =
    unfold-twice S (contents K) F.owner es w ∙ ap (λ (T : ℕ → List Entry). unfolded T es) (fun_ext F.same)
