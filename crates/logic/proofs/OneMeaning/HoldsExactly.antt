-- A normal form holds exactly the atoms that it says, in the records that keep the background.
-- Assumes nothing.
use Prim.Native.Nat.{ℕ}
use lib.Dec.{leb}
use mathlib.Core.Bool.{false≢true, true}
use mathlib.Core.List.{List, [], ◌∷◌}
use mathlib.Core.Logic.{◌↔◌, inl, inr}
use mathlib.Core.Path.{◌∙◌, ◌≡◌, sym}
use Rattle.base.proofs.Tests.{bool_cases, both_ways, or_cases, tests}
use Rattle.logic.proofs.NormalForm.Fits.{fits_sub, linked-follows, linked-none}
use Rattle.logic.proofs.NormalForm.IsNormal.{canonical-alive, nf-normal}
use Rattle.logic.proofs.NormalForm.Sound.{nf-sound, supports-sound}
use Rattle.logic.proofs.SpecimenTrees.WitnessKeeps.{counterexample}
use Rattle.logic.specs.Background.{Background, LawfulBackground}
use Rattle.logic.specs.Canonical.{Canonical, Normal}
use Rattle.logic.specs.Holds.{holds, holds_at}
use Rattle.logic.specs.Meaning.{Entails}
use Rattle.logic.specs.Normal.{bottom, is_bottom, nf, sub, supports}
use Rattle.logic.specs.Place.{Atom, Place, atom, most}
use Rattle.logic.specs.Record.{along, fits, meets, successors}

-- what a place holds, it says
pub holds_at-sound : {b : Background} (t : Place) (w : List ℕ) (a : Atom) → holds_at b t w a ≡ true → Entails b t w a
unfolding holds_at along
holds_at-sound t [] a e c kept x i h = supports-sound c kept t a x i e h
holds_at-sound {b} t (l ∷ w) a e c kept x i h =
    or_cases (supports b t (atom most l 0)) (holds_at b (sub l t) w a) e
    (λ z.
    let none-linked : leb (successors c l x) 0 ≡ true = supports-sound c kept t (atom most l 0) x i z h in
    linked-none c l x (λ y. along c w y (meets c a)) (omega tests))
    (λ z. linked-follows c l x (λ y. fits c (sub l t) y) (λ y. along c w y (meets c a)) (λ y j f. holds_at-sound (sub l t) w a z c kept y j f)
    (fits_sub c l t x h))

module _ {b : Background} (law : LawfulBackground b) where
  -- what a normal place that is alive says, it holds
  pub holds_at-complete : {t : Place} → Canonical b t → (w : List ℕ) (a : Atom) → Entails b t w a → holds_at b t w a ≡ true
  holds_at-complete {t} h w a f =
      bool_cases (holds_at b t w a)
      (λ e. e)
      (λ e.
      let x = counterexample law h w a e in
      both_ways (f x.shown x.kept x.item x.inside x.fitting) x.failing)

  -- a normal place that is alive holds exactly what it says
  pub holds_at-entails : {t : Place} → Canonical b t → (w : List ℕ) (a : Atom) → (holds_at b t w a ≡ true) ↔ Entails b t w a
  holds_at-entails {t} h w a = (holds_at-sound t w a, holds_at-complete h w a)

  -- a normal place holds exactly what it says
  pub holds-entails : {t : Place} → Normal b t → (w : List ℕ) (a : Atom) → (holds b t w a ≡ true) ↔ Entails b t w a
  unfolding holds is_bottom fits
  holds-entails {t} (inl e) w a = (λ z c kept x i h. let d : fits c bottom x ≡ true = rw e at h in absurd (false≢true d), λ f. rw e)
  holds-entails {t} (inr h) w a = rw (canonical-alive h) (holds_at-entails h w a)

-- what the normal form of a description holds is what the description says
pub nf-holds-entails : {b : Background} → LawfulBackground b → (d : Place) (w : List ℕ) (a : Atom)
    → (holds b (nf b d) w a ≡ true) ↔ Entails b d w a
nf-holds-entails {b} law d w a =
    let e = holds-entails law (nf-normal law d) w a in
    (λ z c kept x i h. e.0 z c kept x i (nf-sound c kept d x i ∙ h), λ f. e.1 (λ c kept x i h. f c kept x i (sym (nf-sound c kept d x i) ∙ h)))
