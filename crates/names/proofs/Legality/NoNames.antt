-- Descriptions without names, among descriptions with names: what is legal for the ones and for the others.
-- Assumes nothing.
use Prim.Native.Nat.{ℕ}
use lib.Dec.{leb, ltb}
use mathlib.Core.Bool.{◌&&◌, false, true}
use mathlib.Core.List.{List}
use mathlib.Core.Path.{◌≡◌}
use Rattle.base.proofs.Tests.{and_left, and_right, bool_cases, tests}
use Rattle.blocks.specs.Entries.{form_ok, is_named, name_given, nth}
use Rattle.blocks.specs.Promise.{Legal}
use Rattle.blocks.specs.declared.Entry.{Entry}
use Rattle.blocks.specs.declared.Schema.TheVariants.{Description}
use Rattle.names.proofs.Entries.UnfoldPlain.{unfold-plain}
use Rattle.names.proofs.Legality.UnfoldLegal.{legal-plain}
use Rattle.names.specs.NamedForm.{named_form_ok}
use Rattle.names.specs.Promise.{LegalNamed, Plain}
use Rattle.names.specs.Unfold.{contents, unfolded_by}

-- no name may be given: there is none
none-given : (e : Entry) → name_given 0 e ≡ true → is_named e ≡ false
unfolding name_given
none-given e h =
    bool_cases (is_named e)
    (λ q.
    let g : (ltb 0 e.name && leb e.name 0) ≡ true = rw q at h in
    let a : ltb 0 e.name ≡ true = and_left (ltb 0 e.name) (leb e.name 0) g in
    let b : leb e.name 0 ≡ true = and_right (ltb 0 e.name) (leb e.name 0) g in
    absurd (omega tests))
    (λ q. q)

pub form-same : (e : Entry) → is_named e ≡ false → named_form_ok e ≡ form_ok Description e
unfolding named_form_ok
form-same e q = rw q

pub given-plain : (most : ℕ) (e : Entry) → is_named e ≡ false → name_given most e ≡ true
unfolding name_given
given-plain most e q = rw q

-- with an empty dictionary, what is legal is a legal description
pub unnamed-plain : (es : List Entry) → LegalNamed 0 es → Plain es
unnamed-plain es N n lo hi = none-given (nth es n) (N.name n lo hi)

pub unnamed-legal : (es : List Entry) → LegalNamed 0 es → Legal Description es
unnamed-legal es N = record {
  form = λ n lo hi. let f : named_form_ok (nth es n) ≡ true = N.form n lo hi in rw (form-same (nth es n) (unnamed-plain es N n lo hi)) at f;
  owner = N.owner;
  depth = N.depth;
}

-- and a legal description is legal with any dictionary
pub legal-unnamed : (most : ℕ) (es : List Entry) → Legal Description es → LegalNamed most es
legal-unnamed most es L = record {
  form = λ n lo hi. rw (form-same (nth es n) (legal-plain es L n lo hi)) (L.form n lo hi);
  name = λ n lo hi. given-plain most (nth es n) (legal-plain es L n lo hi);
  owner = L.owner;
  depth = L.depth;
}

-- which changes nothing in it
pub legal-unfolds : (K : List (List Entry)) (es : List Entry) → Legal Description es → unfolded_by K es ≡ es
unfolding unfolded_by
legal-unfolds K es L = unfold-plain (contents K) es (legal-plain es L)
