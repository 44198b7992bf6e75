-- A description that no item fits: two are contained in it together exactly where no item fits both; and its block.
-- Assumes nothing.
use Prim.Native.Nat.{◌*◌, ◌<◌, ◌≤◌, suc, zero, ℕ}
use lib.ListN.{drop, length}
use mathlib.Core.Bool.{false, false≢true, true}
use mathlib.Core.List.{List, [], ◌++◌, ◌∷◌, map}
use mathlib.Core.Logic.{◌↔◌}
use mathlib.Core.Path.{◌∙◌, ◌≡◌, ap, refl, sym}
use native.Mathlib.Omega.{arith}
use Rattle.base.proofs.Tests.{eq-eqb, eqb-eq}
use Rattle.blocks.proofs.Refusing.Bounds.{AllBounded}
use Rattle.blocks.proofs.RoundTrip.Accepting.{encoded-accepted, written-encodes}
use Rattle.blocks.proofs.RoundTrip.Decoding.{decode-encode}
use Rattle.blocks.specs.Encoding.{blocks_for, encode, written}
use Rattle.blocks.specs.Entries.{entries_of, form_ok, name_ok, nth, number_ok, packed, zero_entry}
use Rattle.blocks.specs.Frame.{plain}
use Rattle.blocks.specs.Owners.{chain, depth_of, depth_ok, owner_of, owner_ok}
use Rattle.blocks.specs.Promise.{Legal}
use Rattle.blocks.specs.Reading.{reading_of}
use Rattle.blocks.specs.declared.Entry.{Entry}
use Rattle.blocks.specs.declared.Schema.TheVariants.{Description}
use Rattle.logic.specs.Background.{Background, Keeps, LawfulBackground}
use Rattle.logic.specs.Place.{kind_of}
use Rattle.logic.specs.Record.{Record, fits}
use Rattle.logic.specs.Tree.{tree}
use Rattle.meaning.proofs.Verdicts.Contained.{contained-all}
use Rattle.meaning.specs.Description.{place_of, row_of}
use Rattle.meaning.specs.Failing.{failing}
use Rattle.earning.specs.Leaving.{together}
use Rattle.missing.specs.Answer.{against, impossible}
use Rattle.narrow.proofs.Missing.BothEntries.{joined-exactly}
use Rattle.narrow.specs.Missing.{both}
use Rattle.std.specs.Prelude.{Ok, is_ok}

-- ---- what it means

-- no item fits it
fits-none : (r : Record) (x : ℕ) → fits r (place_of impossible 0) x ≡ false
unfolding place_of row_of tree kind_of fits
fits-none r x = refl

legal-impossible : Legal Description impossible
unfolding form_ok name_ok number_ok owner_ok depth_ok depth_of chain owner_of nth
legal-impossible = record {
  form = λ n lo hi. let e : n ≡ 1 = omega arith in rw e refl;
  owner = λ n lo hi. let e : n ≡ 1 = omega arith in rw e refl;
  depth = λ n lo hi. let e : n ≡ 1 = omega arith in rw e refl;
}

-- two are contained in it together exactly where no item fits both
pub none-together : {b : Background} → LawfulBackground b → (c d : List Entry) → Legal Description c → Legal Description d
    → (failing b (both c d) impossible ≡ 0)
    ↔ ((r : Record) → Keeps b r → (x : ℕ) → x < r.size → fits r (place_of c 0) x ≡ true → fits r (place_of d 0) x ≡ true → ⊥)
none-together law c d C D =
    let x = contained-all law (both c d) impossible legal-impossible in (
      λ e r kept y i h g. false≢true (sym (fits-none r y) ∙ x.0 e r kept y i ((joined-exactly c d C D r y).1 (h, g))),
      λ f. x.1 (λ r kept y i h. let j = (joined-exactly c d C D r y).0 h in absurd (f r kept y i j.0 j.1)),
    )

-- ---- its block

bounded-impossible : AllBounded impossible
bounded-impossible =
    record {
      each = λ k h. let z : k ≡ 0 = omega arith in
          rw z (record { kind = omega arith; reserved = omega arith; owner = omega arith; name = omega arith; number = omega arith });
    }

drop-none : (n : ℕ) → ◌≡◌ {A = List ℕ} (drop n []) []
drop-none zero = refl
drop-none (suc n) = refl

none-left : (out : List ℕ) (n : ℕ) → length out ≤ n → drop n out ≡ []
none-left [] n h = drop-none n
none-left (x ∷ out) zero h = absurd (omega arith)
none-left (x ∷ out) (suc n) h = none-left out n (omega arith)

append-none : (xs : List ℕ) → xs ++ [] ≡ xs
append-none [] = refl
append-none (x ∷ xs) = ap (λ (l : List ℕ). x ∷ l) (append-none xs)

pub impossible-written : (out : List ℕ) {t : List ℕ} {x : ℕ} → length out ≡ 512 → x ≡ 6 → t ≡ written out (x ∷ []) 1 → t ≡ encode impossible
unfolding packed blocks_for
impossible-written out long h e =
    e
    ∙ ap (λ (y : ℕ). written out (y ∷ []) 1) h
    ∙ written-encodes out impossible bounded-impossible (omega arith) (omega arith)
    ∙ ap (λ (l : List ℕ). encode impossible ++ l) (none-left out 512 (omega arith))
    ∙ append-none (encode impossible)

-- being contained in it is that no item fits both
pub together-impossible : (P c d : List ℕ) {t : List ℕ} → t ≡ encode impossible → together P c d t ≡ against P c d
together-impossible P c d e = rw (e, decode-encode impossible) refl

pub impossible-read : {t : List ℕ} → t ≡ encode impossible → is_ok (reading_of Description 2 t) ≡ true
impossible-read e = rw (e, encoded-accepted Description 2 impossible legal-impossible tt (omega arith)) refl

pub impossible-counted : {t : List ℕ} → t ≡ encode impossible → 1 ≡ length (entries_of t)
impossible-counted e = rw (e, decode-encode impossible) refl
