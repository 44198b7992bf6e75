-- What reading a description under a dictionary answers, by its parts: what no rule up to 13 refuses is legal, and then 14 decides. And what
-- reading a dictionary answers.
-- Assumes nothing.
use Prim.Native.Nat.{◌%◌, ◌+◌, ◌<◌, ◌≤◌, ℕ}
use lib.Dec.{eqb, ltb}
use lib.ListN.{length, length-append}
use mathlib.Core.Bool.{false, not, true}
use mathlib.Core.List.{List, [], ◌++◌, ◌∷◌}
use mathlib.Core.Logic.{◌≢◌}
use mathlib.Core.Path.{◌∙◌, ◌≡◌, refl, sym}
use native.Mathlib.Omega.{arith}
use Rattle.base.proofs.RangeLaws.{all-at, all_of}
use Rattle.base.proofs.Tests.{bool_cases, eq-eqb, ge-ltb, lt-ltb, ltb-ge, ne_eqb, neither_left, neither_right, not-to-false, or-none, or-one, tests, true_of_not}
use Rattle.base.specs.Range.{all}
use Rattle.blocks.proofs.Refusing.FirstFault.{first-append}
use Rattle.blocks.proofs.Refusing.Readings.{accepted-finding, reading-cases, refused-finding}
use Rattle.blocks.proofs.RoundTrip.Accepting.{sound-of-accepted}
use Rattle.blocks.specs.Entries.{entries_of, form_ok, is_named, name_ok, nth, number_ok}
use Rattle.blocks.specs.Faults.{Fault, fault, faults, first}
use Rattle.blocks.specs.Frame.{plain, total_in}
use Rattle.blocks.specs.Owners.{depth_ok, owner_ok}
use Rattle.blocks.specs.Reading.{answer, reading_of}
use Rattle.blocks.specs.declared.Entry.{Entry}
use Rattle.std.specs.Prelude.{Ok}
use Rattle.blocks.specs.Refusals.{refused}
use Rattle.blocks.specs.declared.Cause.TheVariants.{Size, Count, Length}
use Rattle.blocks.specs.declared.Schema.TheVariants.{Named}
use Rattle.lists.specs.Parts.{parts_of}
use Rattle.names.proofs.Legality.UnfoldLegal.{named-within}
use Rattle.names.specs.Measures.{levels_named, size_named}
use Rattle.names.specs.NamedForm.{named_form_ok}
use Rattle.names.specs.NamedReading.{dictionary_reading, named_faults, named_reading, parts_reading, too_large}
use Rattle.names.specs.Promise.{Each, LegalNamed, SmallEnough, Within}
use Rattle.names.specs.Unfold.{unfolded_by}
use Rattle.blocks.specs.declared.Cause.{Cause}

-- ---- legal

-- the table of kinds, where names can be given
pub form-named : (most : ℕ) (e : Entry) → form_ok (Named most) e ≡ named_form_ok e
unfolding form_ok named_form_ok name_ok number_ok
form-named most e =
    bool_cases (is_named e)
    (λ q.
    let a : eqb e.kind 6 ≡ false = omega tests in
    let b : eqb e.kind 3 ≡ false = omega tests in
    let c : eqb e.kind 4 ≡ false = omega tests in
    let d : eqb e.kind 7 ≡ false = omega tests in
    rw (q, a, b, c, d, or-one (ltb 0 e.name)))
    (λ q. rw q)

-- what is accepted but for 14 is legal
pub accepted-legal : (most i : ℕ) (s : List ℕ) {n : ℕ} → reading_of (Named most) i s ≡ Ok n → LegalNamed most (entries_of s)
unfolding owner_ok
accepted-legal most i s e =
    let h = sound-of-accepted (Named most) i s e in
    record {
      form = λ n lo hi. sym (form-named most (nth (entries_of s) n)) ∙ h.entries.form n lo hi;
      name = h.further;
      owner = h.entries.owner;
      depth = h.entries.depth;
    }

-- ---- 14

-- 14 does not apply exactly where the entries are few and shallow enough
pub small_of : (es : List Entry) → too_large es ≡ false → SmallEnough es
unfolding too_large
small_of es h =
    let deep = not (all (depth_ok es) 1 (length es)) in
    record {
      size = ltb-ge (neither_left (ltb 1008 (length es)) deep h);
      depth = λ n lo hi. all-at (depth_ok es) 1 (length es) (true_of_not _ (neither_right (ltb 1008 (length es)) deep h)) n lo (omega arith);
    }

pub of-small : (es : List Entry) → SmallEnough es → too_large es ≡ false
unfolding too_large
of-small es S = or-none (ge-ltb S.size) (not-to-false (all_of (depth_ok es) 1 (length es) (λ k lo hi. S.depth k lo (omega arith))))

-- so it is told by what is worked out without unfolding
module _ (K : List (List Entry)) (each : Each LegalNamed K) (most : ℕ) (es : List Entry) (N : LegalNamed most es) where
  pub within-not-large : Within (size_named K es) (levels_named K es) → too_large (unfolded_by K es) ≡ false
  within-not-large W = of-small (unfolded_by K es) ((named-within K each most es N).0 W)

  pub beyond-large : (Within (size_named K es) (levels_named K es) → ⊥) → too_large (unfolded_by K es) ≡ true
  beyond-large h =
      bool_cases (too_large (unfolded_by K es))
      (λ q. q)
      (λ q. absurd (h ((named-within K each most es N).1 (small_of (unfolded_by K es) q))))

-- ---- reading

module _ (K : List (List Entry)) (i : ℕ) (s : List ℕ) where
  abbrev last : List Fault
  last = fault (too_large (unfolded_by K (entries_of s))) Size 0 ∷ []

  -- 14 is looked for last
  parts : named_reading K i s ≡ answer i (total_in plain s) (first (faults (Named (length K)) s ++ last))
  unfolding named_reading named_faults
  parts = refl

  -- what is refused without it is refused so
  pub named-refused : {k : Cause} {j p : ℕ} → reading_of (Named (length K)) i s ≡ refused k j p → named_reading K i s ≡ refused k j p
  unfolding reading_of
  named-refused e =
      let r = refused-finding i (total_in plain s) (first (faults (Named (length K)) s)) e in
      parts ∙ rw (first-append (faults (Named (length K)) s) last, r.1, r.0)

  module _ {n : ℕ} (e : reading_of (Named (length K)) i s ≡ Ok n) where
    -- else 14 refuses it
    pub named-large : too_large (unfolded_by K (entries_of s)) ≡ true → named_reading K i s ≡ refused Size i 0
    unfolding reading_of first
    named-large q =
        let r = accepted-finding i (total_in plain s) (first (faults (Named (length K)) s)) e in
        parts ∙ rw (first-append (faults (Named (length K)) s) last, r.1, q)

    -- or nothing does
    pub named-taken : too_large (unfolded_by K (entries_of s)) ≡ false → named_reading K i s ≡ Ok n
    unfolding reading_of first
    named-taken q =
        let r = accepted-finding i (total_in plain s) (first (faults (Named (length K)) s)) e in
        parts ∙ rw (first-append (faults (Named (length K)) s) last, r.1, q, r.0)

  -- what is accepted is neither refused without 14 nor by it
  pub taken-not-large : {n : ℕ} → named_reading K i s ≡ Ok n → too_large (unfolded_by K (entries_of s)) ≡ false
  taken-not-large e =
      reading-cases (reading_of (Named (length K)) i s)
      (λ k j p r. let f = named-refused r in let z : ◌≡◌ {A = ℕ} 0 1 = cc in absurd (omega arith))
      (λ m r.
      bool_cases (too_large (unfolded_by K (entries_of s)))
      (λ q. let f = named-large r q in let z : ◌≡◌ {A = ℕ} 0 1 = cc in absurd (omega arith))
      (λ q. q))

  -- so that it is within the limits
  pub taken-within : Each LegalNamed K → LegalNamed (length K) (entries_of s) → {n : ℕ} → named_reading K i s ≡ Ok n
      → Within (size_named K (entries_of s)) (levels_named K (entries_of s))
  taken-within each N e = (named-within K each (length K) (entries_of s) N).1 (small_of (unfolded_by K (entries_of s)) (taken-not-large e))

-- ---- a dictionary

-- the number that is accepted is that of the descriptions
pub parts-count : (K : List (List Entry)) (ss : List (List ℕ)) {n : ℕ} → parts_reading K ss ≡ Ok n → n ≡ length K + length ss
unfolding parts_reading
parts-count K [] {n} e = let a : length K ≡ n = cc in omega arith
parts-count K (s ∷ ss) {n} e =
    reading-cases (named_reading K (101 + length K) s)
    (λ k j p r.
    let f : refused k j p ≡ Ok n = rw r at e in
    let z : ◌≡◌ {A = ℕ} 0 1 = cc in
    absurd (omega arith))
    (λ m r. omega (arith, parts-count (K ++ (entries_of s ∷ [])) ss (rw r at e), length-append K (entries_of s ∷ [])))

-- 1, 8, and else its descriptions decide
module _ (D : List ℕ) where
  pub dictionary-broken : length D % 512 ≢ 0 → dictionary_reading D ≡ refused Length 100 0
  unfolding dictionary_reading
  dictionary-broken h = rw (dictionary_reading, ne_eqb h)

  pub dictionary-many : length D % 512 ≡ 0 → 64 < length (parts_of D) → dictionary_reading D ≡ refused Count 100 0
  unfolding dictionary_reading
  dictionary-many h l = rw (dictionary_reading, eq-eqb h, lt-ltb l)

  pub dictionary-parts : length D % 512 ≡ 0 → length (parts_of D) ≤ 64 → dictionary_reading D ≡ parts_reading [] (parts_of D)
  unfolding dictionary_reading
  dictionary-parts h l = rw (dictionary_reading, eq-eqb h, ge-ltb l)
