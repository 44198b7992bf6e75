-- No entry completes a pair exactly where no item of the record has both of one; so a specimen that is accepted by itself is accepted
-- under a list exactly where its record keeps the list.
-- Assumes nothing.
use Prim.Native.Nat.{◌-◌, ◌<◌, ◌≤◌, suc, zero, ℕ}
use lib.Dec.{eqb}
use lib.ListN.{length}
use mathlib.Core.Bool.{◌&&◌, true}
use mathlib.Core.List.{List, [], ◌∷◌}
use mathlib.Core.Logic.{◌↔◌}
use mathlib.Core.Path.{◌∙◌, ◌≡◌, ap, refl, sym}
use native.Mathlib.Omega.{arith}
use Rattle.base.proofs.Missing.{and-never, not-true}
use Rattle.base.proofs.SearchLaws.{first-none, none_first}
use Rattle.base.proofs.Tests.{and_both, and_left, and_right, both_ways, eq-cases, eq-eqb, eqb-eq, eqb-self, false_of_not, lt-cases, not-to-true, or_cases, or_left, or_right}
use Rattle.blocks.proofs.RoundTrip.Accepting.{encoded-accepted, sound-of-accepted}
use Rattle.blocks.proofs.RoundTrip.Decoding.{decode-encode}
use Rattle.blocks.specs.Encoding.{encode}
use Rattle.blocks.specs.Entries.{entries_of, nth}
use Rattle.blocks.specs.Owners.{owner_of}
use Rattle.blocks.specs.Promise.{Legal}
use Rattle.blocks.specs.Reading.{reading_of}
use Rattle.blocks.specs.declared.Entry.{Entry}
use Rattle.std.specs.Prelude.{Ok}
use Rattle.blocks.specs.declared.Schema.TheVariants.{Specimen}
use Rattle.clashes.proofs.Among.{Among, among_one, one-among}
use Rattle.clashes.proofs.Refusals.{refused-accepted}
use Rattle.clashes.proofs.Ways.{lowest_clash, none-refused, specimen-cases}
use Rattle.clashes.specs.Clash.{completes, gives_property, partner_of, specimen_reading}
use Rattle.clashes.specs.Promise.{Apart, ExclusionsKept, apart_ok}
use Rattle.clashes.specs.code.Given.{gives_owner}
use Rattle.logic.specs.Background.{Keeps}
use Rattle.meaning.proofs.Specimens.Items.{group_at}
use Rattle.meaning.proofs.Specimens.SingleKeeps.{keeps-single, owner-found, single-keeps}
use Rattle.meaning.specs.Specimen.{owns, record_of}
use Rattle.pairs.proofs.Excluding.{excludes-others, excludes-turned}
use Rattle.pairs.proofs.PairsAccepted.{pairs-right}
use Rattle.pairs.proofs.Under.{keeps-exactly}
use Rattle.pairs.specs.Pairs.{excludes_in, pairs_reading, under}
use Rattle.pairs.specs.Promise.{RightList}

-- ---- the properties of an item are those given to its group

nth-later : (e : Entry) (es : List Entry) (k : ℕ) → 1 ≤ k → nth (e ∷ es) (suc k) ≡ nth es k
unfolding nth
nth-later e es zero lo = absurd (omega arith)
nth-later e es (suc k) lo = refl

owns-among : (g p : ℕ) (es : List Entry) → owns g p es ≡ true → Among (gives_owner g p) es (length es)
unfolding owns nth
owns-among g p [] t = both_ways t refl
owns-among g p (e ∷ es) t =
    or_cases (gives_owner g p e) (owns g p es) t
    (λ h. record { at = 1; from = omega arith; to = omega arith; passes = h })
    (λ h.
    let a = owns-among g p es h in
    record {
      at = suc a.at;
      from = omega arith;
      to = omega (arith, a.to);
      passes = ap (gives_owner g p) (nth-later e es a.at a.from) ∙ a.passes;
    })

owns-at : (g p : ℕ) (es : List Entry) (k : ℕ) → 1 ≤ k → k ≤ length es → gives_owner g p (nth es k) ≡ true → owns g p es ≡ true
unfolding owns nth
owns-at g p es zero lo hi t = absurd (omega arith)
owns-at g p [] (suc k) lo hi t = absurd (omega arith)
owns-at g p (e ∷ es) (suc zero) lo hi t = or_left (owns g p es) t
owns-at g p (e ∷ es) (suc (suc k)) lo hi t = or_right (gives_owner g p e) (owns-at g p es (suc k) (omega arith) (omega arith) t)

-- what an entry that gives owner g the property p is
gives-parts : (g p : ℕ) (e : Entry) → gives_owner g p e ≡ true → (gives_property e ≡ true) × ((g ≡ e.owner) × (p ≡ e.name))
gives-parts g p e t =
    let r = and_right (gives_property e) (eqb g e.owner && eqb p e.name) t in (
      and_left (gives_property e) (eqb g e.owner && eqb p e.name) t,
      (eqb-eq (and_left (eqb g e.owner) (eqb p e.name) r), eqb-eq (and_right (eqb g e.owner) (eqb p e.name) r)),
    )

gives-own : (e : Entry) → gives_property e ≡ true → gives_owner e.owner e.name e ≡ true
gives-own e t = and_both t (and_both (eqb-self e.owner) (eqb-self e.name))

module _ (P : List ℕ) (es : List Entry) where
  -- ---- of two entries that give one owner a pair, the later completes it

  later-completes : (g p q j k : ℕ) → 1 ≤ j → j < k → gives_owner g p (nth es j) ≡ true → gives_owner g q (nth es k) ≡ true → excludes_in P p q ≡ true
      → completes P es k ≡ true
  unfolding completes owner_of
  later-completes g p q j k lo less a b x =
      let u = gives-parts g p (nth es j) a in
      let v = gives-parts g q (nth es k) b in
      let own : (nth es k).owner ≡ (nth es j).owner = sym v.1.0 ∙ u.1.0 in
      let pair : excludes_in P (nth es j).name (nth es k).name ≡ true =
      ap (λ (y : ℕ). excludes_in P y (nth es k).name) (sym u.1.1) ∙ ap (excludes_in P p) (sym v.1.1) ∙ x in
      and_both v.0
      (among_one (partner_of P (nth es k).owner (nth es k).name) es (k - 1)
      (record { at = j; from = lo; to = omega arith; passes = and_both u.0 (and_both (eq-eqb own) pair) }))

  pub two-given : {n : ℕ} → RightList P n → Apart P es → (g p q : ℕ) → excludes_in P p q ≡ true → owns g p es ≡ true → owns g q es ≡ true → ⊥
  two-given R A g p q x a b =
      let i = owns-among g p es a in
      let j = owns-among g q es b in
      lt-cases i.at j.at
      (λ h. both_ways (later-completes g p q i.at j.at i.from h i.passes j.passes x) (false_of_not _ (A.each j.at j.from j.to)))
      (λ h. eq-cases i.at j.at
      (λ z.
      let u = gives-parts g p (nth es i.at) i.passes in
      let v = gives-parts g q (nth es j.at) j.passes in
      let one : p ≡ q = u.1.1 ∙ ap (λ (k : ℕ). (nth es k).name) z ∙ sym v.1.1 in
      both_ways (ap (excludes_in P p) one ∙ x) (excludes-others P R p))
      (λ z. both_ways (later-completes g q p j.at i.at j.from (omega arith) j.passes i.passes (excludes-turned P q p ∙ x))
      (false_of_not _ (A.each i.at i.from i.to))))

  apart-kept : {n : ℕ} → RightList P n → Apart P es → ExclusionsKept P (record_of es)
  unfolding record_of
  apart-kept R A p q x e h = and-never (two-given R A (group_at es x) p q e)

  -- ---- an entry that completes a pair gives an item both

  kept-apart : Legal Specimen es → ExclusionsKept P (record_of es) → Apart P es
  unfolding record_of completes owner_of
  kept-apart L K = record {
    each = λ n lo hi. not-to-true (not-true (λ t.
        let o = owner_of es n in
        let p = (nth es n).name in
        let kind = and_left (gives_property (nth es n)) _ t in
        let a = one-among (partner_of P o p) es (n - 1) (and_right (gives_property (nth es n)) _ t) in
        let e = nth es a.at in
        let both = and_right (gives_property e) (eqb o e.owner && excludes_in P e.name p) a.passes in
        let own : o ≡ e.owner = eqb-eq (and_left (eqb o e.owner) _ both) in
        let first : owns o e.name es ≡ true =
        owns-at o e.name es a.at a.from (omega (arith, a.to))
        (and_both (and_left (gives_property e) _ a.passes) (and_both (eq-eqb own) (eqb-self e.name))) in
        let second : owns o p es ≡ true = owns-at o p es n lo hi (gives-own (nth es n) kind) in
        let f = owner-found L n lo hi in
        let here = f.right in
        let none = K e.name p f.item (and_right (eqb o e.owner) (excludes_in P e.name p) both) f.inside in
        both_ways (and_both first second) (rw here at none)));
  }

  -- [R12] an item with both properties of a pair: no entry completes one exactly where no item has both
  pub apart-exactly : {m : ℕ} → pairs_reading P ≡ Ok m → Legal Specimen es → Apart P es ↔ ExclusionsKept P (record_of es)
  apart-exactly e L = (apart-kept (pairs-right P e), kept-apart L)

-- ---- a specimen that is accepted by itself

module _ (P s : List ℕ) where
  clash-apart : lowest_clash P s ≡ 0 → Apart P (entries_of s)
  clash-apart z = record { each = λ n lo hi. first-none (apart_ok P (entries_of s)) 1 (length (entries_of s)) (omega arith) z n lo (omega arith) }

  apart-clash : Apart P (entries_of s) → lowest_clash P s ≡ 0
  apart-clash A = none_first (apart_ok P (entries_of s)) 1 (length (entries_of s)) (λ j lo hi. A.each j lo (omega arith))

  -- what an accepted specimen is: the list and the specimen are accepted by themselves, and no entry completes a pair
  module _ {n : ℕ} (e : specimen_reading P s ≡ Ok n) where
    accepted-ways : {X : Type 0} → ((m : ℕ) → pairs_reading P ≡ Ok m → reading_of Specimen 1 s ≡ Ok n → lowest_clash P s ≡ 0 → X) → X
    accepted-ways way =
        specimen-cases P s
        (λ k i p f g. refused-accepted g e)
        (λ m k i p f h g. refused-accepted g e)
        (λ m k f h z g. refused-accepted g e)
        (λ m k f h z g. way m f (h ∙ sym g ∙ e) z)

    pub list-accepted : (m : ℕ) × (pairs_reading P ≡ Ok m)
    list-accepted = accepted-ways (λ m f h z. (m, f))

    pub reading-accepted : reading_of Specimen 1 s ≡ Ok n
    reading-accepted = accepted-ways (λ m f h z. h)

    pub accepted-apart : Apart P (entries_of s)
    accepted-apart = accepted-ways (λ m f h z. clash-apart z)

  -- accepted under the list, its record keeps the list
  pub read_keeps : {n : ℕ} → specimen_reading P s ≡ Ok n → Keeps (under P) (record_of (entries_of s))
  read_keeps e = record {
    caps = (single-keeps (entries_of s) (sound-of-accepted Specimen 1 s (reading-accepted e)).further).caps;
    exclusions = apart-kept P (entries_of s) (pairs-right P (list-accepted e).1) (accepted-apart e);
  }

  -- and the other way round
  pub keeps-read : {m n : ℕ} → pairs_reading P ≡ Ok m → reading_of Specimen 1 s ≡ Ok n → Keeps (under P) (record_of (entries_of s))
      → specimen_reading P s ≡ Ok n
  keeps-read e f K =
      none-refused P s e f (apart-clash (kept-apart P (entries_of s) (sound-of-accepted Specimen 1 s f).entries K.exclusions))

  -- [S13] the record keeps the list exactly where 12 does not refuse
  pub twelve-exactly : {m n : ℕ} → pairs_reading P ≡ Ok m → reading_of Specimen 1 s ≡ Ok n
      → (specimen_reading P s ≡ Ok n) ↔ Keeps (under P) (record_of (entries_of s))
  twelve-exactly e f = (read_keeps, keeps-read e f)

-- every legal list of entries whose record keeps the list of pairs is accepted once encoded
pub keeps-encoded : (P : List ℕ) (es : List Entry) {m : ℕ} → pairs_reading P ≡ Ok m → Legal Specimen es → length es ≤ 2016
    → Keeps (under P) (record_of es) → specimen_reading P (encode es) ≡ Ok (length es)
keeps-encoded P es e L few K =
    let back = decode-encode es in
    let single = keeps-single L ((keeps-exactly P (record_of es)).0 K).0 in
    keeps-read P (encode es) e (encoded-accepted Specimen 1 es L single (omega arith)) (rw back K)
