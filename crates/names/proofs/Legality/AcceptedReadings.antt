-- A dictionary that is accepted is legal, and so is a description that is accepted under it: what it stands for is accepted, wherever it is
-- read.
-- Assumes nothing.
use Prim.Native.Nat.{◌%◌, ◌+◌, ℕ}
use lib.Dec.{eqb, ltb}
use lib.ListN.{length}
use mathlib.Core.List.{List, [], ◌++◌, ◌∷◌, append_assoc, append-nil, map}
use mathlib.Core.Path.{◌∙◌, ◌≡◌, ap, sym}
use native.Mathlib.Omega.{arith}
use Rattle.base.proofs.Tests.{bool_cases, eq-cases, eq-eqb, ne_eqb}
use Rattle.blocks.proofs.Refusing.Readings.{accepted-finding, reading-cases}
use Rattle.blocks.proofs.RoundTrip.Accepting.{accepted-by-none, encoded-accepted, none-of-accepted}
use Rattle.blocks.proofs.RoundTrip.Decoding.{decode-encode}
use Rattle.blocks.specs.Entries.{entries_of, entry_of}
use Rattle.blocks.specs.Faults.{first}
use Rattle.blocks.specs.Frame.{plain, total_in}
use Rattle.blocks.specs.Reading.{reading_of}
use Rattle.blocks.specs.declared.Entry.{Entry}
use Rattle.std.specs.Prelude.{Ok}
use Rattle.blocks.specs.Refusals.{refused}
use Rattle.blocks.specs.declared.Schema.TheVariants.{Description, Named}
use Rattle.blocks.specs.declared.Schema.{Schema}
use Rattle.lists.proofs.PartLaws.{parts-of-nil}
use Rattle.lists.specs.Parts.{parts_of}
use Rattle.names.proofs.Dictionary.InTurn.{each_more, in-turn-more}
use Rattle.names.proofs.Legality.NamedReadings.{accepted-legal, named-refused, small_of, taken-not-large}
use Rattle.names.proofs.Legality.Nameless.{named_none, nameless-taken, plain-itself}
use Rattle.names.proofs.Legality.UnfoldLegal.{unfold-legal}
use Rattle.names.specs.NamedReading.{dictionary_of, dictionary_reading, named_faults, named_reading, named_unfolding, cause_at, parts_reading, plain_of, sent_of, unfolding_of}
use Rattle.names.specs.Promise.{AcceptedNamed, LegalDictionary, LegalNamed, SmallEnough}
use Rattle.names.specs.Unfold.{contents, in_turn, unfolded, unfolded_by}
use Rattle.blocks.specs.declared.Cause.TheVariants.{Count, Length}

-- ---- a description

module _ (K : List (List Entry)) (i : ℕ) (s : List ℕ) {n : ℕ} (e : named_reading K i s ≡ Ok n) where
  -- no number up to 13 refuses it
  pub taken-read : {X : Type 0} → ((m : ℕ) → reading_of (Named (length K)) i s ≡ Ok m → X) → X
  taken-read f =
      reading-cases (reading_of (Named (length K)) i s)
      (λ k j p r. let q = named-refused K i s r in let z : ◌≡◌ {A = ℕ} 0 1 = cc in absurd (omega arith))
      f

  pub taken-legal : LegalNamed (length K) (entries_of s)
  taken-legal = taken-read (λ m r. accepted-legal (length K) i s r)

  pub taken-small : SmallEnough (unfolded_by K (entries_of s))
  taken-small = small_of (unfolded_by K (entries_of s)) (taken-not-large K i s e)

-- ---- a dictionary

none-legal : LegalDictionary []
unfolding contents in_turn
none-legal = record { each = tt; small = λ n. record { size = omega arith; depth = λ k lo hi. absurd (omega arith) } }

-- one description more
legal-more : (K : List (List Entry)) (es : List Entry) → LegalDictionary K → LegalNamed (length K) es → SmallEnough (unfolded_by K es)
    → LegalDictionary (K ++ (es ∷ []))
unfolding contents unfolded_by
legal-more K es L N S = record {
  each = each_more LegalNamed 0 K es L.each (let z : 0 + length K ≡ length K = omega arith in rw z N);
  small = λ n. rw (in-turn-more unfolded (λ k. []) 1 K es) (bool_cases (eqb n (1 + length K)) (λ q. rw q S) (λ q. rw q (L.small n)));
}

parts-legal : (K : List (List Entry)) (ss : List (List ℕ)) {n : ℕ} → LegalDictionary K → parts_reading K ss ≡ Ok n → LegalDictionary (K ++ map entries_of ss)
unfolding parts_reading
parts-legal K [] L e = rw (append-nil K) L
parts-legal K (s ∷ ss) {n} L e =
    reading-cases (named_reading K (101 + length K) s)
    (λ k j p r. let f : refused k j p ≡ Ok n = rw r at e in let z : ◌≡◌ {A = ℕ} 0 1 = cc in absurd (omega arith))
    (λ m r.
    let more = legal-more K (entries_of s) L (taken-legal K (101 + length K) s r) (taken-small K (101 + length K) s r) in
    rw (append_assoc K (entries_of s ∷ []) (map entries_of ss)) at (parts-legal (K ++ (entries_of s ∷ [])) ss more (rw r at e)))

module _ (D : List ℕ) where
  pub dictionary-legal : {n : ℕ} → dictionary_reading D ≡ Ok n → LegalDictionary (dictionary_of D)
  unfolding dictionary_reading
  dictionary-legal {n} e =
      bool_cases (eqb (length D % 512) 0)
      (λ q. bool_cases (ltb 64 (length (parts_of D)))
      (λ w. let f : refused Count 100 0 ≡ Ok n = rw (q, w) at e in let z : ◌≡◌ {A = ℕ} 0 1 = cc in absurd (omega arith))
      (λ w. parts-legal [] (parts_of D) none-legal (rw (q, w) at e)))
      (λ q. let f : refused Length 100 0 ≡ Ok n = rw q at e in let z : ◌≡◌ {A = ℕ} 0 1 = cc in absurd (omega arith))

-- ---- what a call goes on with

-- accepted as one input, accepted as any
pub any-input : (σ : Schema) (i j : ℕ) (s : List ℕ) {n : ℕ} → reading_of σ i s ≡ Ok n → reading_of σ j s ≡ Ok n
any-input σ i j s e = let a = none-of-accepted σ i s e in accepted-by-none σ j s a.0 ∙ ap Ok (sym a.1)

module _ (D : List ℕ) (i : ℕ) (s : List ℕ) {n : ℕ} (e : unfolding_of D i s ≡ Ok n) where
  -- the dictionary and the description are accepted
  pub both-taken : {X : Type 0} → ((m k : ℕ) → dictionary_reading D ≡ Ok m → named_reading (dictionary_of D) i s ≡ Ok k → X) → X
  unfolding unfolding_of named_unfolding
  both-taken f =
      reading-cases (dictionary_reading D)
      (λ k j p q. let z : refused k j p ≡ Ok n = rw q at e in let y : ◌≡◌ {A = ℕ} 0 1 = cc in absurd (omega arith))
      (λ m q. reading-cases (named_reading (dictionary_of D) i s)
      (λ k j p w. let z : refused k j p ≡ Ok n = rw (q, w) at e in let y : ◌≡◌ {A = ℕ} 0 1 = cc in absurd (omega arith))
      (λ k w. f m k q w))

  pub sent-legal : AcceptedNamed (dictionary_of D) (entries_of s)
  sent-legal = both-taken (λ m k q w. record { dictionary = dictionary-legal D q; legal = taken-legal (dictionary_of D) i s w; small = taken-small (dictionary_of D) i s w })

  -- with so many entries
  pub sent-count : n ≡ length (unfolded_by (dictionary_of D) (entries_of s))
  unfolding unfolding_of named_unfolding
  sent-count = both-taken (λ m k q w. let z : Ok (length (unfolded_by (dictionary_of D) (entries_of s))) ≡ Ok n = rw (q, w) at e in let y : n ≡ length (unfolded_by (dictionary_of D) (entries_of s)) = cc in y)

-- so that it is accepted as any input
named-any : (K : List (List Entry)) (i j : ℕ) (s : List ℕ) {n : ℕ} → named_reading K i s ≡ Ok n → named_reading K j s ≡ Ok n
unfolding named_reading
named-any K i j s e =
    let f = accepted-finding i (total_in plain s) (first (named_faults K s)) e in
    rw f.1 (ap Ok (sym f.0))

pub sent-any : (D : List ℕ) (i j : ℕ) (s : List ℕ) {n : ℕ} → unfolding_of D i s ≡ Ok n → unfolding_of D j s ≡ Ok n
unfolding unfolding_of named_unfolding
sent-any D i j s e =
    both-taken D i s e (λ m k q w.
    let w' = named-any (dictionary_of D) i j s w in
    rw (q, w') (ap Ok (sym (sent-count D i s e))))

-- a dictionary of length 0 has no descriptions
pub no_names : (D : List ℕ) → length D ≡ 0 → dictionary_of D ≡ []
no_names [] z = ap (map entries_of) parts-of-nil
no_names (x ∷ D) z = absurd (omega arith)

-- where no name can be given, reading as a description with names is all there is to read
module _ (i : ℕ) (s : List ℕ) where
  pub nameless-goes : reading_of (Named 0) i s ≡ named_unfolding [] i s
  unfolding named_unfolding
  nameless-goes =
      reading-cases (reading_of (Named 0) i s)
      (λ k j p r. r ∙ rw (named-refused [] i s r))
      (λ n r.
      let t = nameless-taken i s r in
      let c : n ≡ length (unfolded_by [] (entries_of s)) = (none-of-accepted (Named 0) i s r).1 ∙ ap length (sym (plain-itself i s r)) in
      r ∙ rw t (ap Ok c))

  -- so that it is all of a call's reading
  pub nameless-sent : (D : List ℕ) → length D ≡ 0 → reading_of (Named 0) i s ≡ unfolding_of D i s
  unfolding unfolding_of dictionary_reading parts_reading
  nameless-sent [] z = nameless-goes ∙ rw parts-of-nil
  nameless-sent (x ∷ D) z = absurd (omega arith)

  nameless-plain : {n : ℕ} → reading_of (Named 0) i s ≡ Ok n → (j : ℕ) → reading_of Description j s ≡ Ok n
  nameless-plain {n} r j =
      let t = nameless-taken i s r in
      let q = sym t ∙ named_none i s in
      reading-cases (reading_of Description i s)
      (λ k l p f. let z : Ok n ≡ refused (cause_at (entry_of s p p) k) l p = q ∙ rw f in let y : ◌≡◌ {A = ℕ} 0 1 = cc in absurd (omega arith))
      (λ m f. let z : Ok n ≡ Ok m = q ∙ rw f in any-input Description i j s (f ∙ sym z))

module _ (D : List ℕ) (i : ℕ) (s : List ℕ) {n : ℕ} (e : unfolding_of D i s ≡ Ok n) where
  -- what it stands for is accepted, as any input, with so many entries, which are those it stands for
  pub sent-accepted : (j : ℕ) → (reading_of Description j (sent_of D s) ≡ Ok n) × (entries_of (sent_of D s) ≡ unfolded_by (dictionary_of D) (entries_of s))
  unfolding sent_of plain_of
  sent-accepted j =
      let es = unfolded_by (dictionary_of D) (entries_of s) in
      let A = sent-legal D i s e in
      eq-cases (length D) 0
      (λ z.
      let none = no_names D z in
      both-taken D i s e (λ m k q w.
      taken-read (dictionary_of D) i s w (λ l r.
      let r₀ : reading_of (Named 0) i s ≡ Ok l = rw none at r in
      let same : es ≡ entries_of s = rw none (plain-itself i s r₀) in
      let count : l ≡ n = (none-of-accepted (Named 0) i s r₀).1 ∙ sym (ap length same) ∙ sym (sent-count D i s e) in
      rw (eq-eqb z) (nameless-plain i s r₀ j ∙ ap Ok count, sym same))))
      (λ z.
      rw (ne_eqb z)
      (encoded-accepted Description j es (unfold-legal (dictionary_of D) (entries_of s) A) tt (omega (arith, A.small.size)) ∙ ap Ok (sym (sent-count D i s e)), decode-encode es))
