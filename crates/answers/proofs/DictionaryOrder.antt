-- A description under a dictionary, and a dictionary, are refused exactly by the first line that applies, and accepted exactly where none does.
-- Assumes nothing.
use Rattle.std.proofs.Common.{◌≡◌, ℕ, zero, suc, ◌+◌, ◌%◌, ◌<◌, ◌≤◌, ◌↔◌, List, [], ◌∷◌, ◌++◌, map, length, get_or, take, drop, Ok, refl, ap, ◌∙◌, arith, drop_of_length-le, length-take-le, drop-cons, take-suc}
use lib.ListN.{length-map}
use mathlib.Core.List.{map-append}
use Rattle.answers.proofs.AnswerLaws.{refused-answered, same-refused}
use Rattle.answers.specs.Refusals.{DictionaryRefused, DictionaryTaken, FirstRefused, part_faults}
use Rattle.answers.specs.Refusals.DictionaryRefused.{broken, many, part}
use Rattle.base.proofs.Tests.{eq-cases, lt-cases}
use Rattle.blocks.proofs.Format.EntryBytes.{length-entries}
use Rattle.blocks.proofs.Refusing.FirstFault.{clean-none, first_found, found_first, none-clean}
use Rattle.blocks.proofs.Refusing.Readings.{accepted-finding, reading-cases, refused-finding}
use Rattle.blocks.specs.Entries.{entries_of}
use Rattle.blocks.specs.Faults.{first}
use Rattle.blocks.specs.Frame.{plain, total_in}
use Rattle.blocks.specs.Promise.{FirstOf, NoneApplies}
use Rattle.blocks.specs.Refusals.{refused}
use Rattle.blocks.specs.declared.Cause.{Cause}
use Rattle.blocks.specs.declared.Cause.TheVariants.{Count, Length}
use Rattle.blocks.specs.declared.Entry.{Entry}
use Rattle.lists.specs.Parts.{parts_of}
use Rattle.names.proofs.Legality.NamedReadings.{dictionary-broken, dictionary-many, dictionary-parts}
use Rattle.names.specs.NamedReading.{dictionary_reading, named_faults, named_reading, parts_reading}

-- ---- a description

module _ (K : List (List Entry)) (i : ℕ) (s : List ℕ) where
  pub line_refused : {k : Cause} {p : ℕ} → FirstOf (named_faults K s) k p → named_reading K i s ≡ refused k i p
  unfolding named_reading
  line_refused {k} {p} f = rw (named_reading, first_found (named_faults K s) k p f)

  pub refused-line : {k : Cause} {j p : ℕ} → named_reading K i s ≡ refused k j p → (j ≡ i) × FirstOf (named_faults K s) k p
  unfolding named_reading
  refused-line {k} {j} {p} e =
      let r = refused-finding i (total_in plain s) (first (named_faults K s)) e in (r.0, found_first (named_faults K s) k p r.1)

  -- exactly by the first line that applies
  pub line-refused-exactly : {k : Cause} {j p : ℕ} → (named_reading K i s ≡ refused k j p) ↔ ((j ≡ i) × FirstOf (named_faults K s) k p)
  line-refused-exactly = (refused-line, λ h. let z = h.0 in line_refused h.1 ∙ rw z)

  pub none-accepted : NoneApplies (named_faults K s) → named_reading K i s ≡ Ok (length (entries_of s))
  unfolding named_reading
  none-accepted h = rw (named_reading, none-clean (named_faults K s) h, length-entries s)

  pub accepted-none : {n : ℕ} → named_reading K i s ≡ Ok n → NoneApplies (named_faults K s)
  unfolding named_reading
  accepted-none e = clean-none (named_faults K s) (accepted-finding i (total_in plain s) (first (named_faults K s)) e).1

-- ---- the descriptions of a dictionary

module _ (D : List ℕ) where
  abbrev parts : List (List ℕ)
  parts = parts_of D

  -- those that n descriptions stand before, as entries
  abbrev earlier : ℕ → List (List Entry)
  earlier n = map entries_of (take n parts)

  earlier-length : (n : ℕ) → n ≤ length parts → length (earlier n) ≡ n
  earlier-length n h = length-map (take n parts) entries_of ∙ length-take-le n parts h

  earlier_more : (n : ℕ) → n < length parts → earlier (suc n) ≡ earlier n ++ (entries_of (get_or parts n []) ∷ [])
  earlier_more n h = ap (map entries_of) (take-suc parts n [] h) ∙ map-append entries_of (take n parts) (get_or parts n [] ∷ [])

  -- reading comes to the description that n accepted ones stand before
  reach : (n : ℕ) → n ≤ length parts → ((m : ℕ) → m < n → NoneApplies (part_faults D m))
      → parts_reading [] parts ≡ parts_reading (earlier n) (drop n parts)
  unfolding parts_reading
  reach zero h all = refl
  reach (suc n) h all =
      let before = reach n (omega arith) (λ m l. all m (omega arith)) in
      let one = none-accepted (earlier n) (101 + length (earlier n)) (get_or parts n []) (all n (omega arith)) in
      before ∙ rw (drop-cons parts n [] (omega arith), parts_reading, one, earlier_more n (omega arith))

  parts-refused : {k : Cause} {i p : ℕ} → FirstRefused D k i p → parts_reading [] parts ≡ refused k i p
  unfolding parts_reading
  parts-refused {k} {i} {p} R =
      let n = R.before in
      let one = line_refused (earlier n) (101 + length (earlier n)) (get_or parts n []) R.first in
      let number : 101 + length (earlier n) ≡ i = omega (arith, earlier-length n (omega (arith, R.there)), R.input) in
      reach n (omega (arith, R.there)) R.accepted ∙ rw (drop-cons parts n [] R.there, parts_reading, one, number)

  parts-accepted : ((m : ℕ) → m < length parts → NoneApplies (part_faults D m)) → parts_reading [] parts ≡ Ok (length parts)
  unfolding parts_reading
  parts-accepted all =
      let none : drop (length parts) parts ≡ [] = drop_of_length-le parts {i = length parts} (omega arith) in
      reach (length parts) (omega arith) all ∙ rw (none, parts_reading, earlier-length (length parts) (omega arith))

  -- the first that is refused, or none is
  search : {X : Type 0} (left n : ℕ) → n + left ≡ length parts → ((m : ℕ) → m < n → NoneApplies (part_faults D m))
      → ((k : Cause) (i p : ℕ) → FirstRefused D k i p → X) → (((m : ℕ) → m < length parts → NoneApplies (part_faults D m)) → X) → X
  search zero n e all f g = g (λ m l. all m (omega arith))
  search (suc left) n e all f g =
      reading-cases (named_reading (earlier n) (101 + n) (get_or parts n []))
      (λ k i p r.
      let q = refused-line (earlier n) (101 + n) (get_or parts n []) r in
      f k i p (record { before = n; there = omega arith; input = q.0; accepted = all; first = q.1 }))
      (λ t r. search left (suc n) (omega arith) (λ m l. eq-cases m n
      (λ q. rw q (accepted-none (earlier n) (101 + n) (get_or parts n []) r))
      (λ q. all m (omega arith))) f g)

  pub dictionary-cases : {X : Type 0} → ((k : Cause) (i p : ℕ) → DictionaryRefused D k i p → X) → (DictionaryTaken D → X) → X
  dictionary-cases f g =
      eq-cases (length D % 512) 0
      (λ w. lt-cases 64 (length parts)
      (λ h. f Count 100 0 (many w h))
      (λ h. search (length parts) 0 (omega arith) (λ m l. absurd (omega arith))
      (λ k i p r. f k i p (part w h r))
      (λ all. g (record { whole = w; few = h; each = all }))))
      (λ w. f Length 100 0 (broken w))

  -- ---- the dictionary

  pub dictionary-refused : {k : Cause} {i p : ℕ} → DictionaryRefused D k i p → dictionary_reading D ≡ refused k i p
  dictionary-refused (broken h) = dictionary-broken D h
  dictionary-refused (many w h) = dictionary-many D w h
  dictionary-refused (part w h r) = dictionary-parts D w h ∙ parts-refused r

  pub dictionary-accepted : DictionaryTaken D → dictionary_reading D ≡ Ok (length (parts_of D))
  dictionary-accepted T = dictionary-parts D T.whole T.few ∙ parts-accepted T.each

  -- exactly by the first that applies, and else not at all
  pub dictionary-refused-exactly : {k : Cause} {i p : ℕ} → (dictionary_reading D ≡ refused k i p) ↔ DictionaryRefused D k i p
  dictionary-refused-exactly = (
    λ e. dictionary-cases
        (λ k' i' p' r. same-refused (DictionaryRefused D) (dictionary-refused r) e r)
        (λ T. refused-answered e (dictionary-accepted T)),
    dictionary-refused,
  )

  pub accepted-dictionary : {n : ℕ} → dictionary_reading D ≡ Ok n → DictionaryTaken D
  accepted-dictionary e = dictionary-cases (λ k i p r. refused-answered (dictionary-refused r) e) (λ T. T)
