-- Rows of the table of refusals, each by the number that is returned: 8 of a dictionary and of a list of services, 12, 13 and 14, and 7 of
-- unfolding and of the catalogue. No two causes have one number.
-- Assumes nothing.
use Rattle.std.proofs.Common.{◌≡◌, ◌∙◌, ℕ, ◌+◌, ◌<◌, ◌≤◌, ◌≢◌, ◌⊎◌, ◌↔◌, ◌%◌, List, [], ◌∷◌, length, get_or, Ok, Err, Result, refl, sym, ap, inl, inr, ⊎_elim, arith}
use Rattle.answers.proofs.AnswerLaws.{refused-answered, same-refused}
use Rattle.answers.proofs.CatalogueOrder.{catalogue-refused-exactly}
use Rattle.answers.proofs.DictionaryOrder.{dictionary-refused-exactly, line-refused-exactly}
use Rattle.answers.proofs.EntryOrder.{fourteen-exactly, thirteen-exactly}
use Rattle.answers.proofs.Seven.{LineNumber, dictionary-inputs, dictionary-number, line-number, list-number, not-seven}
use Rattle.answers.proofs.Unfolding.{unfold-refused-exactly}
use Rattle.answers.specs.Refusals.{AcceptedBy, CatalogueRefused, DictionaryRefused, ListCut, NameRefused, ServicesTaken, SizeRefused, UnfoldRefused}
use Rattle.answers.specs.Refusals.CatalogueRefused.{list as catalogue-list, dictionary as catalogue-dictionary, supplier as catalogue-supplier, broken as catalogue-broken, many as catalogue-many, service as catalogue-service, short as catalogue-short}
use Rattle.answers.specs.Refusals.DictionaryRefused.{broken, many, part}
use Rattle.answers.specs.Refusals.UnfoldRefused.{dictionary as unfolds-dictionary, input as unfolds-input, short as unfolds-short}
use Rattle.blocks.proofs.Refusing.Readings.{reading-cases}
use Rattle.blocks.proofs.RoundTrip.Accepting.{accepted-by-none, none-of-accepted}
use Rattle.blocks.proofs.RoundTrip.RefusalNumbers.{specimen-number}
use Rattle.blocks.specs.Entries.{entries_of}
use Rattle.blocks.specs.Faults.{faults}
use Rattle.blocks.specs.Promise.{NoneApplies}
use Rattle.blocks.specs.Reading as read
use Rattle.blocks.specs.Reading.{Reading, reading_of}
use Rattle.blocks.specs.Refusals.{number_of, refused}
use Rattle.blocks.specs.declared.Cause.TheVariants.{Length, Check, Framing, Form, Owner, Depth, Room, Count, Double, Item, Pairs, Clash, Name, Size, Walking, Full, Empty, Stand, Profile, Desk}
use Rattle.blocks.specs.declared.Cause.{Cause}
use Rattle.blocks.specs.declared.Entry.{Entry}
use Rattle.blocks.specs.declared.Schema.TheVariants.{Specimen}
use Rattle.catalogue.specs.Answer.{catalogue_of}
use Rattle.clashes.proofs.Refusals.{twelve-place, twelve-refuses}
use Rattle.clashes.proofs.Ways.{specimen-cases}
use Rattle.clashes.specs.Clash.{specimen_reading}
use Rattle.clashes.specs.Promise.{LowestClash}
use Rattle.lists.proofs.PartLaws.{parts_none}
use Rattle.lists.specs.Parts.{parts_of}
use Rattle.names.specs.NamedReading.{dictionary_reading, named_reading, plain_of}
use Rattle.pairs.proofs.PairsAccepted.{accepted-none, none-accepted}
use Rattle.pairs.proofs.PairsRefused.{first-of-pairs}
use Rattle.pairs.specs.Pairs.{pair_faults, pairs_reading}
use Rattle.unfolding.specs.Answer.{unfold_at}

-- ---- a number has one cause

causes : List Cause
causes = Length ∷ Length ∷ Check ∷ Framing ∷ Form ∷ Owner ∷ Depth ∷ Room ∷ Count ∷ Double ∷ Item ∷ Pairs ∷ Clash ∷ Name ∷ Size ∷ Walking ∷ Full
    ∷ Empty ∷ Stand ∷ Profile ∷ Desk ∷ []

cause_of : ℕ → Cause
cause_of n = get_or causes n Desk

told : (k : Cause) → cause_of (number_of k) ≡ k
unfolding causes cause_of
told Length = refl
told Check = refl
told Framing = refl
told Form = refl
told Owner = refl
told Depth = refl
told Room = refl
told Count = refl
told Double = refl
told Item = refl
told Pairs = refl
told Clash = refl
told Name = refl
told Size = refl
told Walking = refl
told Full = refl
told Empty = refl
told Stand = refl
told Profile = refl
told Desk = refl

pub one-cause : {j k : Cause} → number_of j ≡ number_of k → j ≡ k
one-cause {j} {k} e = sym (told j) ∙ (ap cause_of e ∙ told k)

-- only a refusal with its cause returns a number
by-number : (r : Reading) (k : Cause) {X : Type 0} → 1 ≤ number_of k → (read.returned r).number ≡ number_of k
    → ((i p : ℕ) → r ≡ refused k i p → X) → X
by-number r k {X} some e f =
    reading-cases r
    (λ j i p q.
    let z : number_of j ≡ number_of k = rw q at e in
    let s : j ≡ k = one-cause z in
    f i p (q ∙ rw s))
    (λ n q. let z : ◌≡◌ {A = ℕ} 0 (number_of k) = rw q at e in absurd (omega (arith, z)))

-- a description is refused by 1 to 6, 13 or 14
not-eight : {n : ℕ} → LineNumber n → n ≢ 8
not-eight h z = ⊎_elim (λ l. omega arith) (λ r. ⊎_elim (λ l. omega arith) (λ l. omega arith) r) h

-- where there are descriptions there are bytes
listed : (list : List ℕ) → 64 < length (parts_of list) → length list ≢ 0
listed list h z = let n : length (parts_of list) ≡ 0 = rw (parts_none list z) refl in omega (arith, h, n)

-- ---- a description, and a specimen

-- [R13] [R24] 13 exactly at a name that may not be given, after 4 at its entry
pub thirteen : (K : List (List Entry)) (i : ℕ) (s : List ℕ)
    → ((read.returned (named_reading K i s)).number ≡ 13) ↔ NameRefused K s ((read.returned (named_reading K i s)).place)
thirteen K i s = (
  λ e. by-number (named_reading K i s) Name (omega arith) e
      (λ j p q. let n = (thirteen-exactly K s).0 ((line-refused-exactly K i s).0 q).1 in rw q n),
  λ n. let q = (line-refused-exactly K i s).1 (refl, (thirteen-exactly K s).1 n) in rw q,
)

-- [R14] [R24] 14 exactly where it is too large once unfolded, after the input's other checks
pub fourteen : (K : List (List Entry)) (i : ℕ) (s : List ℕ) → ((read.returned (named_reading K i s)).number ≡ 14) ↔ SizeRefused K s
fourteen K i s = (
  λ e. by-number (named_reading K i s) Size (omega arith) e
      (λ j p q. ((fourteen-exactly K s).0 ((line-refused-exactly K i s).0 q).1).1),
  λ z. let q = (line-refused-exactly K i s).1 (refl, (fourteen-exactly K s).1 (refl, z)) in rw q,
)

-- [R12] [S13] 12 exactly at the lowest entry that completes a pair, where the list and the specimen pass all else
abbrev pub Completes : List ℕ → List ℕ → ℕ → Type 0
Completes P s p = (NoneApplies (pair_faults P) × NoneApplies (faults Specimen s)) × LowestClash P (entries_of s) p

module _ (P s : List ℕ) where
  clash-alone : {i p : ℕ} → specimen_reading P s ≡ refused Clash i p → NoneApplies (pair_faults P) × NoneApplies (faults Specimen s)
  clash-alone e =
      specimen-cases P s
      (λ k i p f g.
      let a : number_of Clash ≡ 11 = same-refused (λ c j q. number_of c ≡ 11) g e (ap number_of (first-of-pairs P f).0) in
      absurd (omega (arith, a)))
      (λ m k i p f h g. absurd (⊎_elim (λ l. omega (arith, l)) (λ l. omega (arith, l))
      (same-refused (λ c j q. (number_of c ≤ 6) ⊎ (number_of c ≡ 9)) g e (specimen-number 1 s h))))
      (λ m n f h z g. (accepted-none P f, (none-of-accepted Specimen 1 s h).0))
      (λ m n f h z g. refused-answered e g)

  pub twelve : ((read.returned (specimen_reading P s)).number ≡ 12) ↔ Completes P s ((read.returned (specimen_reading P s)).place)
  twelve = (
    λ e. by-number (specimen_reading P s) Clash (omega arith) e
        (λ i p q. let a = clash-alone q in let c = (twelve-place P s q).1 in rw q (a, c)),
    λ h. let q = twelve-refuses P s (none-accepted P h.0.0) (accepted-by-none Specimen 1 s h.0.1) h.1 in rw q,
  )

-- ---- a dictionary

-- [R8] 8 exactly where it has more than 64 descriptions
module _ (D : List ℕ) where
  dictionary-many : {k : Cause} {i p : ℕ} → DictionaryRefused D k i p → number_of k ≡ 8 → (length D % 512 ≡ 0) × (64 < length (parts_of D))
  dictionary-many (broken h) z = absurd (omega (arith, z))
  dictionary-many (many w h) z = (w, h)
  dictionary-many (part w h r) z = absurd (not-eight (line-number _ _ r.first) z)

  pub dictionary-eight : ((read.returned (dictionary_reading D)).number ≡ 8) ↔ ((length D % 512 ≡ 0) × (64 < length (parts_of D)))
  dictionary-eight = (
    λ e. by-number (dictionary_reading D) Count (omega arith) e (λ i p q. dictionary-many ((dictionary-refused-exactly D).0 q) refl),
    λ h. let q = (dictionary-refused-exactly D).1 (many h.0 h.1) in rw q,
  )

-- ---- unfolding

module _ (D d out : List ℕ) where
  unfold-last : {k : Cause} {i p : ℕ} → UnfoldRefused D d out k i p → number_of k ≡ 7 → AcceptedBy D d × (length out < length (plain_of D d))
  unfold-last (unfolds-dictionary r) z = absurd (dictionary-number D r z)
  unfold-last (unfolds-input T f) z = absurd (not-seven (line-number _ d f) z)
  unfold-last (unfolds-short B h) z = (B, h)

  -- [R7] 7 last
  pub unfold-seven : ((read.returned (unfold_at D 1 d out)).number ≡ 7) ↔ (AcceptedBy D d × (length out < length (plain_of D d)))
  unfold-seven = (
    λ e. by-number (unfold_at D 1 d out) Room (omega arith) e (λ i p q. unfold-last ((unfold-refused-exactly D d out Room i p).0 q) refl),
    λ h. let q = (unfold-refused-exactly D d out Room 0 0).1 (unfolds-short h.0 h.1) in rw q,
  )

-- ---- a catalogue

module _ (P D c list out : List ℕ) where
  -- everything is accepted
  abbrev Taken : Type 0
  Taken = NoneApplies (pair_faults P) × (AcceptedBy D c × ServicesTaken D list)

  catalogue-last : {k : Cause} {i p : ℕ} → CatalogueRefused P D c list out k i p → number_of k ≡ 7 → Taken × (length out < length (parts_of list))
  catalogue-last (catalogue-list f) z = absurd (list-number P f z)
  catalogue-last (catalogue-dictionary n r) z = absurd (dictionary-number D r z)
  catalogue-last (catalogue-supplier n T f) z = absurd (not-seven (line-number _ c f) z)
  catalogue-last (catalogue-broken n B h) z = absurd (omega (arith, z))
  catalogue-last (catalogue-many n B some whole h) z = absurd (omega (arith, z))
  catalogue-last (catalogue-service n B C r) z = absurd (not-seven (line-number _ _ r.first) z)
  catalogue-last (catalogue-short n B S h) z = ((n, (B, S)), h)

  -- [R7] 7 last
  pub catalogue-seven : ((read.returned (catalogue_of P D c list out)).number ≡ 7)
      ↔ ((NoneApplies (pair_faults P) × (AcceptedBy D c × ServicesTaken D list)) × (length out < length (parts_of list)))
  catalogue-seven = (
    λ e. by-number (catalogue_of P D c list out) Room (omega arith) e
        (λ i p q. catalogue-last ((catalogue-refused-exactly P D c list out Room i p).0 q) refl),
    λ h. let q = (catalogue-refused-exactly P D c list out Room 0 0).1 (catalogue-short h.0.0 h.0.1.0 h.0.1.1 h.1) in rw q,
  )

  -- [R8] [L6] 8 of input 2 exactly where the list has more than 64 services: before any of them is looked at
  catalogue-many-row : {k : Cause} {i p : ℕ} → CatalogueRefused P D c list out k i p → number_of k ≡ 8 → i ≡ 2
      → (NoneApplies (pair_faults P) × AcceptedBy D c) × ((length list % 512 ≡ 0) × (64 < length (parts_of list)))
  catalogue-many-row (catalogue-list f) z w = absurd (omega (arith, w))
  catalogue-many-row (catalogue-dictionary n r) z w = absurd (omega (arith, w, dictionary-inputs D r))
  catalogue-many-row (catalogue-supplier n T f) z w = absurd (omega (arith, w))
  catalogue-many-row (catalogue-broken n B h) z w = absurd (omega (arith, z))
  catalogue-many-row (catalogue-many n B some whole h) z w = ((n, B), (whole, h))
  catalogue-many-row (catalogue-service n B C r) z w = absurd (not-eight (line-number _ _ r.first) z)
  catalogue-many-row (catalogue-short n B S h) z w = absurd (omega (arith, z))

  pub catalogue-eight : (((read.returned (catalogue_of P D c list out)).number ≡ 8) × ((read.returned (catalogue_of P D c list out)).input ≡ 2))
      ↔ ((NoneApplies (pair_faults P) × AcceptedBy D c) × ((length list % 512 ≡ 0) × (64 < length (parts_of list))))
  catalogue-eight = (
    λ e. by-number (catalogue_of P D c list out) Count (omega arith) e.0
        (λ i p q.
        let w : i ≡ 2 = rw q at e.1 in
        catalogue-many-row ((catalogue-refused-exactly P D c list out Count i p).0 q) refl w),
    λ h.
        let q = (catalogue-refused-exactly P D c list out Count 2 0).1 (catalogue-many h.0.0 h.0.1 (listed list h.1.1) h.1.0 h.1.1) in
        rw q (refl, refl),
  )
