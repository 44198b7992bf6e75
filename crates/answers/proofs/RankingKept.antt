-- Ranking a list of services refuses exactly by the first row that applies, and each byte of its table is the single comparison's.
-- Assumes nothing.
use Rattle.std.proofs.Common.{◌≡◌, ℕ, zero, suc, ◌+◌, ◌<◌, ◌≤◌, ◌%◌, ◌≢◌, ◌⊎◌, ◌↔◌, Bool, true, false, List, [], ◌∷◌, length, get_or, None, Ok, Err, eqb, refl, sym, ap, ◌∙◌, inl, inr, arith}
use Rattle.answers.proofs.AnswerLaws.{refused-answered, same-refused}
use Rattle.answers.proofs.Nameless.{comparison-nameless}
use Rattle.answers.proofs.Order.{list_cases}
use Rattle.answers.specs.Calls.{NothingWritten, RefusedExactly}
use Rattle.answers.specs.Promise.{AsCompared}
use Rattle.answers.specs.Ranking.{FirstPlain, HierarchyRefused, PlainTaken, Ranks, plain_faults}
use Rattle.answers.specs.Ranking.HierarchyRefused.{broken as by-broken, list as by-list, many as by-many, service as by-service, short as by-short}
use Rattle.answers.specs.Refusals.{ListCut}
use Rattle.base.proofs.Tests.{eq-cases, eq-eqb, eqb-eq, ge-ltb, lt-cases, lt-ltb, ne_eqb}
use Rattle.base.specs.Range.{bit}
use Rattle.blocks.proofs.Refusing.Readings.{reading-cases}
use Rattle.blocks.proofs.RoundTrip.Accepting.{accepted-by-none, first-of-refused, none-of-accepted, refused-by-first}
use Rattle.blocks.specs.Faults.{faults}
use Rattle.blocks.specs.Promise.{FirstOf, NoneApplies}
use Rattle.blocks.specs.Reading.{reading_of}
use Rattle.blocks.specs.Refusals.{refused}
use Rattle.blocks.specs.declared.Cause.TheVariants.{Count, Length, Room}
use Rattle.blocks.specs.declared.Cause.{Cause}
use Rattle.blocks.specs.declared.Refusal.{Refusal}
use Rattle.blocks.specs.declared.Schema.TheVariants.{Description}
use Rattle.compare.proofs.AnswerLaws.{compared, contained-verdict, list_read, verdict-contained, verdict-not}
use Rattle.compare.specs.Answer.{Comparison, compare_of, not_contained, verdict}
use Rattle.hierarchy.proofs.AnswerLaws.{table-taken}
use Rattle.hierarchy.proofs.PromiseKept.{ranked-taken, ranks-services, refused-stays, services-taken}
use Rattle.hierarchy.specs.Answer.{contains, hierarchy_of, hierarchy_size, ranked_of, service_entries}
use Rattle.hierarchy.specs.Promise.{service_in, services_in, table_byte}
use Rattle.lists.proofs.PartLaws.{parts-of-nil}
use Rattle.lists.specs.Parts.{parts_of}
use Rattle.meaning.specs.Failing.{failing}
use Rattle.named.specs.Answer.{compare_named}
use Rattle.names.proofs.Legality.AcceptedReadings.{any-input}
use Rattle.names.specs.NamedReading.{dictionary_reading, parts_reading}
use Rattle.pairs.proofs.PairsAccepted as excluding
use Rattle.pairs.proofs.PairsRefused.{pairs-refused}
use Rattle.pairs.specs.Pairs.{pair_faults, pairs_reading, under}
use Rattle.slots.specs.Catalogue.{cut_reading}
use Rattle.slots.specs.Containment.{plain_listed_reading, plain_services_reading, table_reading}

-- ---- the services in turn

-- those before one that is refused are accepted
in-turn-refused : (k : ℕ) (ds : List (List ℕ)) (j : ℕ) → j < length ds → ((m : ℕ) → m < j → NoneApplies (faults Description (get_or ds m []))) → {x : Refusal}
    → reading_of Description (k + j) (get_or ds j []) ≡ Err x → plain_services_reading k ds ≡ Err x
unfolding plain_services_reading
in-turn-refused k [] j h all e = absurd (omega arith)
in-turn-refused k (d ∷ ds) zero h all e = let z : k + 0 ≡ k = omega arith in let w = rw z at e in rw w refl
in-turn-refused k (d ∷ ds) (suc j) h all e =
    let z : k + suc j ≡ suc k + j = omega arith in
    let here = accepted-by-none Description k d (all 0 (omega arith)) in
    rw here (in-turn-refused (suc k) ds j (omega arith) (λ m l. all (suc m) (omega arith)) (rw z at e))

in-turn-taken : (k : ℕ) (ds : List (List ℕ)) → ((m : ℕ) → m < length ds → NoneApplies (faults Description (get_or ds m []))) → plain_services_reading k ds ≡ Ok 0
unfolding plain_services_reading
in-turn-taken k [] all = refl
in-turn-taken k (d ∷ ds) all =
    let here = accepted-by-none Description k d (all 0 (omega arith)) in
    rw here (in-turn-taken (suc k) ds (λ m l. all (suc m) (omega arith)))

-- ---- by each row

module _ (list : List ℕ) where
  cut-broken : (length list ≡ 0) ⊎ (length list % 512 ≢ 0) → cut_reading list ≡ refused Length 2 0
  unfolding cut_reading
  cut-broken (inl z) = rw (eq-eqb z) refl
  cut-broken (inr z) = eq-cases (length list) 0 (λ e. rw (eq-eqb e) refl) (λ some. rw (ne_eqb some, ne_eqb z) refl)

  module _ (some : length list ≢ 0) (whole : length list % 512 ≡ 0) where
    cut-many : 64 < services_in list → cut_reading list ≡ refused Count 2 0
    unfolding cut_reading
    cut-many h = rw (ne_eqb some, eq-eqb whole, lt-ltb h) refl

    cut-goes : services_in list ≤ 64 → cut_reading list ≡ Ok (services_in list)
    unfolding cut_reading
    cut-goes h = rw (ne_eqb some, eq-eqb whole, ge-ltb h) refl

module _ (P list out : List ℕ) where
  by-reading : {k : Cause} {i p : ℕ} → table_reading P list ≡ refused k i p → hierarchy_of P list out ≡ refused k i p
  unfolding hierarchy_of
  by-reading e = rw e refl

  by-pairs : {k : Cause} {p : ℕ} → FirstOf (pair_faults P) k p → table_reading P list ≡ refused k 0 p
  unfolding table_reading
  by-pairs f = rw (pairs-refused P f) refl

  module _ (n : NoneApplies (pair_faults P)) where
    listed : table_reading P list ≡ plain_listed_reading list
    unfolding table_reading
    listed = rw (excluding.none-accepted P n) refl

    at-cut : {k : Cause} {i p : ℕ} → cut_reading list ≡ refused k i p → plain_listed_reading list ≡ refused k i p
    unfolding plain_listed_reading
    at-cut e = rw e refl

    by-cut : {k : Cause} {i p : ℕ} → cut_reading list ≡ refused k i p → hierarchy_of P list out ≡ refused k i p
    by-cut e = by-reading (listed ∙ at-cut e)

    module _ (C : ListCut list) where
      by-services : {x : Refusal} → plain_services_reading 2 (parts_of list) ≡ Err x → table_reading P list ≡ Err x
      unfolding plain_listed_reading
      by-services e = listed ∙ rw (cut-goes list C.some C.whole C.few, e) refl

      all-taken : {k : ℕ} → plain_services_reading 2 (parts_of list) ≡ Ok k → table_reading P list ≡ Ok (services_in list)
      unfolding plain_listed_reading
      all-taken e = listed ∙ rw (cut-goes list C.some C.whole C.few, e) refl

  pub hierarchy-refuses : {k : Cause} {i p : ℕ} → HierarchyRefused P list out k i p → hierarchy_of P list out ≡ refused k i p
  unfolding hierarchy_of
  hierarchy-refuses (by-list f) = by-reading (by-pairs f)
  hierarchy-refuses (by-broken n z) = by-cut n (cut-broken list z)
  hierarchy-refuses (by-many n some whole h) = by-cut n (cut-many list some whole h)
  hierarchy-refuses (by-service n C r) =
      let e = refused-by-first Description (2 + r.before) (service_in list r.before) r.first in
      let w = r.input in
      rw w (by-reading (by-services n C (in-turn-refused 2 (parts_of list) r.before r.there r.accepted e)))
  hierarchy-refuses (by-short n T h) = rw (all-taken n T.cut (in-turn-taken 2 (parts_of list) T.each), lt-ltb h) refl

  -- otherwise it answers: the number of bytes written
  pub hierarchy-answers : NoneApplies (pair_faults P) → PlainTaken list → hierarchy_size (services_in list) ≤ length out
      → hierarchy_of P list out ≡ Ok (hierarchy_size (services_in list))
  unfolding hierarchy_of
  hierarchy-answers n T h = rw (all-taken n T.cut (in-turn-taken 2 (parts_of list) T.each), ge-ltb h) refl

  -- the first service from number n on that is refused, or none is
  search : {X : Type 0} (left n : ℕ) → n + left ≡ services_in list → ((m : ℕ) → m < n → NoneApplies (plain_faults list m))
      → ((k : Cause) (i p : ℕ) → FirstPlain list k i p → X) → (((m : ℕ) → m < services_in list → NoneApplies (plain_faults list m)) → X) → X
  search zero n e all f g = g (λ m l. all m (omega arith))
  search (suc left) n e all f g =
      reading-cases (reading_of Description (2 + n) (service_in list n))
      (λ k i p r. f k (2 + n) p (record { before = n; there = omega arith; input = refl; accepted = all; first = (first-of-refused Description (2 + n) (service_in list n) r).1 }))
      (λ t r. search left (suc n) (omega arith)
      (λ m l. eq-cases m n (λ q. rw q (none-of-accepted Description (2 + n) (service_in list n) r).0) (λ q. all m (omega arith))) f g)

  hierarchy-cases : {X : Type 0} → ((k : Cause) (i p : ℕ) → HierarchyRefused P list out k i p → X)
      → (NoneApplies (pair_faults P) → PlainTaken list → hierarchy_size (services_in list) ≤ length out → X) → X
  hierarchy-cases f g =
      list_cases P
      (λ k p r. f k 0 p (by-list r))
      (λ n.
      eq-cases (length list) 0
      (λ e. f Length 2 0 (by-broken n (inl e)))
      (λ some. eq-cases (length list % 512) 0
      (λ whole. lt-cases 64 (services_in list)
      (λ h. f Count 2 0 (by-many n some whole h))
      (λ few.
      let C : ListCut list = record { some = some; whole = whole; few = few } in
      search (services_in list) 0 (omega arith) (λ m l. absurd (omega arith))
      (λ k i p r. f k i p (by-service n C r))
      (λ all.
      let T : PlainTaken list = record { cut = C; each = all } in
      lt-cases (length out) (hierarchy_size (services_in list)) (λ h. f Room 0 0 (by-short n T h)) (λ h. g n T h))))
      (λ broken. f Length 2 0 (by-broken n (inr broken)))))

  pub hierarchy-refused-exactly : RefusedExactly (hierarchy_of P list out) (HierarchyRefused P list out)
  hierarchy-refused-exactly k i p = (
    λ e. hierarchy-cases
        (λ k' i' p' r. same-refused (HierarchyRefused P list out) (hierarchy-refuses r) e r)
        (λ n T h. refused-answered e (hierarchy-answers n T h)),
    hierarchy-refuses,
  )

  pub hierarchy-unchanged : NothingWritten (hierarchy_of P list out) (ranked_of P list out) out
  hierarchy-unchanged k i p e = refused-stays P list out e

-- ---- the single comparison

pub none-named : dictionary_reading [] ≡ Ok 0
unfolding dictionary_reading parts_reading
none-named = rw parts-of-nil

pub bit-one : (b : Bool) → bit b ≡ 1 → b ≡ true
bit-one true e = refl
bit-one false e = absurd (omega arith)

bit-zero : (b : Bool) → bit b ≡ 0 → b ≡ false
bit-zero true e = absurd (omega arith)
bit-zero false e = refl

module _ (P list out : List ℕ) {m : ℕ} (F : hierarchy_of P list out ≡ Ok m) where
  taken : {X : Type 0} (i : ℕ) → i < services_in list → ((k : ℕ) → reading_of Description 1 (service_in list i) ≡ Ok k → X) → X
  taken i h f = services-taken 2 (parts_of list) (table-taken P list (ranked-taken P list out F).0).services i h f

  module _ (i j : ℕ) (hi : i < services_in list) (hj : j < services_in list) (o : List ℕ) (room : length (service_in list i) + length (service_in list j) ≤ length o) where
    single-verdict : compare_named P [] (service_in list i) (service_in list j) o ≡ verdict (under P) (service_entries list i) (service_entries list j)
    single-verdict =
        let l = (table-taken P list (ranked-taken P list out F).0).list_read in
        taken i hi (λ a e. taken j hj (λ b f.
        let second = any-input Description 1 2 (service_in list j) f in
        (comparison-nameless P [] (service_in list i) (service_in list j) o none-named 1 e 1 f).0
        ∙ list_read P (service_in list i) (service_in list j) o l
        ∙ compared (under P) (service_in list i) (service_in list j) o (record { first = a; second = b; first_read = e; second-read = second; room = room })))

    byte-is : table_byte P list out i j ≡ bit (contains P list i j)
    byte-is = (ranks-services P list out F).cell i j hi hj

    pub ranked-single : AsCompared P [] (service_in list i) (service_in list j) o (table_byte P list out i j)
    ranked-single =
        let f = failing (under P) (service_entries list i) (service_entries list j) in
        record {
          contained = (
            λ b. single-verdict ∙ verdict-contained (under P) _ _ (eqb-eq (bit-one (eqb f 0) (sym byte-is ∙ b))),
            λ e. byte-is ∙ rw (eq-eqb (contained-verdict (under P) _ _ (sym single-verdict ∙ e))) refl,
          );
          not-contained = (
            λ b. record { entry = _; entries = _; answer = single-verdict ∙ verdict-not (under P) _ _ (λ z. let w = bit-zero (eqb f 0) (sym byte-is ∙ b) in let y : true ≡ false = sym (eq-eqb z) ∙ w in cc) },
            λ A. eq-cases f 0
                (λ z.
                let c₁ : ◌≡◌ {A = Comparison} (Ok None) (not_contained A.entry A.entries) = sym (single-verdict ∙ verdict-contained (under P) _ _ z) ∙ A.answer in
                let y : ◌≡◌ {A = ℕ} 0 1 = cc in
                absurd (omega arith))
                (λ z. byte-is ∙ rw (ne_eqb z) refl),
          );
        }

pub ranks : (P list out : List ℕ) (m : ℕ) → hierarchy_of P list out ≡ Ok m → Ranks P list out m
ranks P list out m F = record { ranks = ranks-services P list out F; compared = λ i j hi hj o room. ranked-single P list out F i j hi hj o room }
