-- What is promised of ranking a list of services.
-- Assumes nothing.
use Prim.Native.Nat.{◌*◌, ◌+◌, ◌<◌, ◌≤◌, suc, zero, ℕ}
use lib.ListN.{drop, get_or, get_or-append, length}
use lib.Seq.{drop_at, get_or-append-add}
use mathlib.Core.Bool.{Bool, true}
use mathlib.Core.List.{List, [], ◌++◌, ◌∷◌}
use mathlib.Core.Logic.{◌↔◌, ◌≢◌}
use mathlib.Core.Path.{◌∙◌, ◌≡◌, ap, refl, sym}
use native.Mathlib.Nat.{mul-suc, mul-zero}
use native.Mathlib.Omega.{arith}
use Rattle.base.proofs.Lists.{get_d-listed, length-listed, listed}
use Rattle.base.proofs.Split.{row_below}
use Rattle.base.proofs.Tests.{bool_cases, eq-cases, eq-eqb, eqb-eq, ltb-ge}
use Rattle.base.specs.Range.{bit}
use Rattle.blocks.proofs.Refusing.Readings.{reading-cases}
use Rattle.blocks.proofs.RoundTrip.Accepting.{sound-of-accepted}
use Rattle.blocks.specs.Encoding.{joined}
use Rattle.blocks.specs.Promise.{Legal}
use Rattle.blocks.specs.Reading.{reading_of}
use Rattle.blocks.specs.Refusals.{refused}
use Rattle.blocks.specs.declared.Cause.TheVariants.{Length, Room}
use Rattle.blocks.specs.declared.Refusal.{Refusal}
use Rattle.blocks.specs.declared.Schema.TheVariants.{Description}
use Rattle.hierarchy.proofs.AnswerLaws.{ranks-long, table-taken}
use Rattle.hierarchy.proofs.RowLaws.{square-long}
use Rattle.hierarchy.specs.Answer.{contains, hierarchy_of, hierarchy_size, ranked_of, ranks, service_entries, square_rows}
use Rattle.hierarchy.specs.Promise.{ContainedUnder, RanksServices, class_byte, service_in, services_in}
use Rattle.lists.proofs.PartLaws.{parts-of}
use Rattle.lists.specs.Parts.{parts_of}
use Rattle.meaning.proofs.Hierarchies.OrderedTable.{table-ordered}
use Rattle.meaning.proofs.Hierarchies.Superiors.{class-alike, class-only, leads-strict, reaches}
use Rattle.meaning.proofs.Verdicts.Contained.{contained-all}
use Rattle.meaning.specs.Hierarchy.{Ordered, class_of, direct}
use Rattle.pairs.proofs.Under.{ruled-under}
use Rattle.pairs.specs.Pairs.{under}
use Rattle.names.proofs.Legality.AcceptedReadings.{any-input}
use Rattle.slots.specs.Catalogue.{cut_reading}
use Rattle.slots.specs.Containment.{plain_services_reading, table_reading}
use Rattle.std.specs.Prelude.{Err, Ok, ltb}

-- ---- bytes of what is written

joined-at : (f : ℕ → List ℕ) (n k m i j : ℕ) → ((x : ℕ) → length (f x) ≡ n) → i < m → j < n → get_or (joined (listed f k m)) (n * i + j) 0 ≡ get_or (f (k + i)) j 0
unfolding joined listed
joined-at f n k zero i j long h b = absurd (omega arith)
joined-at f n k (suc m) zero j long h b =
    let here : n * 0 + j ≡ j = omega (arith, mul-zero n) in
    let first : k + 0 ≡ k = omega arith in
    rw (here, first) (get_or-append (f k) (joined (listed f (suc k) m)) 0 j (omega (arith, long k)))
joined-at f n k (suc m) (suc i) j long h b =
    let l = long k in
    let there : n * suc i + j ≡ length (f k) + (n * i + j) = omega (arith, mul-suc n i, l) in
    let next : suc k + i ≡ k + suc i = omega arith in
    rw there (get_or-append-add (f k) (joined (listed f (suc k) m)) (n * i + j) 0 ∙ joined-at f n (suc k) m i j long (omega arith) b ∙ ap (λ (x : ℕ). get_or (f x) j 0) next)

square-at : (f : ℕ → ℕ → Bool) (n i j : ℕ) → i < n → j < n → get_or (joined (square_rows f n)) (n * i + j) 0 ≡ bit (f i j)
unfolding square_rows
square-at f n i j hi hj =
    let row = λ (i : ℕ). listed (λ j. bit (f i j)) 0 n in
    joined-at row n 0 n i j (λ x. length-listed (λ j. bit (f x j)) 0 n) hi hj
    ∙ get_d-listed (λ k. bit (f (0 + i) k)) 0 n 0 j hj
    ∙ (let a : 0 + i ≡ i = omega arith in let b : 0 + j ≡ j = omega arith in rw (a, b) refl)

-- a place in a row lies within the rows
within : (n i j : ℕ) → i < n → j < n → n * i + j < n * n
within n i j hi hj = omega (arith, row_below n hi)

module _ (t : ℕ → ℕ → Bool) (n : ℕ) (rest : List ℕ) where
  X : List ℕ
  X = joined (square_rows t n)

  Y : List ℕ
  Y = joined (square_rows (direct t n) n)

  Z : List ℕ
  Z = listed (class_of t n) 0 n

  table-at : (i j : ℕ) → i < n → j < n → get_or (ranks t n ++ rest) (n * i + j) 0 ≡ bit (t i j)
  unfolding ranks X Y Z
  table-at i j hi hj =
      let b = within n i j hi hj in
      get_or-append (ranks t n) rest 0 (n * i + j) (omega (arith, ranks-long t n))
      ∙ get_or-append X (Y ++ Z) 0 (n * i + j) (omega (arith, square-long t n))
      ∙ square-at t n i j hi hj

  superior-at : (i j : ℕ) → i < n → j < n → get_or (ranks t n ++ rest) (n * n + (n * i + j)) 0 ≡ bit (direct t n i j)
  unfolding ranks X Y Z
  superior-at i j hi hj =
      let b = within n i j hi hj in
      let at : length X + (n * i + j) ≡ n * n + (n * i + j) = ap (λ (k : ℕ). k + (n * i + j)) (square-long t n) in
      get_or-append (ranks t n) rest 0 (n * n + (n * i + j)) (omega (arith, ranks-long t n))
      ∙ ap (λ (k : ℕ). get_or (X ++ (Y ++ Z)) k 0) (sym at)
      ∙ get_or-append-add X (Y ++ Z) (n * i + j) 0
      ∙ get_or-append Y Z 0 (n * i + j) (omega (arith, square-long (direct t n) n))
      ∙ square-at (direct t n) n i j hi hj

  class-at : (i : ℕ) → i < n → get_or (ranks t n ++ rest) (2 * (n * n) + i) 0 ≡ class_of t n i
  unfolding ranks X Y Z
  class-at i hi =
      let x = square-long t n in
      let y = square-long (direct t n) n in
      let at : length X + (length Y + i) ≡ 2 * (n * n) + i = omega (arith, x, y) in
      let z : 0 + i ≡ i = omega arith in
      get_or-append (ranks t n) rest 0 (2 * (n * n) + i) (omega (arith, ranks-long t n))
      ∙ ap (λ (k : ℕ). get_or (X ++ (Y ++ Z)) k 0) (sym at)
      ∙ get_or-append-add X (Y ++ Z) (length Y + i) 0
      ∙ get_or-append-add Y Z i 0
      ∙ get_d-listed (class_of t n) 0 n 0 i hi
      ∙ ap (class_of t n) z

-- ---- the services of a list that is accepted

-- each is accepted, as an input of its own
pub services-taken : (k : ℕ) (ds : List (List ℕ)) {n : ℕ} → plain_services_reading k ds ≡ Ok n → (i : ℕ) → i < length ds
    → {X : Type 0} → ((m : ℕ) → reading_of Description 1 (get_or ds i []) ≡ Ok m → X) → X
unfolding plain_services_reading
services-taken k [] e i h f = absurd (omega arith)
services-taken k (d ∷ ds) {n} e zero h f =
    reading-cases (reading_of Description k d)
    (λ c j p q. let z : refused c j p ≡ Ok n = rw q at e in let y : ◌≡◌ {A = ℕ} 0 1 = cc in absurd (omega arith))
    (λ m q. f m (any-input Description k 1 d q))
services-taken k (d ∷ ds) {n} e (suc i) h f =
    reading-cases (reading_of Description k d)
    (λ c j p q. let z : refused c j p ≡ Ok n = rw q at e in let y : ◌≡◌ {A = ℕ} 0 1 = cc in absurd (omega arith))
    (λ m q. let rest : plain_services_reading (suc k) ds ≡ Ok n = rw q at e in services-taken (suc k) ds rest i (omega arith) f)

-- a list that is cut has a service
cut-some : (list : List ℕ) {n : ℕ} → cut_reading list ≡ Ok n → 1 ≤ length (parts_of list)
unfolding cut_reading
cut-some list {n} e =
    eq-cases (length list) 0
    (λ z. let w : refused Length 2 0 ≡ Ok n = rw (eq-eqb z) at e in let y : ◌≡◌ {A = ℕ} 0 1 = cc in absurd (omega arith))
    (λ z. some-parts list z)
  where
    some-parts : (s : List ℕ) → length s ≢ 0 → 1 ≤ length (parts_of s)
    some-parts s z = let p = ap length (parts-of s z) in omega (arith, p)

-- ---- the answer

-- it is given where nothing of the list is refused and the output is long enough
pub ranked-taken : (P list out : List ℕ) {m : ℕ} → hierarchy_of P list out ≡ Ok m
    → (table_reading P list ≡ Ok (services_in list)) × (m ≡ hierarchy_size (services_in list)) × (m ≤ length out)
unfolding hierarchy_of
ranked-taken P list out {m} e =
    reading-cases (table_reading P list)
    (λ k i p q. let z : refused k i p ≡ Ok m = rw q at e in let y : ◌≡◌ {A = ℕ} 0 1 = cc in absurd (omega arith))
    (λ n q.
    let c = (table-taken P list q).count in
    bool_cases (ltb (length out) (hierarchy_size (services_in list)))
    (λ w. let z : refused Room 0 0 ≡ Ok m = rw (q, w) at e in let y : ◌≡◌ {A = ℕ} 0 1 = cc in absurd (omega arith))
    (λ w.
    let z : Ok (hierarchy_size (services_in list)) ≡ Ok m = rw (q, w) at e in
    let is : m ≡ hierarchy_size (services_in list) = cc in
    let l : hierarchy_size (services_in list) ≤ length out = ltb-ge w in
    (q ∙ ap Ok c, is, omega (arith, is, l))))

module _ (P list out : List ℕ) {m : ℕ} (F : hierarchy_of P list out ≡ Ok m) where
  abbrev t : ℕ → ℕ → Bool
  t = contains P list

  new-is : ranked_of P list out ≡ ranks t (services_in list) ++ drop (hierarchy_size (services_in list)) out
  unfolding ranked_of
  new-is = rw F refl

  -- each service is legal
  legal : (i : ℕ) → i < services_in list → Legal Description (service_entries list i)
  legal i h =
      services-taken 2 (parts_of list) (table-taken P list (ranked-taken P list out F).0).services i h
      (λ k q. (sound-of-accepted Description 1 (service_in list i) q).entries)

  ordered : Ordered t (services_in list)
  ordered = table-ordered (under P) (ruled-under P (table-taken P list (ranked-taken P list out F).0).list_read).lawful (service_entries list) (services_in list) legal

  -- a cell says what holds in every record
  cell-means : (i j : ℕ) → i < services_in list → j < services_in list → (t i j ≡ true) ↔ ContainedUnder P (service_in list i) (service_in list j)
  cell-means i j hi hj =
      let w = contained-all (ruled-under P (table-taken P list (ranked-taken P list out F).0).list_read).lawful (service_entries list i) (service_entries list j) (legal j hj) in
      (λ e. w.0 (eqb-eq e), λ s. eq-eqb (w.1 s))

  class-is : (i : ℕ) → i < services_in list → class_byte P list out i ≡ class_of t (services_in list) i
  class-is i h = ap (λ (l : List ℕ). get_or l (2 * (services_in list * services_in list) + i) 0) new-is ∙ class-at t (services_in list) _ i h

  pub ranks-services : RanksServices P list out m
  ranks-services =
      let R = ranked-taken P list out F in
      let T = table-taken P list R.0 in
      let k = services_in list in
      record {
        some = cut-some list T.cut;
        few = T.few;
        size = R.1;
        room = R.2;
        later = rw (R.1) (ap (drop (hierarchy_size k)) new-is ∙ drop_at (ranks t k) (drop (hierarchy_size k) out) (hierarchy_size k) (ranks-long t k));
        cell = λ i j hi hj. ap (λ (l : List ℕ). get_or l (k * i + j) 0) new-is ∙ table-at t k _ i j hi hj;
        means = cell-means;
        superior = λ i j hi hj. ap (λ (l : List ℕ). get_or l (k * k + (k * i + j)) 0) new-is ∙ superior-at t k _ i j hi hj;
        reaches = λ i j hi hj s. reaches t k ordered i j hi hj s;
        only = λ i j hi hj l. leads-strict t k ordered i j hi hj l;
        class = class-is;
        alike-only = λ i j hi hj. (
          λ e. class-only t k ordered i j hi hj (sym (class-is i hi) ∙ e ∙ class-is j hj),
          λ a. class-is i hi ∙ class-alike t k ordered i j hi hj a ∙ sym (class-is j hj),
        );
      }

-- a refusal changes no byte
pub refused-stays : (P list out : List ℕ) {x : Refusal} → hierarchy_of P list out ≡ Err x → ranked_of P list out ≡ out
unfolding ranked_of
refused-stays P list out e = rw e refl
