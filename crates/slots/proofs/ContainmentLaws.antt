-- Laws of the table of containment: a service cut out of its list, services read in turn, a row, rows in turn, and what stands before them.
-- Assumes nothing.
use Prim.Native.Nat.{◌*◌, ◌+◌, ◌<◌, ◌≤◌, suc, ℕ}
use lib.ListN.{drop, get_or, length, length-drop, length-map, length-set, set, take}
use lib.Seq.{drop-cons, get_or-set_other, get_or-set_same, length-take-le, take_all}
use mathlib.Core.Bool.{Bool}
use mathlib.Core.List.{List, [], ◌++◌, ◌∷◌, map}
use mathlib.Core.Path.{◌∙◌, ◌≡◌, ap, refl, sym}
use native.Mathlib.Omega.{arith}
use Rattle.std.proofs.lemmas.List.{map_more}
use Rattle.base.proofs.Parts.{high_is, high_of}
use Rattle.base.proofs.StoresLaws.{stored_one, stored-then}
use Rattle.base.proofs.Tests.{eq-cases}
use Rattle.base.specs.Range.{bit}
use Rattle.base.proofs.Lists.{get_d-map-in}
use Rattle.base.proofs.RowsLaws.{Narrow, row-cell}
use Rattle.base.specs.Stores.{rows_at, stored}
use Rattle.blocks.specs.Reading.{Reading, reading_of}
use Rattle.blocks.specs.declared.Refusal.{Refusal}
use Rattle.blocks.specs.declared.Schema.TheVariants.{Description}
use Rattle.lists.proofs.PartLaws.{part_at, part-long, start-next, start-within}
use Rattle.lists.specs.Parts.{first_length, parts_of, start_of}
use Rattle.logic.specs.Background.{Background}
use Rattle.names.proofs.Legality.AcceptedReadings.{any-input}
use Rattle.pairs.specs.Pairs.{pairs_reading, under}
use Rattle.slots.specs.Catalogue.{cut_reading}
use Rattle.slots.specs.Containment.{contained_bit, contained_row, contained_rows, plain_listed_reading, plain_services_reading, table_after, table_listed, table_reading}
use Rattle.slots.proofs.failing.JudgingLaws.{none-fails}
use Rattle.slots.specs.Holding.{failing_in}
use Rattle.slots.specs.code.Services.{ServicesRead, no_service}
use Rattle.slots.specs.declared.containment.Service.{Service}
use Rattle.std.specs.Prelude.{Err, IfSome, Ok, Option, eqb, is_some, not, unwrap_or}

-- ---- a service of a list

module _ {list : List ℕ} {of : List Service} {n : ℕ} (R : ServicesRead list of n) {i : ℕ} (h : i < n) where
  pub service-start : (get_or of i no_service).start ≤ length list
  service-start = omega (arith, R.starts i h, start-within list i)

  -- how the code cuts it out
  pub service-part : {len : ℕ} → len ≡ first_length (high_of (get_or of i no_service).start list)
      → take len (high_of (get_or of i no_service).start list) ≡ get_or (parts_of list) i []
  service-part {len} f =
      let g : len ≡ first_length (drop (get_or of i no_service).start list) = f ∙ ap first_length (high_is (get_or of i no_service).start list) in
      rw (high_is (get_or of i no_service).start list, g, R.starts i h) (part_at list i)

-- ---- services read in turn

-- n services are read, and the answer is what the others give
pub record ReadSoFar (list : List ℕ) (of : List Service) (n at : ℕ) (rest : List (List ℕ)) : Type 0 where
  pub left : drop n (parts_of list) ≡ rest
  pub few : n ≤ length (parts_of list)
  pub start : at ≡ start_of n list
  pub long : length of ≡ 64
  pub starts : (i : ℕ) → i < n → (get_or of i no_service).start ≡ start_of i list
  pub totals : (i : ℕ) → i < n → reading_of Description 2 (get_or (parts_of list) i []) ≡ Ok (get_or of i no_service).total
  pub same : plain_services_reading 2 (parts_of list) ≡ plain_services_reading (2 + n) rest

pub read-start : (list : List ℕ) (of : List Service) {rest : List (List ℕ)} → length of ≡ 64 → rest ≡ parts_of list → ReadSoFar list of 0 0 rest
unfolding start_of
read-start list of l e = record {
  left = sym e;
  few = omega arith;
  start = refl;
  long = l;
  starts = λ i h. absurd (omega arith);
  totals = λ i h. absurd (omega arith);
  same = rw e refl;
}

module _ {list : List ℕ} {of : List Service} {n at : ℕ} {rest : List (List ℕ)} (A : ReadSoFar list of n at rest) where
  module _ {part : List ℕ} {more : List (List ℕ)} (next : rest ≡ part ∷ more) where
    pub read-some : n < length (parts_of list)
    read-some = omega (arith, ap length A.left, ap length next, length-drop n (parts_of list))

    both : part ∷ more ≡ get_or (parts_of list) n [] ∷ drop (suc n) (parts_of list)
    both = sym (A.left ∙ next) ∙ drop-cons (parts_of list) n [] read-some

    part-is : part ≡ get_or (parts_of list) n []
    part-is = ap (λ (l : List (List ℕ)). get_or l 0 []) both

    more-is : drop (suc n) (parts_of list) ≡ more
    more-is = sym (ap (drop 1) both)

    next-start : at + length part ≡ start_of (suc n) list
    next-start = omega (arith, A.start, start-next list n, part-long list n, ap length part-is)

    -- the next begins within the list
    pub read-behind : at + length part ≤ length list
    read-behind = omega (arith, next-start, start-within list (suc n))

    pub read-refused : {x : Refusal} → reading_of Description (2 + n) part ≡ Err x → plain_services_reading 2 (parts_of list) ≡ Err x
    unfolding plain_services_reading
    read-refused e = A.same ∙ rw (next, plain_services_reading, e)

    pub read-more : {total : ℕ} → length (parts_of list) ≤ 64 → reading_of Description (2 + n) part ≡ Ok total
        → ReadSoFar list (set of n (record { start = at; total = total })) (n + 1) (at + length part) more
    unfolding plain_services_reading
    read-more {total} all e =
        let one : n + 1 ≡ suc n = omega arith in
        let room : n < length of = omega (arith, A.long, read-some) in
        let here : Service = record { start = at; total = total } in
        let two : 2 + (n + 1) ≡ suc (2 + n) = omega arith in
        record {
          left = rw one more-is;
          few = omega (arith, read-some);
          start = rw one next-start;
          long = length-set of n here ∙ A.long;
          starts = λ i h. eq-cases i n
              (λ q. rw q (ap (λ (s : Service). s.start) (get_or-set_same of n here no_service room) ∙ A.start))
              (λ q. ap (λ (s : Service). s.start) (get_or-set_other of n i here no_service q) ∙ A.starts i (omega arith));
          totals = λ i h. eq-cases i n
              (λ q. rw q (ap (reading_of Description 2) (sym part-is) ∙ any-input Description (2 + n) 2 part e ∙ ap (λ (s : Service). Ok s.total) (sym (get_or-set_same of n here no_service room))))
              (λ q. A.totals i (omega arith) ∙ ap (λ (s : Service). Ok s.total) (sym (get_or-set_other of n i here no_service q)));
          same = A.same ∙ rw (next, plain_services_reading, e, two) refl;
        }

  module _ (none : rest ≡ []) where
    read-count : n ≡ length (parts_of list)
    read-count = omega (arith, A.few, ap length (A.left ∙ none), length-drop n (parts_of list))

    -- the answer is 0 behind the last: how many there are is told apart
    pub read-end : plain_services_reading 2 (parts_of list) ≡ Ok 0
    unfolding plain_services_reading
    read-end = A.same ∙ rw none refl

    pub read-all : length (parts_of list) ≤ 64 → ServicesRead list of n
    read-all few = record { all = read-count; few = omega (arith, read-count); starts = A.starts; totals = A.totals }

-- ---- a row

-- one byte more of it
pub row-more : (b : Background) (all : List (List ℕ)) (c t : List ℕ) {t' : List ℕ} (at j : ℕ) {x : ℕ} → j < length all → t' ≡ stored t at (map (contained_bit b c) (take j all))
    → x ≡ contained_bit b c (get_or all j []) → set t' (at + j) x ≡ stored t at (map (contained_bit b c) (take (j + 1) all))
row-more b all c t {t'} at j {x} h e q =
    let done = map (contained_bit b c) (take j all) in
    let long : length done ≡ j = length-map (take j all) (contained_bit b c) ∙ length-take-le j all (omega arith) in
    stored-then t done (x ∷ []) at (at + j) e (stored_one t' (at + j) x) (omega arith)
    ∙ ap (stored t at) (ap (λ (y : ℕ). done ++ (y ∷ [])) q ∙ sym (map_more (contained_bit b c) all j [] h))

-- all of it
pub row-whole : (b : Background) (all : List (List ℕ)) (c t : List ℕ) {t' : List ℕ} (at j : ℕ) → j ≡ length all → t' ≡ stored t at (map (contained_bit b c) (take j all))
    → t' ≡ stored t at (contained_row b all c)
unfolding contained_row
row-whole b all c t at j h e = e ∙ ap (λ (l : List (List ℕ)). stored t at (map (contained_bit b c) l)) (take_all j all (omega (arith, h)))

-- its byte for a service, by what judging that one answers
pub bit-judged : (b : Background) (c d : List ℕ) (f : Option ℕ) (y : Bool) → IfSome f (λ n. 1 ≤ n) → unwrap_or f 0 ≡ failing_in b c d → is_some f ≡ not y
    → bit y ≡ contained_bit b c d
unfolding contained_bit
bit-judged b c d f y some e q = ap bit (none-fails f some y q ∙ ap (λ (n : ℕ). eqb n 0) e)

-- ---- the rows of all

pub row-of : (b : Background) (all : List (List ℕ)) (i : ℕ) → i < length all → get_or (contained_rows b all) i [] ≡ contained_row b all (get_or all i [])
unfolding contained_rows
row-of b all i h = get_d-map-in (contained_row b all) all [] [] i h

pub rows-many : (b : Background) (all : List (List ℕ)) → length (contained_rows b all) ≡ length all
unfolding contained_rows
rows-many b all = length-map all (contained_row b all)

pub row-long : (b : Background) (all : List (List ℕ)) (c : List ℕ) → length (contained_row b all c) ≡ length all
unfolding contained_row
row-long b all c = length-map all (contained_bit b c)

-- cell j of row i of the table
pub contained-cell : (b : Background) (all : List (List ℕ)) (t : List ℕ) (i j : ℕ) → length all ≤ 64 → 4096 ≤ length t → i < length all → j < length all
    → get_or (rows_at t 0 (contained_rows b all)) (64 * i + j) 0 ≡ contained_bit b (get_or all i []) (get_or all j [])
unfolding contained_row
contained-cell b all t i j few room hi hj =
    let rows = contained_rows b all in
    let many = rows-many b all in
    let row = row-of b all i hi in
    let narrow : Narrow rows = λ k l. let r = row-of b all k (omega (arith, many)) in omega (arith, ap length r, row-long b all (get_or all k [])) in
    row-cell rows t i j narrow (omega (arith, many)) (omega (arith, many)) (omega (arith, ap length row, row-long b all (get_or all i [])))
    ∙ ap (λ (r : List ℕ). get_or r j 0) row
    ∙ get_d-map-in (contained_bit b (get_or all i [])) all [] 0 j hj

-- ---- the list and its services

-- all that judging them does, with the table before and after
abbrev pub Tabulates : Background → List ℕ → List ℕ → Reading → List ℕ → Type 0
Tabulates b list t r t' = (r ≡ plain_listed_reading list) × (t' ≡ table_listed b list t)

module _ (b : Background) (list t : List ℕ) where
  pub list-cut : {x : Refusal} → cut_reading list ≡ Err x → Tabulates b list t (Err x) t
  unfolding plain_listed_reading table_listed
  list-cut e = (rw e refl, rw e refl)

  module _ {n : ℕ} (e : cut_reading list ≡ Ok n) where
    pub services-refused : {x : Refusal} → plain_services_reading 2 (parts_of list) ≡ Err x → Tabulates b list t (Err x) t
    unfolding plain_listed_reading table_listed
    services-refused f = (rw (e, f) refl, rw (e, f) refl)

    pub services-tabled : {k m : ℕ} {t' : List ℕ} → plain_services_reading 2 (parts_of list) ≡ Ok k → m ≡ length (parts_of list)
        → t' ≡ rows_at t 0 (contained_rows b (parts_of list)) → Tabulates b list t (Ok m) t'
    unfolding plain_listed_reading table_listed
    services-tabled f h g = (rw (e, f) (ap Ok h), rw (e, f) g)

-- ---- the pairs before them

module _ (P list t : List ℕ) where
  pub table-refused : {x : Refusal} → pairs_reading P ≡ Err x → (Err x ≡ table_reading P list) × (t ≡ table_after P list t)
  unfolding table_reading table_after
  table-refused e = (rw e refl, rw e refl)

  pub table-listed : {n : ℕ} → pairs_reading P ≡ Ok n → {r : Reading} {t' : List ℕ} → Tabulates (under P) list t r t'
      → (r ≡ table_reading P list) × (t' ≡ table_after P list t)
  unfolding table_reading table_after
  table-listed e j = (rw e j.0, rw e j.1)
