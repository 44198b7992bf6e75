-- Laws of the call: what is written for a table, and the ways to an answer.
-- Assumes nothing.
use Prim.Native.Nat.{◌*◌, ◌+◌, ◌-◌, ◌<◌, ◌≤◌, ℕ}
use lib.Dec.{eqb}
use lib.ListN.{drop, get_or, length, length-append, length-replicate, replicate}
use mathlib.Core.Bool.{Bool, not}
use mathlib.Core.List.{List, ◌++◌, append_assoc}
use mathlib.Core.Path.{◌∙◌, ◌≡◌, ap, refl}
use native.Mathlib.Nat.{mul-le-mul_left}
use native.Mathlib.Omega.{arith}
use Rattle.base.proofs.Lists.{length-listed, listed}
use Rattle.base.proofs.SearchLaws.{first-same}
use Rattle.base.proofs.StoresLaws.{stored-front, stored-then}
use Rattle.base.proofs.Tests.{bool_cases, ge-ltb, lt-ltb}
use Rattle.base.specs.Range.{bit}
use Rattle.base.specs.Stores.{rows_at, stored}
use Rattle.blocks.specs.Encoding.{joined}
use Rattle.blocks.specs.Reading.{Reading}
use Rattle.blocks.specs.Refusals.{refused, unless_refused}
use Rattle.blocks.specs.declared.Cause.TheVariants.{Room}
use Rattle.blocks.specs.declared.Refusal.{Refusal}
use Rattle.hierarchy.proofs.RowLaws.{direct-same, listed-same, rows-square, square-long, square-same}
use Rattle.hierarchy.proofs.WordLaws.{bit-told}
use Rattle.hierarchy.specs.Answer.{contains, hierarchy_of, hierarchy_size, ranked_of, ranks, square_rows}
use Rattle.hierarchy.specs.code.Words.{Flat, Rows, cell, rows_in}
use Rattle.lists.specs.Parts.{parts_of}
use Rattle.meaning.specs.Hierarchy.{alike, class_of, direct}
use Rattle.pairs.specs.Pairs.{pairs_reading, under}
use Rattle.slots.proofs.CutLaws.{cut-taken}
use Rattle.slots.proofs.ContainmentLaws.{contained-cell}
use Rattle.slots.specs.Catalogue.{cut_reading}
use Rattle.slots.specs.Containment.{contained_bit, contained_rows, plain_listed_reading, plain_services_reading, table_after, table_listed, table_reading}
use Rattle.slots.specs.Holding.{failing_in}
use Rattle.std.specs.Prelude.{Err, Ok}

-- ---- what is written

-- the table, the direct superiors and the classes, one behind the other
pub ranks-written : (t : ℕ → ℕ → Bool) (n : ℕ) (out : List ℕ) {up direct' out₁ out₂ out₃ : List ℕ} {at₁ at₂ : ℕ} → Rows t n n up → Rows (direct t n) n n direct'
    → out₁ ≡ stored out 0 (joined (rows_in up n)) → at₁ ≡ 0 + length (joined (rows_in up n)) → out₂ ≡ stored out₁ at₁ (joined (rows_in direct' n))
    → at₂ ≡ at₁ + length (joined (rows_in direct' n)) → out₃ ≡ stored out₂ at₂ (listed (class_of t n) 0 n) → out₃ ≡ stored out 0 (ranks t n)
unfolding ranks
ranks-written t n out {up} {direct'} {out₁} {out₂} {out₃} {at₁} {at₂} A B p l q m r =
    let X = joined (rows_in up n) in
    let Y = joined (rows_in direct' n) in
    let Z = listed (class_of t n) 0 n in
    let table = rows-square t n A in
    let superiors = rows-square (direct t n) n B in
    let first = stored-then out X Y 0 at₁ p q l in
    let second = stored-then out (X ++ Y) Z 0 at₂ first r (omega (arith, l, m, length-append X Y)) in
    second ∙ ap (stored out 0) (append_assoc X Y Z ∙ rw (table, superiors) refl)

-- tests that agree
pub ranks-same : (f g : ℕ → ℕ → Bool) (n : ℕ) → ((i j : ℕ) → i < n → j < n → f i j ≡ g i j) → ranks f n ≡ ranks g n
unfolding ranks class_of
ranks-same f g n h =
    let A = square-same f g n h in
    let B = square-same (direct f n) (direct g n) n (direct-same f g n h) in
    let C : listed (class_of f n) 0 n ≡ listed (class_of g n) 0 n =
    listed-same (class_of f n) (class_of g n) 0 n
    (λ i lo hi.
    first-same (λ k. not (alike f i (k - 1))) (λ k. not (alike g i (k - 1))) 1 n
    (λ k lo' hi'. let a = h i (k - 1) (omega arith) (omega arith) in let b = h (k - 1) i (omega arith) (omega arith) in rw (a, b) refl)) in
    rw (A, B, C) refl

-- how long it is
pub ranks-long : (f : ℕ → ℕ → Bool) (n : ℕ) → length (ranks f n) ≡ hierarchy_size n
unfolding ranks
ranks-long f n =
    let X = joined (square_rows f n) in
    let Y = joined (square_rows (direct f n) n) in
    let Z = listed (class_of f n) 0 n in
    omega (arith, length-append X (Y ++ Z), length-append Y Z, square-long f n, square-long (direct f n) n, length-listed (class_of f n) 0 n)

-- ---- a list that is accepted

-- nothing of it is refused
pub record Taken (P list : List ℕ) (n : ℕ) : Type 0 where
  pub pairs : ℕ
  pub list_read : pairs_reading P ≡ Ok pairs
  pub cut : cut_reading list ≡ Ok n
  pub count : n ≡ length (parts_of list)
  pub few : n ≤ 64
  pub judged : ℕ
  pub services : plain_services_reading 2 (parts_of list) ≡ Ok judged

goes : {X : Type 0} (r a : Reading) {n : ℕ} → unless_refused Err r a ≡ Ok n → ((m : ℕ) → r ≡ Ok m → a ≡ Ok n → X) → X
goes (Err x) a e f = cc
goes (Ok m) a e f = f m refl e

module _ (P list : List ℕ) {n : ℕ} (e : table_reading P list ≡ Ok n) where
  pub table-taken : Taken P list n
  unfolding table_reading plain_listed_reading
  table-taken =
      goes (pairs_reading P) (plain_listed_reading list) e (λ m l e₁.
      goes (cut_reading list) _ e₁ (λ t q e₂.
      goes (plain_services_reading 2 (parts_of list)) (Ok (length (parts_of list))) e₂ (λ j r e₃.
      let is : n ≡ length (parts_of list) = cc in
      let c = cut-taken list q in
      let same : t ≡ n = omega (arith, c.0) in
      record {
        pairs = m;
        list_read = l;
        cut = q ∙ ap Ok same;
        count = is;
        few = omega (arith, c.1, same);
        judged = j;
        services = r;
      })))

  -- what is written is no longer than a number of 16 bits says
  pub size-few : hierarchy_size n ≤ 8256
  size-few = let few = table-taken.few in omega (arith, mul-le-mul_left n few)

  -- its table
  table-is : (zeros : List ℕ) → table_after P list zeros ≡ rows_at zeros 0 (contained_rows (under P) (parts_of list))
  unfolding table_after table_listed plain_listed_reading
  table-is zeros = let T = table-taken in rw (T.list_read, T.cut, T.services) refl

  pub table-cell : {table : List ℕ} → table ≡ table_after P list (replicate 4096 0) → (i j : ℕ) → i < n → j < n → get_or table (64 * i + j) 0 ≡ bit (contains P list i j)
  unfolding contained_bit failing_in
  table-cell q i j hi hj =
      let T = table-taken in
      let zeros = replicate {A = ℕ} 4096 0 in
      let all = parts_of list in
      ap (λ (s : List ℕ). get_or s (64 * i + j) 0) (q ∙ table-is zeros)
      ∙ contained-cell (under P) all zeros i j (omega (arith, T.count, T.few)) (omega (arith, length-replicate {A = ℕ} 4096 0)) (omega (arith, T.count)) (omega (arith, T.count))

  -- each of its bytes is 1 or 0
  pub table-flat : {table : List ℕ} → table ≡ table_after P list (replicate 4096 0) → Flat n table
  table-flat q i j hi hj = bool_cases (contains P list i j) (λ b. omega (arith, table-cell q i j hi hj, ap bit b)) (λ b. omega (arith, table-cell q i j hi hj, ap bit b))

  -- and what is read off it is read off the comparisons
  pub table-ranks : {table : List ℕ} → table ≡ table_after P list (replicate 4096 0) → ranks (cell table) n ≡ ranks (contains P list) n
  table-ranks {table} q =
      ranks-same (cell table) (contains P list) n
      (λ i j hi hj. ap (λ (x : ℕ). eqb x 1) (table-cell q i j hi hj) ∙ bit-told (contains P list i j))

-- ---- the ways to an answer

module _ (P list out : List ℕ) where
  pub answer-refused : {x : Refusal} → table_reading P list ≡ Err x → (Err x ≡ hierarchy_of P list out) × (out ≡ ranked_of P list out)
  unfolding hierarchy_of ranked_of
  answer-refused e = (rw e refl, rw e refl)

  module _ {n : ℕ} (e : table_reading P list ≡ Ok n) where
    pub answer-short : length out < hierarchy_size n → (refused Room 0 0 ≡ hierarchy_of P list out) × (out ≡ ranked_of P list out)
    unfolding hierarchy_of ranked_of
    answer-short h = let c = (table-taken P list e).count in let l = lt-ltb (rw c at h) in (rw (e, l) refl, rw (e, l) refl)

    pub answer-ranked : hierarchy_size n ≤ length out → {table new : List ℕ} → table ≡ table_after P list (replicate 4096 0) → new ≡ stored out 0 (ranks (cell table) n)
        → (Ok (hierarchy_size n) ≡ hierarchy_of P list out) × (new ≡ ranked_of P list out)
    unfolding hierarchy_of ranked_of
    answer-ranked h {table} q w =
        let c = (table-taken P list e).count in
        let l = ge-ltb (rw c at h) in
        let f = contains P list in
        let is = table-ranks P list e q in
        let long = ranks-long f n in
        let front : stored out 0 (ranks f n) ≡ ranks f n ++ drop (hierarchy_size n) out = stored-front out (ranks f n) (omega arith) ∙ ap (λ (k : ℕ). ranks f n ++ drop k out) long in
        let whole = w ∙ ap (stored out 0) is ∙ front in
        (rw (e, l) (ap (λ (k : ℕ). Ok (hierarchy_size k)) c), rw (e, l) (rw c at whole))
