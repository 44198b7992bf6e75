-- What the calls write, and what they answer.
-- Assumes nothing.
use Prim.Native.Nat.{◌*◌, ◌<◌, ◌≤◌, ℕ}
use lib.Dec.{eqb, leb}
use lib.Seq.{take_all}
use lib.ListN.{length, length-map, take}
use mathlib.Core.Bool.{cond, false, true}
use mathlib.Core.List.{List, [], ◌∷◌, map}
use mathlib.Core.Logic.{◌≢◌}
use mathlib.Core.Path.{◌∙◌, ◌≡◌, ap, refl, subst, sym}
use native.Mathlib.Omega.{arith}
use Rattle.base.proofs.Tests.{bool_cases, ge-ltb, le-leb, lt-ltb, tests}
use Rattle.blocks.proofs.Refusing.Readings.{reading-cases}
use Rattle.blocks.proofs.RoundTrip.Decoding.{length-encode}
use Rattle.blocks.proofs.RoundTrip.Faithful.{entries-whole}
use Rattle.blocks.specs.Encoding.{blocks_for, bytes_written, encode, row_bytes, written}
use Rattle.blocks.specs.Entries.{entries_of, entry_bytes}
use Rattle.blocks.specs.Frame.{plain}
use Rattle.blocks.specs.Refusals.{unless_refused, refused}
use Rattle.blocks.specs.code.Blockwise.{Whole}
use Rattle.blocks.specs.declared.Entry.{Entry}
use Rattle.std.specs.Prelude.{Result, Ok, Err}
use Rattle.blocks.specs.Reading.{Reading}
use Rattle.names.proofs.Legality.NamedReadings.{small_of, taken-not-large}
use Rattle.names.specs.NamedReading.{dictionary_of, dictionary_reading, named_reading, named_unfolding, plain_of, unfolding_of}
use Rattle.names.specs.Promise.{LegalNamed}
use Rattle.names.specs.Unfold.{unfolded_by}
use Rattle.unfolding.proofs.RowLaws.{row-bytes, rows-length}
use Rattle.unfolding.specs.Answer.{both_of, over, second_after, short_by, unfold_at, unfolded_at}
use Rattle.unfolding.specs.code.Known.{MeasuredBy}
use Rattle.unfolding.specs.code.Rows.{entries_in, entry_of_row}
use Rattle.unfolding.specs.declared.Measured.{Measured}
use Rattle.blocks.specs.declared.Refusal.{Refusal}
use Rattle.blocks.specs.declared.Cause.TheVariants.{Room}

-- ---- a description that is read

-- it is taken, with n entries, which can be gone over
pub record Took (K : List (List Entry)) (i : ℕ) (s : List ℕ) (n : ℕ) : Type 0 where
  pub reading : named_reading K i s ≡ Ok n
  pub count : n ≡ length (entries_of s)
  pub whole : Whole s n
  pub few : n ≤ 1008
  pub legal : LegalNamed (length K) (entries_of s)
  pub small : length (unfolded_by K (entries_of s)) ≤ 1008

module _ (K : List (List Entry)) (i : ℕ) (s : List ℕ) {r : Result Measured Refusal} (M : MeasuredBy K i s r) where
  pub read-refused : {e : Refusal} → r ≡ Err e → Err e ≡ named_unfolding K i s
  unfolding named_unfolding
  read-refused {e} h = let q : named_reading K i s ≡ Err e = subst (MeasuredBy K i s) h M in rw q

  pub read-took : {m : Measured} → r ≡ Ok m → Took K i s m.total
  read-took {m} e =
      let t = subst (MeasuredBy K i s) e M in
      record {
        reading = t.0;
        count = t.1;
        whole = let c = t.1 in rw c (entries-whole t.6);
        few = t.2;
        legal = t.5;
        small = (small_of (unfolded_by K (entries_of s)) (taken-not-large K i s t.0)).size;
      }

-- unfolded, it has so many entries
pub took-unfolds : {K : List (List Entry)} {i : ℕ} {s : List ℕ} {n u : ℕ} → Took K i s n → u ≡ length (unfolded_by K (entries_of s))
    → Ok u ≡ named_unfolding K i s
unfolding named_unfolding
took-unfolds T e = let q = T.reading in rw (q, e)

-- ---- what is written

entries-bytes : (l : List ℕ) → map entry_bytes (map entry_of_row l) ≡ map row_bytes l
entries-bytes [] = refl
entries-bytes (x ∷ l) = rw (row-bytes x, entries-bytes l)

module _ (out rows : List ℕ) (n : ℕ) (given : n ≤ length rows) (few : n ≤ 1008) where
  -- the bytes that so many entries take
  bytes-by : bytes_written (length out) (length rows) n ≡ cond (leb (512 * blocks_for plain n) (length out)) (512 * blocks_for plain n) 0
  unfolding bytes_written
  bytes-by = let a : leb n 2016 ≡ true = omega tests in rw (le-leb given, a)

  some_bytes : 0 < 512 * blocks_for plain n
  unfolding blocks_for
  some_bytes = omega arith

  module _ {r : ℕ} (e : r ≡ bytes_written (length out) (length rows) n) where
    -- where nothing is written, the output is too short, and stays
    pub short-written : r ≡ 0 → (length out < 512 * blocks_for plain n) × (written out rows n ≡ out)
    unfolding written
    short-written z =
        let none : eqb (bytes_written (length out) (length rows) n) 0 ≡ true = omega tests in (
          bool_cases (leb (512 * blocks_for plain n) (length out))
              (λ q. let w = rw q at bytes-by in absurd (omega (arith, some_bytes)))
              (λ q. omega tests),
          rw none,
        )

    -- else it has the entries' blocks
    pub long-written : r ≢ 0 → (512 * blocks_for plain n ≤ length out) × (written out rows n ≡ over (encode (entries_in rows n)) out)
    unfolding written encode
    long-written z =
        let some : eqb (bytes_written (length out) (length rows) n) 0 ≡ false = omega tests in
        let size : length (encode (entries_in rows n)) ≡ 512 * blocks_for plain n = length-encode (entries_in rows n) ∙ ap (λ (k : ℕ). 512 * blocks_for plain k) (rows-length rows n given) in (
          bool_cases (leb (512 * blocks_for plain n) (length out))
              (λ q. omega tests)
              (λ q. let w = rw q at bytes-by in absurd (omega arith)),
          rw (some, ← size, entries-bytes (take n rows)),
        )

-- the whole of a table
pub all-rows : (rows : List ℕ) {es : List Entry} → map entry_of_row rows ≡ es → (entries_in rows (length rows) ≡ es) × (length rows ≡ length es)
all-rows rows q = (ap (map entry_of_row) (take_all (length rows) rows (omega arith)) ∙ q, sym (length-map rows entry_of_row) ∙ ap length q)

-- ---- the answer of a call that writes

module _ (K : List (List Entry)) (i : ℕ) (s out : List ℕ) {r : Reading} (e : r ≡ named_unfolding K i s) where
  pub writes_short : {n : ℕ} → r ≡ Ok n → length out < 512 * blocks_for plain n → refused Room 0 0 ≡ short_by out (named_unfolding K i s)
  writes_short q l = rw (← e, q, lt-ltb l)

  pub writes-all : {n : ℕ} → r ≡ Ok n → 512 * blocks_for plain n ≤ length out → Ok n ≡ short_by out (named_unfolding K i s)
  writes-all q l = rw (← e, q, ge-ltb l)

-- what is unfolded has as many entries as is answered
pub unfolds-many : (K : List (List Entry)) (i : ℕ) (s : List ℕ) {r : Reading} {n : ℕ} → r ≡ named_unfolding K i s → r ≡ Ok n → n ≡ length (unfolded_by K (entries_of s))
unfolding named_unfolding
unfolds-many K i s {r} {n} e q =
    reading-cases (named_reading K i s)
    (λ k j p h. let f : Ok n ≡ refused k j p = sym q ∙ e ∙ rw h in let z : ◌≡◌ {A = ℕ} 0 1 = cc in absurd (omega arith))
    (λ m h.
    let f : Ok n ≡ Ok (length (unfolded_by K (entries_of s))) = sym q ∙ e ∙ rw h in
    cc)

-- ---- a dictionary, and what comes after it

module _ (D : List ℕ) (i : ℕ) (s : List ℕ) {r : Reading} (e : r ≡ dictionary_reading D) where
  pub dictionary-stops : {x : Refusal} → r ≡ Err x → unfolding_of D i s ≡ Err x
  unfolding unfolding_of
  dictionary-stops q = rw (← e, q)

  pub dictionary-goes : {n : ℕ} → r ≡ Ok n → unfolding_of D i s ≡ named_unfolding (dictionary_of D) i s
  unfolding unfolding_of
  dictionary-goes q = rw (← e, q)

-- ---- the answers

module _ (D : List ℕ) (i : ℕ) (s out : List ℕ) where
  pub unfold-stops : {x : Refusal} → unfolding_of D i s ≡ Err x → (Err x ≡ unfold_at D i s out) × (out ≡ unfolded_at D i s out)
  unfolding unfold_at unfolded_at
  unfold-stops e = (rw e, rw e)

  pub unfold-goes : {r : Reading} {after : List ℕ} → unfolding_of D i s ≡ named_unfolding (dictionary_of D) i s → r ≡ short_by out (named_unfolding (dictionary_of D) i s)
      → after ≡ unless_refused (λ e. out) r (over (plain_of D s) out) → (r ≡ unfold_at D i s out) × (after ≡ unfolded_at D i s out)
  unfolding unfold_at unfolded_at
  unfold-goes {r} e q w =
      let a : r ≡ unfold_at D i s out = q ∙ ap (short_by out) (sym e) in
      (a, w ∙ ap (λ (x : Reading). unless_refused (λ e. out) x (over (plain_of D s) out)) a)

-- ---- two descriptions

module _ (D c d a b : List ℕ) where
  -- nothing is unfolded
  pub both-stops : {x : Refusal} → unfolding_of D 1 c ≡ Err x
      → (Err x ≡ both_of D c d a b) × ((a ≡ unfolded_at D 1 c a) × (b ≡ second_after D c d a b))
  unfolding both_of unfold_at unfolded_at second_after
  both-stops e = (rw e, (rw e, rw e))

  -- the first is refused
  pub both_first : {r : Reading} {x : Refusal} → r ≡ unfold_at D 1 c a → r ≡ Err x → (Err x ≡ both_of D c d a b) × (b ≡ second_after D c d a b)
  unfolding both_of second_after
  both_first e q = let f = sym e ∙ q in (rw f, rw f)

  module _ {r : Reading} {n : ℕ} (e : r ≡ unfold_at D 1 c a) (q : r ≡ Ok n) {after : List ℕ} (w : after ≡ unfolded_at D 2 d b) where
    there : after ≡ second_after D c d a b
    unfolding second_after
    there = let f = sym e ∙ q in w ∙ rw f

    -- the second is
    pub both-second : {t : Reading} {x : Refusal} → t ≡ unfold_at D 2 d b → t ≡ Err x → (Err x ≡ both_of D c d a b) × (after ≡ second_after D c d a b)
    unfolding both_of
    both-second g h = let f = sym e ∙ q in let f' = sym g ∙ h in (rw (f, f'), there)

    pub both-unfolded : {t : Reading} {m : ℕ} → t ≡ unfold_at D 2 d b → t ≡ Ok m → (Ok (n, m) ≡ both_of D c d a b) × (after ≡ second_after D c d a b)
    unfolding both_of
    both-unfolded g h = let f = sym e ∙ q in let f' = sym g ∙ h in (rw (f, f'), there)
