-- The two calls, step by step: refused by the blocks or an entry, too short, or written.
-- Assumes nothing.
use Rattle.std.proofs.Common.{◌≡◌, ◌≢◌, ℕ, zero, suc, ◌+◌, ◌-◌, ◌*◌, ◌/◌, ◌%◌, ◌<◌, ◌≤◌, false, not, ◌||◌, eqb, ltb, List, [], ◌∷◌, ◌++◌, map, length, take, drop, get_or, Result, Ok, Err, refl, sym, ap, ◌∙◌, arith}
use lib.Seq.{take-append_seam}
use native.Mathlib.Numerals.{one-add}
use Rattle.base.proofs.Lists.{get_d-listed, length-listed}
use Rattle.base.proofs.StoresLaws.{length-stored, stored-front}
use Rattle.base.proofs.Tests.{eq-eqb, ge-ltb, gt-leb, le-leb, lt-cases, lt-ltb, ne_eqb, neither_left, neither_right, or-none, tests}
use Rattle.base.specs.Stores.{stored}
use Rattle.blocks.proofs.Format.Lawful.{stored-lawful}
use Rattle.blocks.proofs.Format.WordBytes.{Bytes}
use Rattle.blocks.proofs.Refusing.BlockLaws.{blocks-none}
use Rattle.blocks.proofs.Refusing.Bounds.{AllBounded}
use Rattle.blocks.proofs.Refusing.FirstFault.{clean-none, first-append}
use Rattle.blocks.proofs.Refusing.Readings.{accepted-finding, refused-finding}
use Rattle.blocks.proofs.RoundTrip.Accepting.{packed-bytes}
use Rattle.blocks.proofs.RoundTrip.Faithful.{total-rows-bound}
use Rattle.blocks.proofs.RoundTrip.Unbroken.{Unbroken}
use Rattle.blocks.specs.Encoding.{blocks_for, bytes_written, encode, encode_rows, framed_bytes, framed_written, row_bytes, written}
use Rattle.blocks.specs.Entries.{entry_bytes, packed, zero_entry}
use Rattle.blocks.specs.Faults.{Fault, first, frame_faults, length_over, length_wrong, rows_from}
use Rattle.blocks.specs.Frame.{Frame, blocks_in, plain, stored_frame, total_in}
use Rattle.blocks.specs.Promise.{NoneApplies}
use Rattle.blocks.specs.Reading.{Reading, answer}
use Rattle.blocks.specs.Refusals.{refused}
use Rattle.blocks.specs.declared.Cause.TheVariants.{Room}
use Rattle.blocks.specs.declared.Entry.{Entry}
use Rattle.blocks.specs.declared.Refusal.{Refusal}
use Rattle.blocks.specs.declared.Schema.TheVariants.{Description}
use Rattle.stored.proofs.RestoredLaws.{length-stored-entries, nth-stored}
use Rattle.stored.proofs.StoredBytes.{StoredBounded, entries-bounded}
use Rattle.stored.specs.Answer.{answered, left_after, restored_in, restored_of}
use Rattle.stored.specs.Stored.{owned_entry, stored_entries, stored_nth}
use Rattle.stored.specs.Walking.{nearest, restored, stored_faults, stored_owner, stored_reading, stored_rows}
use Rattle.stored.specs.code.Steps.{There}
use Rattle.stored.specs.declared.StoredEntry.{StoredEntry}

-- ---- an output

module _ (F : Frame) (most bytes given count : ℕ) (have : count ≤ given) (few : count ≤ most) where
  -- nothing is written exactly where the output is too short
  pub none-short : framed_bytes F most bytes given count ≡ 0 → bytes < 512 * blocks_for F count
  unfolding blocks_for
  none-short z =
      lt-cases bytes (512 * blocks_for F count)
      (λ h. h)
      (λ h. let e : 512 * blocks_for F count ≡ 0 = rw (le-leb have, le-leb few, le-leb h) at z in absurd (omega (arith, e)))

  pub some-room : framed_bytes F most bytes given count ≢ 0 → 512 * blocks_for F count ≤ bytes
  some-room z =
      lt-cases bytes (512 * blocks_for F count)
      (λ h. absurd (z (rw (le-leb have, le-leb few, gt-leb h) refl)))
      (λ h. h)

-- where it has room, the rows are written
pub framed-all : (F : Frame) (row : ℕ → List ℕ) (most : ℕ) (out rows : List ℕ) (count : ℕ) → framed_bytes F most (length out) (length rows) count ≢ 0
    → framed_written F row most out rows count ≡ encode_rows F (map row (take count rows)) ++ drop (512 * blocks_for F count) out
framed-all F row most out rows count z = rw (ne_eqb z) refl

-- the first rows of a table in which they are stored
pub taken-stored : (start X : List ℕ) (count : ℕ) {rows : List ℕ} → rows ≡ stored start 0 X → count ≡ length X → length X ≤ length start
    → (take count rows ≡ X) × (length rows ≡ length start)
taken-stored start X count {rows} e c h =
    (rw (e, c, stored-front start X h) (take-append_seam X (drop (length X) start)), ap length e ∙ length-stored start X 0)

-- ---- answers

module _ (F : Frame) (r : Reading) (blocks : List ℕ) (n : ℕ) (out : List ℕ) where
  pub answered-refused : {x : Refusal} → r ≡ Err x → (Err x ≡ answered F r n out) × (out ≡ left_after F r blocks n out)
  answered-refused e = rw e (refl, refl)

  pub answered-short : {m : ℕ} → r ≡ Ok m → length out < 512 * blocks_for F n → (refused Room 0 0 ≡ answered F r n out) × (out ≡ left_after F r blocks n out)
  answered-short e h = rw (e, lt-ltb h) (refl, refl)

  pub answered-written : {m : ℕ} → r ≡ Ok m → 512 * blocks_for F n ≤ length out
      → (Ok n ≡ answered F r n out) × (blocks ++ drop (512 * blocks_for F n) out ≡ left_after F r blocks n out)
  answered-written e h = rw (e, ge-ltb h) (refl, refl)

-- ---- reading in the stored form

-- 12 blocks are within the 16 of a description
pub over-more : (s : List ℕ) → length_over 12 s ≡ false → (length_wrong Description s ≡ false) × (length s ≤ 6144)
unfolding length_wrong
over-more s h =
    let a = eqb (length s) 0 in
    let b = not (eqb (length s % 512) 0) in
    let c = ltb 6144 (length s) in
    let r = neither_right a (b || c) h in
    let l : length s ≤ 6144 = let q : ltb 6144 (length s) ≡ false = neither_right b c r in omega tests in
    (or-none (neither_left a (b || c) h) (or-none (neither_left b c r) (ge-ltb (omega arith))), l)

module _ (s : List ℕ) {r : Reading} (e : r ≡ answer 1 (total_in stored_frame s) (first (frame_faults stored_frame 12 s))) where
  abbrev front : List Fault
  front = frame_faults stored_frame 12 s

  abbrev rows : List Fault
  rows = rows_from (stored_rows (stored_entries s)) 1 (length (stored_entries s))

  pub blocks-refused : {x : Refusal} → r ≡ Err x → stored_reading s ≡ Err x
  unfolding stored_reading stored_faults
  blocks-refused {x} q =
      let f = refused-finding 1 (total_in stored_frame s) (first front) {k = x.cause} {j = x.input} {p = x.place} (sym e ∙ q) in
      rw (stored_reading, stored_faults, first-append front rows, f.1, ← f.0) refl

  module _ {n : ℕ} (q : r ≡ Ok n) where
    pub blocks-unbroken : Unbroken stored_frame Description s × (length s ≤ 6144)
    unfolding NoneApplies
    blocks-unbroken =
        let f = accepted-finding 1 (total_in stored_frame s) (first front) (sym e ∙ q) in
        let h = clean-none front f.1 in
        let m = blocks_in s in
        let l = over-more s h.0 in (
          record {
            length = l.0;
            check = λ k l. (blocks-none stored_frame s m 0 m h.1 k (omega arith) (omega arith)).0;
            frame = λ k l. (blocks-none stored_frame s m 0 m h.1 k (omega arith) (omega arith)).1;
          },
          l.1,
        )

    pub blocks-there : (n ≡ length (stored_entries s)) × (n ≤ 1008) × There s n
    unfolding blocks_in
    blocks-there =
        let f = accepted-finding 1 (total_in stored_frame s) (first front) (sym e ∙ q) in
        let u = blocks-unbroken in
        let t : total_in stored_frame s ≤ 84 * (length s / 512) = total-rows-bound stored_frame stored-lawful u.0 in
        let c : n ≡ length (stored_entries s) = f.0 ∙ sym (length-stored-entries s) in
        (c, omega (arith, f.0, t, u.1), omega (arith, f.0, t))

    pub blocks-accepted : stored_reading s ≡ answer 1 n (first rows)
    unfolding stored_reading stored_faults
    blocks-accepted =
        let f = accepted-finding 1 (total_in stored_frame s) (first front) (sym e ∙ q) in
        rw (stored_reading, stored_faults, first-append front rows, f.1, f.0) refl

    -- then an entry refuses, or none
    pub entry-refuses : {a : Result (Unit {0}) Refusal} → a ≡ answer 1 tt (first rows) → {x : Refusal} → a ≡ Err x → stored_reading s ≡ Err x
    entry-refuses g {x} z =
        let f = refused-finding 1 tt (first rows) {k = x.cause} {j = x.input} {p = x.place} (sym g ∙ z) in
        blocks-accepted ∙ rw (f.1, ← f.0) refl

    pub none-refuses : {a : Result (Unit {0}) Refusal} → a ≡ answer 1 tt (first rows) → {u : Unit {0}} → a ≡ Ok u → stored_reading s ≡ Ok n
    none-refuses g {u} z =
        let f = accepted-finding 1 tt (first rows) (sym g ∙ z) in
        blocks-accepted ∙ rw f.1 refl

-- ---- the entries written

pub nearest-most : (xs : List StoredEntry) (d n : ℕ) → nearest xs d n ≤ n
unfolding nearest
nearest-most xs d zero = omega arith
nearest-most xs d (suc k) = lt-cases (stored_nth xs (suc k)).depth d (λ h. rw (lt-ltb h) (omega arith)) (λ h. rw (ge-ltb h) (let i = nearest-most xs d k in omega arith))

-- entry n of the description that stored entries are
pub restored-at : (xs : List StoredEntry) (k : ℕ) → k < length xs → get_or (restored xs) k zero_entry ≡ owned_entry (stored_owner xs (suc k)) (stored_nth xs (suc k))
unfolding restored
restored-at xs k h = get_d-listed (λ n. owned_entry (stored_owner xs n) (stored_nth xs n)) 1 (length xs) zero_entry k h ∙ rw (one-add k) refl

pub length-restored : (xs : List StoredEntry) → length (restored xs) ≡ length xs
unfolding restored
length-restored xs = length-listed (λ n. owned_entry (stored_owner xs n) (stored_nth xs n)) 1 (length xs)

-- their fields fit their bytes
pub restored-bounded : (s : List ℕ) → Bytes s → length (stored_entries s) ≤ 1008 → AllBounded (restored (stored_entries s))
unfolding stored_owner
restored-bounded s b few = record {
  each = λ k h.
      let xs : List StoredEntry = stored_entries s in
      let l : k < length xs = omega (arith, length-restored xs) in
      let x = nth-stored s k (omega (arith, length-stored-entries s)) in
      let B : StoredBounded (stored_nth xs (suc k)) = rw x (entries-bounded s b (k + 1)) in
      let near = nearest-most xs (stored_nth xs (suc k)).depth (suc k - 1) in
      rw (restored-at xs k l)
      (record { kind = B.kind; reserved = omega arith; owner = omega (arith, near); name = B.name; number = B.number });
}

-- the bytes of packed entries are the entries'
packed-rows : (es : List Entry) → AllBounded es → map row_bytes (map packed es) ≡ map entry_bytes es
packed-rows [] b = refl
packed-rows (e ∷ es) b = rw (packed-bytes e (b.each 0 (omega arith)), packed-rows es (record { each = λ j h. b.each (suc j) (omega arith) }))

-- the first rows are the description's blocks
pub restored-blocks : (s out rows : List ℕ) (n : ℕ) → Bytes s → n ≡ length (stored_entries s) → n ≤ 1008
    → take n rows ≡ map packed (restored (stored_entries s)) → bytes_written (length out) (length rows) n ≢ 0
    → written out rows n ≡ encode (restored (stored_entries s)) ++ drop (512 * blocks_for plain (length (stored_entries s))) out
unfolding written bytes_written encode
restored-blocks s out rows n b c few t z =
    let xs : List StoredEntry = stored_entries s in
    rw (written, ne_eqb z, t, packed-rows (restored xs) (restored-bounded s b (omega arith)), ← c) refl

-- ---- from the stored form, step by step

module _ (s out : List ℕ) where
  pub from-refused : {x : Refusal} → stored_reading s ≡ Err x → (Err x ≡ restored_of s out) × (out ≡ restored_in s out)
  unfolding restored_of restored_in
  from-refused e = answered-refused plain (stored_reading s) (encode (restored (stored_entries s))) (length (stored_entries s)) out e

  module _ (rows : List ℕ) (n m : ℕ) (r : stored_reading s ≡ Ok m) (c : n ≡ length (stored_entries s)) (few : n ≤ 1008) (have : n ≤ length rows)
      {w : ℕ} {out' : List ℕ} (f : w ≡ bytes_written (length out) (length rows) n) (g : out' ≡ written out rows n) where
    pub from-short : w ≡ 0 → (refused Room 0 0 ≡ restored_of s out) × (out' ≡ restored_in s out)
    unfolding restored_of restored_in written bytes_written
    from-short z =
        let a = answered-short plain (stored_reading s) (encode (restored (stored_entries s))) (length (stored_entries s)) out r
        (rw (← c) (none-short plain 2016 (length out) (length rows) n have (omega arith) (sym f ∙ z))) in
        (a.0, g ∙ rw (written, eq-eqb (sym f ∙ z)) refl ∙ a.1)

    pub from-written : Bytes s → take n rows ≡ map packed (restored (stored_entries s)) → w ≢ 0 → (Ok n ≡ restored_of s out) × (out' ≡ restored_in s out)
    unfolding restored_of restored_in bytes_written
    from-written b t z =
        let a = answered-written plain (stored_reading s) (encode (restored (stored_entries s))) (length (stored_entries s)) out r
        (rw (← c) (some-room plain 2016 (length out) (length rows) n have (omega arith) (λ q. z (f ∙ q)))) in
        (ap (λ (k : ℕ). Ok k) c ∙ a.0, g ∙ restored-blocks s out rows n b c few t (λ q. z (f ∙ q)) ∙ a.1)
