-- The answer by the ways to it, and the output after it.
-- Assumes nothing.
use Prim.Native.Nat.{◌*◌, ◌+◌, ◌<◌, ◌≤◌, suc, ℕ}
use lib.Dec.{ltb}
use lib.ListN.{get_or, length, length-map, take}
use mathlib.Core.List.{List, map}
use mathlib.Core.Path.{◌∙◌, ◌≡◌, ap, refl}
use native.Mathlib.Omega.{arith}
use Rattle.base.proofs.Tests.{ge-ltb, lt-ltb, or-none, or_right}
use Rattle.blocks.proofs.Refusing.Bounds.{AllBounded}
use Rattle.blocks.proofs.Refusing.Legal.{owner-earlier}
use Rattle.blocks.proofs.Refusing.Readings.{reading-cases}
use Rattle.blocks.proofs.RoundTrip.Accepting.{accepted-by-none, none-of-accepted, written-encodes}
use Rattle.blocks.specs.Encoding.{blocks_for, written}
use Rattle.blocks.specs.Entries.{entries_of, nth, packed, zero_entry}
use Rattle.blocks.specs.Faults.{Clean, Faulty, Finding, faults, first}
use Rattle.blocks.specs.Frame.{plain}
use Rattle.blocks.specs.Owners.{owner_of}
use Rattle.blocks.specs.Promise.{Legal}
use Rattle.blocks.specs.Reading.{answer, reading_of}
use Rattle.blocks.specs.Refusals.{refusal, refused, unless_refused}
use Rattle.blocks.specs.Words.{word_at}
use Rattle.blocks.specs.declared.Cause.TheVariants.{Length, Room}
use Rattle.blocks.specs.declared.Entry.{Entry}
use Rattle.blocks.specs.declared.Refusal.{Refusal}
use Rattle.blocks.specs.declared.Schema.TheVariants.{Description}
use Rattle.logic.proofs.NormalForm.IsNormal.{nf-normal}
use Rattle.logic.proofs.NormalForm.NormalFields.{Stored, nf-stored}
use Rattle.logic.proofs.TreeRows.AllEntries.{AllEntries, OfRow, row-all, write-all}
use Rattle.logic.specs.Layout.{write}
use Rattle.logic.specs.Normal.{nf}
use Rattle.logic.specs.Place.{Atom, atom, has, lacks, least, most, nothing}
use Rattle.logic.specs.Tree.{Row, leaf_row, node_row}
use Rattle.meaning.proofs.Descriptions.EntryFields.{Word, bounded_words, place-fields}
use Rattle.meaning.specs.Description.{place_of}
use Rattle.meaning.specs.Failing.{normal_of}
use Rattle.meaning.specs.RowEntries.{row_entry}
use Rattle.narrow.proofs.Joining.NarrowestKept.{narrowest-all, narrowest-legal}
use Rattle.narrow.specs.Join.{narrowest}
use Rattle.narrow.specs.Narrowest.{narrowest_entries, narrowest_place}
use Rattle.narrow_listed.proofs.AcceptedLegal.{legal-read}
use Rattle.narrow_listed.proofs.NamesListed.{excluded-named, excluded-positive, names-ascend}
use Rattle.narrow_listed.specs.Listed.{names_in, narrowest_under}
use Rattle.narrowest.proofs.answer.FormedLaws.{formed-law, formed-place, input-bounded}
use Rattle.narrowest.proofs.meant.LackedLaws.{excluded-small}
use Rattle.narrowest.specs.Answer.{laid, narrowed_of, narrowest_of, narrowest_room}
use Rattle.narrowest.specs.code.Formed.{result_entries, result_place, room_for}
use Rattle.narrowest.specs.code.Pushes.{Counted}
use Rattle.normal.proofs.NormalWritten.{written-front}
use Rattle.normal.specs.code.Formed.{FormRows, form_reading, form_under}
use Rattle.pairs.specs.Pairs.{pair_count, pairs_reading, under}
use Rattle.std.specs.Prelude.{Err, Ok}

-- ---- refused, or not

module _ (P a b out : List ℕ) where
  -- a refusal leaves the output
  pub narrowed-refused : {e : Refusal} → narrowest_of P a b out ≡ Err e → narrowed_of P a b out ≡ out
  unfolding narrowed_of
  narrowed-refused h = rw h refl

  pub narrowed-written : {n : ℕ} → narrowest_of P a b out ≡ Ok n → narrowed_of P a b out ≡ laid (narrowest_under P a b) out
  unfolding narrowed_of
  narrowed-written h = rw h refl

  -- the list first, then the first description
  pub first-refused : {e : Refusal} → form_reading P a ≡ Err e → narrowest_of P a b out ≡ Err e
  unfolding form_reading form_under narrowest_of
  first-refused {e} h =
      reading-cases (pairs_reading P)
      (λ k i p q. rw q (rw q at h))
      (λ n q.
      reading-cases (reading_of Description 1 a)
      (λ k i p r. rw (q, r) (rw (q, r) at h))
      (λ m r. let x = rw (q, r) at h in let z : ◌≡◌ {A = ℕ} 0 1 = cc in absurd (omega arith)))

  module _ {n m : ℕ} (l : pairs_reading P ≡ Ok n) (f : reading_of Description 1 a ≡ Ok m) where
    -- then the second
    pub second-refused : {e : Refusal} → reading_of Description 2 b ≡ Err e → narrowest_of P a b out ≡ Err e
    unfolding narrowest_of
    second-refused h = rw (l, f, h) refl

    module _ {k : ℕ} (s : reading_of Description 2 b ≡ Ok k) where
      pub both-read : narrowest_of P a b out ≡ narrowest_room P a b out
      unfolding narrowest_of
      both-read = rw (l, f, s) refl

      pub too-long : 8192 < length a + length b → narrowest_of P a b out ≡ refused Length 2 0
      too-long h = both-read ∙ (unfold narrowest_room in rw (lt-ltb h) refl)

      pub output-short : length a + length b ≤ 8192 → length out < length a + length b → narrowest_of P a b out ≡ refused Room 0 0
      output-short h g = both-read ∙ (unfold narrowest_room in rw (ge-ltb h, lt-ltb g) refl)

      pub answered : length a + length b ≤ 8192 → length a + length b ≤ length out → narrowest_of P a b out ≡ room_for out (narrowest_under P a b)
      answered h g = both-read ∙ (unfold narrowest_room room_for in rw (ge-ltb h, ge-ltb g) refl)

  -- what is written, where the answer is by the result
  pub narrowed-by : narrowest_of P a b out ≡ room_for out (narrowest_under P a b)
      → unless_refused {B = List ℕ} (λ e. out) (room_for out (narrowest_under P a b)) (laid (narrowest_under P a b) out) ≡ narrowed_of P a b out
  unfolding narrowed_of
  narrowed-by h = rw h refl

-- ---- the second description, read as if it were the first

second-as : (n m k : ℕ) (f : Finding) {e : Refusal} → unless_refused Err (answer 1 n f) (Ok m) ≡ Err e → answer 2 k f ≡ Err (refusal e.cause 2 e.place)
second-as n m k Clean h = let z : ◌≡◌ {A = ℕ} 0 1 = cc in absurd (omega arith)
second-as n m k (Faulty c p) {e} h = let q : refusal c 1 p ≡ e = cc in rw (← q) refl

-- it is refused by the same rule at the same place
pub second-wrong : (P d : List ℕ) {n : ℕ} {e : Refusal} → pairs_reading P ≡ Ok n → form_reading P d ≡ Err e
    → reading_of Description 2 d ≡ Err (refusal e.cause 2 e.place)
unfolding form_reading form_under reading_of
second-wrong P d l h = second-as _ _ _ (first (faults Description d)) (rw l at h)

-- or it is read
pub second-right : (d : List ℕ) {n : ℕ} → reading_of Description 1 d ≡ Ok n → reading_of Description 2 d ≡ Ok (length (entries_of d))
second-right d r = accepted-by-none Description 2 d (none-of-accepted Description 1 d r).0

-- words of bytes
pub word-small : (P : List ℕ) → ((i : ℕ) → get_or P i 0 < 256) → (i : ℕ) → word_at P i < 65536
unfolding word_at
word-small P h i = omega (arith, h i, h (i + 1))

-- ---- the result by two tables

module _ {P c d r s : List ℕ} {n m : ℕ} (F : FormRows P c n r) (G : FormRows P d m s) (fr : length r ≤ 1008) (fs : length s ≤ 1008) where
  pub result-under : result_entries P (take n r) (take m s) ≡ narrowest_under P c d
  unfolding result_entries result_place narrowest_entries narrowest_place normal_of
  result-under = rw (formed-place F fr, formed-place G fs) refl

  module _ (words : (i : ℕ) → word_at P i < 65536) where
    abbrev C : List Entry
    C = entries_of c

    abbrev D : List Entry
    D = entries_of d

    result-legal : Legal Description (narrowest_under P c d)
    unfolding names_in
    result-legal =
        narrowest-legal (formed-law F fr) (names_in P) (names-ascend P (pair_count P)) (excluded-named P) C D (legal-read 1 c F.read) (legal-read 1 d G.read)
        (excluded-positive P F.list.list_read)

    result-stored : AllEntries (Stored Word Word) Word (narrowest (under P) (names_in P) (normal_of (under P) C) (normal_of (under P) D))
    unfolding names_in normal_of
    result-stored =
        narrowest-all (formed-law F fr) (names_in P) (names-ascend P (pair_count P)) (excluded-named P) (Stored Word Word) Word
        (λ p q x e h. (excluded-small P words p q e, refl))
        (nf (under P) (place_of C 0)) (nf (under P) (place_of D 0)) (nf-normal (formed-law F fr) (place_of C 0)) (nf-normal (formed-law F fr) (place_of D 0))
        (nf-stored Word Word (omega arith) (under P) (place_of C 0) (place-fields Word Word C (bounded_words (input-bounded F fr)) 0))
        (nf-stored Word Word (omega arith) (under P) (place_of D 0) (place-fields Word Word D (bounded_words (input-bounded G fs)) 0))

    -- the fields of a row of words, its owner apart
    record Words (e : Entry) : Type 0 where
      kind : e.kind < 256
      reserved : e.reserved < 256
      name : e.name < 65536
      number : e.number < 65536

    row_words : (x : Row Atom ℕ) → OfRow (Stored Word Word) Word x → Words (row_entry x)
    row_words (leaf_row o (atom has y z)) h = record { kind = omega arith; reserved = omega arith; name = h.0; number = omega (arith, h.1) }
    row_words (leaf_row o (atom lacks y z)) h = record { kind = omega arith; reserved = omega arith; name = h.0; number = omega (arith, h.1) }
    row_words (leaf_row o (atom least y z)) h = record { kind = omega arith; reserved = omega arith; name = h.0; number = h.1 }
    row_words (leaf_row o (atom most y z)) h = record { kind = omega arith; reserved = omega arith; name = h.0; number = h.1 }
    row_words (leaf_row o (atom nothing y z)) h =
        record { kind = omega arith; reserved = omega arith; name = omega (arith, h.0); number = omega (arith, h.1) }
    row_words (node_row o l) h = record { kind = omega arith; reserved = omega arith; name = h; number = omega arith }

    -- its fields fit their bytes, where it is a description
    pub result-bounded : length (narrowest_under P c d) ≤ 1008 → AllBounded (narrowest_under P c d)
    unfolding narrowest_entries narrowest_place owner_of nth
    result-bounded few =
        let N = narrowest (under P) (names_in P) (normal_of (under P) C) (normal_of (under P) D) in
        let fields = row-all (Stored Word Word) Word row_entry Words row_words (write N) (write-all (Stored Word Word) Word N result-stored) zero_entry in
        let size = length-map (write N) row_entry in
        record {
          each = λ k l.
              let w = fields k (omega (arith, size)) in
              record {
                kind = w.kind;
                reserved = w.reserved;
                owner = omega (arith, owner-earlier result-legal (suc k) (omega arith) (omega arith), few);
                name = w.name;
                number = w.number;
              };
        }

-- ---- what is written

module _ (out : List ℕ) (N : List Entry) where
  pub room-over : 1008 < length N → room_for out N ≡ refused Room 0 0
  unfolding room_for
  room-over h = rw (lt-ltb h) refl

  pub room-short : length out < 512 * blocks_for plain (length N) → room_for out N ≡ refused Room 0 0
  unfolding room_for
  room-short h = rw (or_right (ltb 1008 (length N)) (lt-ltb h)) refl

  pub room-enough : length N ≤ 1008 → 512 * blocks_for plain (length N) ≤ length out → room_for out N ≡ Ok (length N)
  unfolding room_for
  room-enough h g = rw (or-none {a = ltb 1008 (length N)} (ge-ltb h) (ge-ltb g)) refl

  -- the first rows of a table
  pub rows-written : {rows rows₀ : List ℕ} {k : ℕ} → Counted 1008 rows₀ 0 (map packed N) rows k → length N ≤ 1008 → AllBounded N
      → 512 * blocks_for plain (length N) ≤ length out → (k ≡ length N) × (written out rows k ≡ laid N out)
  rows-written {rows} {k = k} p few bound room =
      let size = length-map N packed in
      let e : k ≡ length N = omega (arith, p.total, size, few) in
      let held : take k rows ≡ map packed N = p.held (omega (arith, size, few)) in
      let l : k ≤ length rows = omega (arith, p.size, e, few) in
      (e, written-front out rows k l ∙ ap (λ (q : List ℕ). written out q k) held ∙ ap (written out (map packed N)) e ∙ written-encodes out N bound (omega (arith, few)) room)
