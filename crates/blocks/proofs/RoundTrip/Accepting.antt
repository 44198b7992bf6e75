-- What reading means: a refusal is the first fault in its order, an accepted input is the encoding of its entries,
-- and every legal list that keeps the schema's further lines is accepted once encoded.
-- Assumes nothing.
use Rattle.std.proofs.Common.{◌≡◌, ℕ, suc, ◌+◌, ◌*◌, ◌/◌, ◌%◌, ◌<◌, ◌≤◌, false, eqb, List, [], ◌∷◌, ◌++◌, map, length, take, drop, Ok, sym, refl, ap, ◌∙◌, arith, take_all}
use lib.ListN.{length-map}
use Rattle.base.proofs.Split.{place_of, row_of}
use Rattle.base.proofs.Tests.{le-leb, leb-self, tests}
use Rattle.blocks.proofs.Format.EntryBytes.{length-entries}
use Rattle.blocks.proofs.Format.WordBytes.{Bytes}
use Rattle.blocks.proofs.Refusing.BlockLaws.{blocks-none, none-blocks}
use Rattle.blocks.proofs.Refusing.Bounds.{AllBounded}
use Rattle.blocks.proofs.Refusing.FirstFault.{clean-none, first_found, found_first, none-clean}
use Rattle.blocks.proofs.Refusing.Legal.{legal-none, none-further, none-legal}
use Rattle.blocks.proofs.Refusing.Readings.{accepted-finding, refused-finding}
use Rattle.blocks.proofs.Refusing.RowLaws.{none_both, none-split}
use Rattle.blocks.proofs.RoundTrip.Decoding.{decode-encode}
use Rattle.blocks.proofs.RoundTrip.EncodedBlocks.{encode-sound}
use Rattle.blocks.proofs.RoundTrip.Faithful.{encode-decode}
use Rattle.blocks.proofs.RoundTrip.Unbroken.{Unbroken}
use Rattle.blocks.specs.Encoding.{blocks_for, bytes_written, encode, row_bytes, written}
use Rattle.blocks.specs.Entries.{Bounded, entries_of, entry_bytes, limit_of, packed}
use Rattle.blocks.specs.Faults.{block_faults, entry_faults, faults, first}
use Rattle.blocks.specs.Frame.{blocks_in, plain, total_in}
use Rattle.blocks.specs.Promise.{FirstOf, Further, Legal, NoneApplies}
use Rattle.blocks.specs.Reading.{reading_of, returned}
use Rattle.blocks.specs.Words.{word_bytes}
use Rattle.blocks.specs.declared.Cause.{Cause}
use Rattle.blocks.specs.declared.Entry.{Entry}
use Rattle.blocks.specs.Refusals.{number_of, refused}
use Rattle.blocks.specs.declared.Schema.{Schema}

module _ (σ : Schema) (i : ℕ) (s : List ℕ) where
  -- ---- refused exactly by the first fault that applies

  pub refused-by-first : {k : Cause} {p : ℕ} → FirstOf (faults σ s) k p → reading_of σ i s ≡ refused k i p
  unfolding reading_of
  refused-by-first {k} {p} f = rw (reading_of, first_found (faults σ s) k p f)

  pub first-of-refused : {k : Cause} {j p : ℕ} → reading_of σ i s ≡ refused k j p → (j ≡ i) × FirstOf (faults σ s) k p
  unfolding reading_of
  first-of-refused {k} {j} {p} e =
      let r = refused-finding i (total_in plain s) (first (faults σ s)) e in (r.0, found_first (faults σ s) k p r.1)

  -- ---- accepted exactly where none applies

  pub accepted-by-none : NoneApplies (faults σ s) → reading_of σ i s ≡ Ok (length (entries_of s))
  unfolding reading_of
  accepted-by-none h = rw (reading_of, none-clean (faults σ s) h, length-entries s)

  pub none-of-accepted : {n : ℕ} → reading_of σ i s ≡ Ok n → NoneApplies (faults σ s) × (n ≡ length (entries_of s))
  unfolding reading_of
  none-of-accepted {n} e =
      let r = accepted-finding i (total_in plain s) (first (faults σ s)) e in (clean-none (faults σ s) r.1, r.0 ∙ sym (length-entries s))

  -- ---- the numbers of each of the two cases [K6]

  pub returned-refusal : {k : Cause} {p : ℕ} → FirstOf (faults σ s) k p
      → returned (reading_of σ i s) ≡ record { number = number_of k; input = i; place = p; entries = 0 }
  returned-refusal f = ap returned (refused-by-first f)

  pub returned-total : NoneApplies (faults σ s)
      → returned (reading_of σ i s) ≡ record { number = 0; input = 0; place = 0; entries = length (entries_of s) }
  returned-total h = ap returned (accepted-by-none h)

-- ---- accepted inputs and encodings

-- what an input that is accepted keeps, number by number
pub record Sound (σ : Schema) (s : List ℕ) : Type 0 where
  pub blocks : Unbroken plain σ s
  pub entries : Legal σ (entries_of s)
  pub further : Further σ (entries_of s)

module _ (σ : Schema) (i : ℕ) (s : List ℕ) where
  pub sound-of-accepted : {n : ℕ} → reading_of σ i s ≡ Ok n → Sound σ s
  unfolding faults NoneApplies
  sound-of-accepted e =
      let h = (none-of-accepted σ i s e).0 in
      let n = blocks_in s in
      let r = none-split (block_faults plain s n 0 n) (entry_faults σ (entries_of s) 1 (length (entries_of s))) h.1 in
      record {
        blocks = record {
          length = h.0;
          check = λ k l. (blocks-none plain s n 0 n r.0 k (omega arith) (omega arith)).0;
          frame = λ k l. (blocks-none plain s n 0 n r.0 k (omega arith) (omega arith)).1;
        };
        entries = none-legal r.1;
        further = none-further σ (entries_of s) r.1;
      }

  pub accepted-of-sound : Sound σ s → reading_of σ i s ≡ Ok (length (entries_of s))
  unfolding faults NoneApplies
  accepted-of-sound h =
      let n = blocks_in s in
      accepted-by-none σ i s (
        h.blocks.length,
        none_both (block_faults plain s n 0 n) (entry_faults σ (entries_of s) 1 (length (entries_of s)))
            (none-blocks plain s n 0 n (λ k lo hi. (h.blocks.check k (omega arith), h.blocks.frame k (omega arith))))
            (legal-none h.entries h.further),
      )

  -- an accepted input is the encoding of its entries
  pub accepted-encodes : {n : ℕ} → Bytes s → reading_of σ i s ≡ Ok n → encode (entries_of s) ≡ s
  accepted-encodes b e = encode-decode b (sound-of-accepted e).blocks

-- every legal list that keeps the further lines and that the limit allows is accepted once encoded: nothing else is refused
pub encoded-accepted : (σ : Schema) (i : ℕ) (es : List Entry) → Legal σ es → Further σ es → length es ≤ 63 * limit_of σ
    → reading_of σ i (encode es) ≡ Ok (length es)
encoded-accepted σ i es L f h =
    let back = decode-encode es in
    accepted-of-sound σ i (encode es) (record { blocks = encode-sound σ es h; entries = rw back L; further = rw back f })
    ∙ ap (λ (l : List Entry). Ok (length l)) back

-- ---- written entries are an encoding

words-join : (lo hi : ℕ) → lo < 256 → hi < 256 → word_bytes (lo + 256 * hi) ≡ lo ∷ hi ∷ []
unfolding word_bytes
words-join lo hi p q =
    let a : (lo + 256 * hi) % 256 ≡ lo = omega arith in
    let b : (lo + 256 * hi) / 256 ≡ hi = omega arith in
    rw (word_bytes, a, b)

-- the bytes of a packed entry are the entry's
pub packed-bytes : (e : Entry) → Bounded e → row_bytes (packed e) ≡ entry_bytes e
unfolding row_bytes packed entry_bytes
packed-bytes e b =
    let k = b.kind in
    let r = b.reserved in
    let o = b.owner in
    let n = b.name in
    let m = b.number in
    let x = packed e in
    let w₁ : x % 65536 ≡ e.kind + 256 * e.reserved = omega arith in
    let u₂ : x / 65536 ≡ 65536 * (e.name + 65536 * e.number) + e.owner =
    ap (λ (y : ℕ). y / 65536) (omega arith) ∙ row_of {r = 65536} (65536 * (e.name + 65536 * e.number) + e.owner) (e.kind + 256 * e.reserved) (omega arith) in
    let w₂ : x / 65536 % 65536 ≡ e.owner = ap (λ (y : ℕ). y % 65536) u₂ ∙ place_of (e.name + 65536 * e.number) e.owner o in
    let u₃ : x / 4294967296 ≡ 65536 * e.number + e.name =
    ap (λ (y : ℕ). y / 4294967296) (omega arith)
    ∙ row_of {r = 4294967296} (65536 * e.number + e.name) (e.kind + 256 * e.reserved + 65536 * e.owner) (omega arith) in
    let w₃ : x / 4294967296 % 65536 ≡ e.name = ap (λ (y : ℕ). y % 65536) u₃ ∙ place_of e.number e.name n in
    let w₄ : x / 281474976710656 ≡ e.number =
    ap (λ (y : ℕ). y / 281474976710656) (omega arith)
    ∙ row_of {r = 281474976710656} e.number (e.kind + 256 * e.reserved + 65536 * e.owner + 4294967296 * e.name) (omega arith) in
    rw (row_bytes, w₁, w₂, w₃, w₄, words-join e.kind e.reserved k r)

rows-packed-bytes : (es : List Entry) → AllBounded es → map row_bytes (map packed es) ≡ map entry_bytes es
rows-packed-bytes [] b = refl
rows-packed-bytes (e ∷ es) b =
    rw (packed-bytes e (b.each 0 (omega arith)), rows-packed-bytes es (record { each = λ j h. b.each (suc j) (omega arith) }))

-- the packed entries of a list, written where there is room, are its encoding, and later bytes stay
pub written-encodes : (out : List ℕ) (es : List Entry) → AllBounded es → length es ≤ 2016 → 512 * blocks_for plain (length es) ≤ length out
    → written out (map packed es) (length es) ≡ encode es ++ drop (512 * blocks_for plain (length es)) out
unfolding written bytes_written encode
written-encodes out es b few room =
    let size : length (map packed es) ≡ length es = length-map es packed in
    let whole : take (length es) (map packed es) ≡ map packed es = take_all (length es) (map packed es) (omega arith) in
    let some' : eqb (512 * blocks_for plain (length es)) 0 ≡ false = unfold blocks_for in omega tests in
    simp (written, bytes_written, size, le-leb few, le-leb room, leb-self, some', whole, rows-packed-bytes es b)
