-- Writing in the stored form, step by step: refused, too short, or written.
-- Assumes nothing.
use Rattle.std.proofs.Common.{◌≡◌, ◌≢◌, ℕ, ◌<◌, ◌≤◌, List, [], ◌∷◌, map, length, take, Ok, Err, refl, sym, ap, ◌∙◌, arith}
use Rattle.base.proofs.Tests.{eq-eqb, ne_eqb}
use Rattle.blocks.proofs.Format.WordBytes.{Bytes}
use Rattle.blocks.proofs.Refusing.Bounds.{entries-bounded}
use Rattle.blocks.specs.Encoding.{framed_bytes, framed_written, row_bytes_of}
use Rattle.blocks.specs.Entries.{entries_of}
use Rattle.blocks.specs.Frame.{stored_frame}
use Rattle.blocks.specs.Promise.{Legal}
use Rattle.blocks.specs.Reading.{reading_of}
use Rattle.blocks.specs.Refusals.{refused}
use Rattle.blocks.specs.declared.Cause.TheVariants.{Room}
use Rattle.blocks.specs.declared.Entry.{Entry}
use Rattle.blocks.specs.declared.Refusal.{Refusal}
use Rattle.blocks.specs.declared.Schema.TheVariants.{Description}
use Rattle.stored.proofs.AnswerLaws.{answered-refused, answered-short, answered-written, none-short, some-room}
use Rattle.stored.proofs.StoredBytes.{AllIn, StoredBounded, all-both, rows-bytes}
use Rattle.stored.proofs.TreeLaws.{walk-bare, walk-deep}
use Rattle.stored.specs.Answer.{stored_in, stored_of}
use Rattle.stored.specs.Stored.{encode_stored, owned_entry, stored_packed}
use Rattle.stored.specs.Walked.{walk_of}
use Rattle.stored.specs.declared.StoredEntry.{StoredEntry}

-- the fields of an entry that is not told its owner fit their bytes
abbrev Fields : Entry → Type 0
Fields e = (e.kind < 256) × (e.name < 65536) × (e.number < 65536)

bounded-all : (xs : List StoredEntry) → AllIn (λ (x : StoredEntry). Fields (owned_entry 0 x) × (x.depth < 33)) xs → AllIn StoredBounded xs
bounded-all [] h = tt
bounded-all (x ∷ xs) h =
    (record { kind = h.0.0.0; depth = omega (arith, h.0.1); name = h.0.0.1; number = h.0.0.2 }, bounded-all xs h.1)

-- the fields of the entries in walking order fit their bytes
pub walk-bounded : (d : List ℕ) → Bytes d → Legal Description (entries_of d) → AllIn StoredBounded (walk_of (entries_of d))
walk-bounded d b L =
    let es : List Entry = entries_of d in
    let B = entries-bounded b in
    bounded-all (walk_of es) (all-both (λ (x : StoredEntry). Fields (owned_entry 0 x)) (λ (x : StoredEntry). x.depth < 33) (walk_of es)
    (walk-bare Fields es (λ k h. let f = B.each k h in (f.kind, f.name, f.number)))
    (walk-deep es L))

module _ (d out : List ℕ) where
  pub to-refused : {x : Refusal} → reading_of Description 1 d ≡ Err x → (Err x ≡ stored_of d out) × (out ≡ stored_in d out)
  unfolding stored_of stored_in
  to-refused e = answered-refused stored_frame (reading_of Description 1 d) (encode_stored (walk_of (entries_of d))) (length (entries_of d)) out e

  module _ (rows : List ℕ) (n m : ℕ) (r : reading_of Description 1 d ≡ Ok m) (c : n ≡ length (entries_of d)) (few : n ≤ 1008) (have : n ≤ length rows)
      {w : ℕ} {out' : List ℕ} (f : w ≡ framed_bytes stored_frame 1008 (length out) (length rows) n)
      (g : out' ≡ framed_written stored_frame (row_bytes_of 6) 1008 out rows n) where
    pub to-short : w ≡ 0 → (refused Room 0 0 ≡ stored_of d out) × (out' ≡ stored_in d out)
    unfolding stored_of stored_in
    to-short z =
        let a = answered-short stored_frame (reading_of Description 1 d) (encode_stored (walk_of (entries_of d))) (length (entries_of d)) out r
        (rw (← c) (none-short stored_frame 1008 (length out) (length rows) n have few (sym f ∙ z))) in
        (a.0, g ∙ rw (eq-eqb (sym f ∙ z)) refl ∙ a.1)

    pub to-written : Bytes d → Legal Description (entries_of d) → take n rows ≡ map stored_packed (walk_of (entries_of d)) → w ≢ 0
        → (Ok n ≡ stored_of d out) × (out' ≡ stored_in d out)
    unfolding stored_of stored_in encode_stored
    to-written b L t z =
        let es : List Entry = entries_of d in
        let a = answered-written stored_frame (reading_of Description 1 d) (encode_stored (walk_of es)) (length es) out r
        (rw (← c) (some-room stored_frame 1008 (length out) (length rows) n have few (λ q. z (f ∙ q)))) in
        (ap (λ (k : ℕ). Ok k) c ∙ a.0, g ∙ rw (ne_eqb (λ q. z (f ∙ q)), t, rows-bytes (walk_of es) (walk-bounded d b L), c) refl ∙ a.1)
