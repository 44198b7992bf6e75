-- [B11] Two used entries p entries apart in one block of an accepted input exchanged: refused as 2 exactly when their
-- distance in words times the difference of their word sums is no multiple of 65,536, and otherwise by none of 1 to
-- 3. In any frame; and for entries of 8 bytes as reading answers it, where the multiple is of 16,384.
-- Assumes nothing.
use Rattle.std.proofs.Common.{◌≡◌, ℕ, suc, ◌+◌, ◌*◌, ◌/◌, ◌%◌, ◌<◌, ◌≤◌, false, ◌≢◌, ◌↔◌, List, Ok, length, refl, ap, ◌∙◌, arith}
use Rattle.base.proofs.Multiples.{four-words}
use Rattle.base.proofs.Tests.{bool_cases, eq-cases}
use Rattle.base.specs.Exchange.{difference}
use Rattle.blocks.proofs.Format.Lawful.{Lawful, plain-lawful}
use Rattle.blocks.proofs.Refusing.BlockLaws.{blocks-check, frame-used, used-at-most}
use Rattle.blocks.proofs.Refusing.Exchanged.{check-exchanged}
use Rattle.blocks.proofs.Refusing.FirstFault.{first-append}
use Rattle.blocks.proofs.Refusing.Untouched.{check-elsewhere, frame-alike, length-alike}
use Rattle.blocks.proofs.RoundTrip.Accepting.{sound-of-accepted}
use Rattle.blocks.proofs.RoundTrip.RefusalNumbers.{unbroken-number}
use Rattle.blocks.proofs.RoundTrip.Unbroken.{Unbroken}
use Rattle.blocks.specs.Entries.{entries_of}
use Rattle.blocks.specs.Exchange.{EntriesExchanged, entry_words}
use Rattle.blocks.specs.Faults.{Faulty, block_faults, entry_faults, faults, first, length_wrong}
use Rattle.blocks.specs.Frame.{Frame, blocks_in, check_wrong, frame_wrong, plain, used_in}
use Rattle.blocks.specs.Reading.{reading_of}
use Rattle.blocks.specs.Refusals.{number_of, refused}
use Rattle.blocks.specs.declared.Cause.TheVariants.{Check}
use Rattle.blocks.specs.declared.Cause.{Cause}
use Rattle.blocks.specs.declared.Schema.{Schema}

-- s breaks none of 1 to 3, and t is s with the used entries e and e + p of its block b exchanged, all counted from 0; entries have w words
module _ {F : Frame} (L : Lawful F) (w : ℕ) (wide : F.width ≡ 2 * w) {σ : Schema} {s t : List ℕ} {b e p : ℕ} (sound : Unbroken F σ s)
    (within : b < blocks_in s) (some : 1 ≤ p) (used : e + p < used_in s b) (x : EntriesExchanged F s t b e p) where
  room : used_in s b ≤ F.room
  room = used-at-most F (blocks_in s) b (frame-used F s (blocks_in s) b (sound.frame b within))

  inside : e + p < F.room
  inside = omega (arith, room)

  same_blocks : blocks_in t ≡ blocks_in s
  unfolding blocks_in
  same_blocks = ap (λ (l : ℕ). l / 512) x.size

  -- number 2 may apply to block b only, numbers 1 and 3 never
  check-exactly : (check_wrong t b ≡ false) ↔ ((w * p * difference (entry_words F s b e) (entry_words F s b (e + p))) % 65536 ≡ 0)
  check-exactly = check-exchanged L w wide s t b e p x some inside (sound.check b within)

  others : (k : ℕ) → k < blocks_in s → k ≢ b → check_wrong t k ≡ false
  others k l ne = check-elsewhere L x inside ne ∙ sound.check k l

  framed : (k : ℕ) → k < blocks_in s → frame_wrong F t (blocks_in t) k ≡ false
  framed k l = frame-alike L x used room (blocks_in t) k ∙ rw same_blocks (sound.frame k l)

  pub exchanged-length : length_wrong σ t ≡ false
  exchanged-length = length-alike x σ ∙ sound.length

  -- where the product is a multiple of 65,536, none applies
  pub exchanged-unbroken : (w * p * difference (entry_words F s b e) (entry_words F s b (e + p))) % 65536 ≡ 0 → Unbroken F σ t
  exchanged-unbroken m =
      record {
        length = exchanged-length;
        check = λ k l. eq-cases k b (λ q. rw q (check-exactly.1 m)) (λ q. others k (rw same_blocks at l) q);
        frame = λ k l. framed k (rw same_blocks at l);
      }

  -- else number 2 to block b, and to no earlier one 2 or 3
  pub exchanged-broken : (w * p * difference (entry_words F s b e) (entry_words F s b (e + p))) % 65536 ≢ 0
      → first (block_faults F t (blocks_in t) 0 (blocks_in t)) ≡ Faulty Check (suc b)
  exchanged-broken ne =
      let l : b < blocks_in t = rw same_blocks within in
      blocks-check F t (blocks_in t) 0 (blocks_in t) b (omega arith) (omega arith)
      (λ k h. (others k (omega arith) (omega arith), framed k (omega arith)))
      (bool_cases (check_wrong t b) (λ q. q) (λ q. absurd (ne (check-exactly.0 q))))

-- s is accepted as entries of 8 bytes
module _ (σ : Schema) (i : ℕ) {n : ℕ} (s t : List ℕ) (b e p : ℕ) (accepted : reading_of σ i s ≡ Ok n) (within : b < blocks_in s)
    (some : 1 ≤ p) (used : e + p < used_in s b) (x : EntriesExchanged plain s t b e p) where
  sound : Unbroken plain σ s
  sound = (sound-of-accepted σ i s accepted).blocks

  abbrev product : ℕ
  product = p * difference (entry_words plain s b e) (entry_words plain s b (e + p))

  broken : product % 16384 ≢ 0 → reading_of σ i t ≡ refused Check i (suc b)
  unfolding reading_of faults first
  broken ne =
      let m = blocks_in t in
      let es = entries_of t in
      let f = exchanged-broken plain-lawful 4 refl sound within some used x (λ q. ne ((four-words p _).0 q)) in
      let l : length_wrong σ t ≡ false = exchanged-length plain-lawful 4 refl sound within some used x in
      let parts = first-append (block_faults plain t m 0 m) (entry_faults σ es 1 (length es)) in
      rw (reading_of, l, parts, f)

  -- where the product is a multiple of it, none of 1 to 3 applies: only an entry may be refused
  pub exchange-otherwise : (p * difference (entry_words plain s b e) (entry_words plain s b (e + p))) % 16384 ≡ 0
      → (k : Cause) (j q : ℕ) → reading_of σ i t ≡ refused k j q → 4 ≤ number_of k
  exchange-otherwise m k j q r =
      unbroken-number σ i t r (exchanged-unbroken plain-lawful 4 refl sound within some used x ((four-words p _).1 m))

  pub exchange-exactly : (reading_of σ i t ≡ refused Check i (suc b))
      ↔ ((p * difference (entry_words plain s b e) (entry_words plain s b (e + p))) % 16384 ≢ 0)
  exchange-exactly = (λ r m. let four = exchange-otherwise m Check i (suc b) r in omega arith, broken)
