-- What the exchange of two entries of one block leaves as it is: other blocks, and all but the entries of this one.
-- Assumes nothing.
use Rattle.std.proofs.Common.{◌≡◌, ℕ, ◌+◌, ◌*◌, ◌<◌, ◌≤◌, eqb, ◌≢◌, List, get_or, ap, arith}
use Rattle.base.proofs.RangeLaws.{all-ext}
use Rattle.base.proofs.Split.{row_below}
use Rattle.base.proofs.Tests.{eq-cases, lt-cases}
use Rattle.blocks.proofs.Format.Lawful.{Lawful}
use Rattle.blocks.proofs.Format.WordBytes.{check-alike, second_alike, word-alike}
use Rattle.blocks.specs.Exchange.{EntriesExchanged, cell_pos}
use Rattle.blocks.specs.Faults.{length_wrong}
use Rattle.blocks.specs.Frame.{Frame, check_wrong, frame_wrong, rest_zero, used_in, zero_at}
use Rattle.blocks.specs.Words.{check_of, second_of, word_at, word_from}
use Rattle.blocks.specs.declared.Schema.{Schema}

-- number 1 goes by the length only
pub length-alike : {F : Frame} {s t : List ℕ} {b e p : ℕ} → EntriesExchanged F s t b e p → (σ : Schema)
    → length_wrong σ t ≡ length_wrong σ s
unfolding length_wrong
length-alike x σ = rw (length_wrong, length_wrong, x.size)

module _ {F : Frame} (L : Lawful F) {s t : List ℕ} {b e p : ℕ} (x : EntriesExchanged F s t b e p) where
  module _ (inside : e + p < F.room) where
    -- the entries end before byte 508 of their block
    ended : cell_pos F b (e + p) + F.width ≤ 512 * b + 508
    ended = omega (arith, row_below F.width inside, L.cells)

    word_after : (k : ℕ) → 512 * b + 508 ≤ k → word_at t k ≡ word_at s k
    word_after k h =
        let l = ended in
        word-alike t s k k (x.bytes.after k (omega arith)) (x.bytes.after (k + 1) (omega arith))

    -- the stored sums of the block
    pub stored-alike : (word_at t (512 * b + 510) ≡ word_at s (512 * b + 510)) × (word_at t (512 * b + 508) ≡ word_at s (512 * b + 508))
    stored-alike = (word_after (512 * b + 510) (omega arith), word_after (512 * b + 508) (omega arith))

    -- the bytes of another block
    byte-elsewhere : {i : ℕ} → i ≢ b → (k : ℕ) → 512 * i ≤ k → k < 512 * i + 512 → get_or t k 0 ≡ get_or s k 0
    byte-elsewhere {i} ne k lo hi =
        let l = ended in
        lt-cases i b (λ h. x.bytes.before k (omega arith)) (λ h. x.bytes.after k (omega arith))

    pub check-elsewhere : {i : ℕ} → i ≢ b → check_wrong t i ≡ check_wrong s i
    unfolding check_wrong word_from
    check-elsewhere {i} ne =
        let word : (k : ℕ) → k < 511 → word_at t (512 * i + k) ≡ word_at s (512 * i + k)
        = λ k h. word-alike t s _ _ (byte-elsewhere ne (512 * i + k) (omega arith) (omega arith))
        (byte-elsewhere ne (512 * i + k + 1) (omega arith) (omega arith)) in
        let check : check_of t (512 * i) ≡ check_of s (512 * i) = check-alike t s _ _ (λ k h. word (2 * k) (omega arith)) in
        let second : second_of t (512 * i) ≡ second_of s (512 * i) = second_alike t s _ _ (λ k h. word (2 * k) (omega arith)) in
        simp (check_wrong, word 510 (omega arith), word 508 (omega arith), check, second)

  module _ (used : e + p < used_in s b) (room : used_in s b ≤ F.room) where
    inside : e + p < F.room
    inside = omega arith

    -- block number and used count of every block
    head-alike : (i k : ℕ) → 512 * i ≤ k → k < 512 * i + 3 → word_at t k ≡ word_at s k
    head-alike i k lo hi =
        eq-cases i b
        (λ q. word-alike t s k k (x.bytes.before k (omega arith)) (x.bytes.before (k + 1) (omega arith)))
        (λ q. word-alike t s k k (byte-elsewhere inside q k (omega arith) (omega arith))
        (byte-elsewhere inside q (k + 1) (omega arith) (omega arith)))

    pub used-alike : (i : ℕ) → used_in t i ≡ used_in s i
    unfolding used_in
    used-alike i = head-alike i (512 * i + 2) (omega arith) (omega arith)

    -- the bytes of unused entries
    rest-alike : (i : ℕ) → rest_zero F t i ≡ rest_zero F s i
    unfolding rest_zero zero_at
    rest-alike i =
        let l = row_below F.width used in
        let c = L.cells in
        rw (rest_zero, used-alike i)
        (all-ext (zero_at t) (zero_at s) _ _
        (λ k lo hi. ap (λ (y : ℕ). eqb y 0)
        (eq-cases i b
        (λ q. let m : F.width * used_in s i ≡ F.width * used_in s b = rw q in x.bytes.after k (omega arith))
        (λ q. byte-elsewhere inside q k (omega arith) (omega arith)))))

    pub frame-alike : (n i : ℕ) → frame_wrong F t n i ≡ frame_wrong F s n i
    unfolding frame_wrong
    frame-alike n i = simp (frame_wrong, head-alike i (512 * i) (omega arith) (omega arith), used-alike i, rest-alike i)
