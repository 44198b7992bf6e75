-- Two entries of one block exchanged: the check stays right, and the second sum exactly if their distance in words times the
-- difference of their word sums is a multiple of 65,536.
-- Assumes nothing.
use Rattle.std.proofs.Common.{◌≡◌, ℕ, ◌+◌, ◌*◌, ◌/◌, ◌%◌, ◌<◌, ◌≤◌, false, ◌↔◌, List, sym, ap, ◌∙◌, mul_assoc, mul-add, arith}
use Rattle.base.proofs.Exchanges.{exchanged-sum, exchanged-weighted}
use Rattle.base.proofs.Multiples.{same-modulo}
use Rattle.base.proofs.Split.{row_below}
use Rattle.base.proofs.Sums.{sum-ext}
use Rattle.base.specs.Exchange.{Exchanged, difference}
use Rattle.base.specs.Range.{sum}
use Rattle.blocks.proofs.Format.Lawful.{Lawful}
use Rattle.blocks.proofs.Format.WordsExchanged.{words-exchanged}
use Rattle.blocks.proofs.Refusing.Checks.{checks-right, right-checks}
use Rattle.blocks.proofs.Refusing.Untouched.{stored-alike}
use Rattle.blocks.specs.Exchange.{EntriesExchanged, cell_pos, entry_words}
use Rattle.blocks.specs.Frame.{Frame, check_wrong}
use Rattle.blocks.specs.Words.{check_of, second_of, weighted, word_at, word_from}

module _ {F : Frame} (L : Lawful F) (w : ℕ) (wide : F.width ≡ 2 * w) (s t : List ℕ) (b e p : ℕ) where
  -- entry e has the w words from word 2 + w * e of its block on
  cell-word : (e : ℕ) → cell_pos F b e ≡ 512 * b + 2 * (2 + w * e)
  cell-word e = let m : F.width * e ≡ 2 * (w * e) = ap (λ (x : ℕ). x * e) wide ∙ mul_assoc 2 w e in omega arith

  entry-run : (e : ℕ) → entry_words F s b e ≡ sum (λ k. word_from s (512 * b) (2 + w * e + k)) w
  unfolding entry_words word_from
  entry-run e =
      let n : F.width / 2 ≡ w = omega arith in
      let c = cell-word e in
      rw (entry_words, n) (sum-ext (word_from s (cell_pos F b e)) _ w (λ k l. ap (word_at s) (omega arith)))

  module _ (x : EntriesExchanged F s t b e p) (some : 1 ≤ p) (inside : e + p < F.room) where
    words : Exchanged (word_from s (512 * b)) (word_from t (512 * b)) w (2 + w * e) (2 + w * (e + p))
    words =
        words-exchanged s t (512 * b) w (2 + w * e) (2 + w * (e + p)) (rw (← wide, ← cell-word e, ← cell-word (e + p)) x.bytes)

    apart : 2 + w * e + w ≤ 2 + w * (e + p)
    apart = let l : e < e + p = omega arith in omega (arith, row_below w l)

    -- the words of entries end before word 254
    ended : 2 + w * (e + p) + w ≤ 254
    ended =
        let c : 2 * (w * F.room) ≡ 504 = sym (mul_assoc 2 w F.room) ∙ ap (λ (x : ℕ). x * F.room) (sym wide) ∙ L.cells in
        omega (arith, row_below w inside)

    check-same : check_of t (512 * b) ≡ check_of s (512 * b)
    unfolding check_of
    check-same = ap (λ (x : ℕ). x % 65536) (exchanged-sum words apart (omega (arith, ended)))

    second-same : (second_of s (512 * b) ≡ second_of t (512 * b))
        ↔ ((w * p * difference (entry_words F s b e) (entry_words F s b (e + p))) % 65536 ≡ 0)
    unfolding second_of weighted
    second-same =
        rw (entry-run e, entry-run (e + p))
        (same-modulo _ _ (w * p) _ _ (sym (exchanged-weighted words apart ended (w * p) (omega (arith, mul-add w e p)))))

    pub check-exchanged : check_wrong s b ≡ false
        → (check_wrong t b ≡ false) ↔ ((w * p * difference (entry_words F s b e) (entry_words F s b (e + p))) % 65536 ≡ 0)
    check-exchanged r =
        let was = right-checks s b r in
        let kept = stored-alike L x inside in (
          λ c. second-same.0 (sym was.1 ∙ sym kept.1 ∙ (right-checks t b c).1),
          λ m. checks-right t b (kept.0 ∙ was.0 ∙ sym check-same) (kept.1 ∙ was.1 ∙ second-same.1 m),
        )
