-- Number 2 of the table of refusals: it does not apply exactly where both sums of a block are right.
-- Assumes nothing.
use Rattle.std.proofs.Common.{◌≡◌, ℕ, ◌+◌, ◌*◌, false, not, eqb, List}
use Rattle.base.proofs.Tests.{eq-eqb, eqb-eq, neither_left, neither_right, not-to-false, or-none, true_of_not}
use Rattle.blocks.specs.Frame.{check_wrong}
use Rattle.blocks.specs.Words.{check_of, second_of, word_at}

module _ (s : List ℕ) (i : ℕ) where
  pub checks-right : word_at s (512 * i + 510) ≡ check_of s (512 * i) → word_at s (512 * i + 508) ≡ second_of s (512 * i)
      → check_wrong s i ≡ false
  unfolding check_wrong
  checks-right c d = or-none (not-to-false (eq-eqb c)) (not-to-false (eq-eqb d))

  pub right-checks : check_wrong s i ≡ false
      → (word_at s (512 * i + 510) ≡ check_of s (512 * i)) × (word_at s (512 * i + 508) ≡ second_of s (512 * i))
  unfolding check_wrong
  right-checks h =
      let check = not (eqb (word_at s (512 * i + 510)) (check_of s (512 * i))) in
      let second = not (eqb (word_at s (512 * i + 508)) (second_of s (512 * i))) in
      (eqb-eq (true_of_not _ (neither_left check second h)), eqb-eq (true_of_not _ (neither_right check second h)))
