-- Bytes exchanged two by two are words exchanged.
-- Assumes nothing.
use Rattle.std.proofs.Common.{◌≡◌, ℕ, ◌+◌, ◌*◌, ◌<◌, List, get_or, add_assoc, arith}
use Rattle.base.specs.Exchange.{Exchanged}
use Rattle.blocks.proofs.Format.WordBytes.{word-alike}
use Rattle.blocks.specs.Words.{word_from}

module _ (s t : List ℕ) (at w : ℕ) where
  run-alike : (a c : ℕ) → ((k : ℕ) → k < 2 * w → get_or t (at + 2 * a + k) 0 ≡ get_or s (at + 2 * c + k) 0)
      → (k : ℕ) → k < w → word_from t at (a + k) ≡ word_from s at (c + k)
  unfolding word_from
  run-alike a c h k l =
      let place : (a : ℕ) → at + 2 * (a + k) ≡ at + 2 * a + 2 * k = λ a. omega arith in
      let hi : get_or t (at + 2 * a + 2 * k + 1) 0 ≡ get_or s (at + 2 * c + 2 * k + 1) 0
      = rw (add_assoc (at + 2 * a) (2 * k) 1, add_assoc (at + 2 * c) (2 * k) 1) (h (2 * k + 1) (omega arith)) in
      rw (place a, place c) (word-alike t s _ _ (h (2 * k) (omega arith)) hi)

  pub words-exchanged : (a c : ℕ) → Exchanged (λ k. get_or s k 0) (λ k. get_or t k 0) (2 * w) (at + 2 * a) (at + 2 * c)
      → Exchanged (word_from s at) (word_from t at) w a c
  unfolding word_from
  words-exchanged a c x =
      let same : (k : ℕ) → get_or t (at + 2 * k) 0 ≡ get_or s (at + 2 * k) 0 → get_or t (at + 2 * k + 1) 0 ≡ get_or s (at + 2 * k + 1) 0
      → word_from t at k ≡ word_from s at k = λ k. word-alike t s _ _ in
      record {
        first = run-alike a c x.first;
        second = run-alike c a x.second;
        before = λ k l. same k (x.before (at + 2 * k) (omega arith)) (x.before (at + 2 * k + 1) (omega arith));
        between = λ k l m. same k (x.between (at + 2 * k) (omega arith) (omega arith))
            (x.between (at + 2 * k + 1) (omega arith) (omega arith));
        after = λ k l. same k (x.after (at + 2 * k) (omega arith)) (x.after (at + 2 * k + 1) (omega arith));
      }
