-- Inputs that break none of numbers 1 to 3 of the table of refusals.
-- Assumes nothing.
use Rattle.std.proofs.Common.{◌≡◌, ℕ, suc, ◌+◌, ◌*◌, ◌<◌, true, false, not, ◌||◌, eqb, List}
use Rattle.base.proofs.Tests.{eqb-eq, eq-eqb, not-to-false, true_of_not, or-none, neither_left, neither_right}
use Rattle.blocks.proofs.Refusing.Checks.{checks-right, right-checks}
use Rattle.blocks.specs.Faults.{length_wrong}
use Rattle.blocks.specs.Frame.{Frame, blocks_in, check_wrong, frame_wrong, rest_zero, used_in, used_ok}
use Rattle.blocks.specs.Words.{check_of, second_of, word_at}
use Rattle.blocks.specs.declared.Schema.{Schema}

-- number 1 does not apply, nor numbers 2 and 3 to any block
pub record Unbroken (F : Frame) (σ : Schema) (s : List ℕ) : Type 0 where
  pub length : length_wrong σ s ≡ false
  pub check : (i : ℕ) → i < blocks_in s → check_wrong s i ≡ false
  pub frame : (i : ℕ) → i < blocks_in s → frame_wrong F s (blocks_in s) i ≡ false

-- what numbers 2 and 3 ask of block i of n
pub record Passing (F : Frame) (s : List ℕ) (n i : ℕ) : Type 0 where
  pub number : word_at s (512 * i) ≡ suc i
  pub used : used_ok F n i (used_in s i) ≡ true
  pub second : word_at s (512 * i + 508) ≡ second_of s (512 * i)
  pub rest : rest_zero F s i ≡ true
  pub check : word_at s (512 * i + 510) ≡ check_of s (512 * i)

-- a block of which that holds breaks neither
pub check-right : {F : Frame} {s : List ℕ} {n i : ℕ} → Passing F s n i → check_wrong s i ≡ false
check-right {s = s} {i = i} p = checks-right s i p.check p.second

pub frame_right : {F : Frame} {s : List ℕ} {n i : ℕ} → Passing F s n i → frame_wrong F s n i ≡ false
unfolding frame_wrong
frame_right p = or-none (not-to-false (eq-eqb p.number)) (or-none (not-to-false p.used) (not-to-false p.rest))

-- a block that breaks neither is such a block
pub passing : (F : Frame) {s : List ℕ} {n i : ℕ} → check_wrong s i ≡ false → frame_wrong F s n i ≡ false → Passing F s n i
unfolding frame_wrong
passing F {s} {n} {i} c f =
    let number = not (eqb (word_at s (512 * i)) (suc i)) in
    let used = not (used_ok F n i (used_in s i)) in
    let rest = not (rest_zero F s i) in
    let checks = right-checks s i c in
    let after-number = neither_right number (used || rest) f in
    record {
      number = eqb-eq (true_of_not _ (neither_left number (used || rest) f));
      used = true_of_not _ (neither_left used rest after-number);
      second = checks.1;
      rest = true_of_not _ (neither_right used rest after-number);
      check = checks.0;
    }
