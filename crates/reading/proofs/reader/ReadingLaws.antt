-- Laws of reading blocks, one for each way through the code, in any frame.
-- Assumes nothing.
use Prim.Native.Nat.{◌%◌, ◌*◌, ◌+◌, ◌-◌, ◌/◌, ◌<◌, ◌≤◌, ℕ}
use lib.Dec.{ltb}
use lib.ListN.{length}
use mathlib.Core.Bool.{false, true}
use mathlib.Core.List.{List}
use mathlib.Core.Logic.{◌≢◌}
use mathlib.Core.Path.{◌∙◌, ◌≡◌, ap, sym}
use Rattle.base.proofs.Tests.{eq-eqb, ne_eqb, tests}
use Rattle.blocks.proofs.Refusing.Readings.{accepted-finding, refused-finding}
use Rattle.blocks.specs.Faults.{Clean, block_faults, first, frame_faults, length_over}
use Rattle.blocks.specs.Frame.{Frame, blocks_in, total_in, used_in}
use Rattle.blocks.specs.Reading.{answer}
use Rattle.blocks.specs.Words.{word_at}
use Rattle.std.specs.Prelude.{Result, Ok, Err}
use Rattle.blocks.specs.Refusals.{refused}
use Rattle.blocks.specs.declared.Refusal.{Refusal}
use Rattle.blocks.specs.declared.Cause.TheVariants.{Length}

-- ---- number 1

module _ (most : ℕ) (s : List ℕ) where
  pub none-read : length s ≡ 0 → length_over most s ≡ true
  none-read h = rw (eq-eqb h)

  pub not-multiple : length s ≢ 0 → length s % 512 ≢ 0 → length_over most s ≡ true
  not-multiple some h = rw (ne_eqb some, ne_eqb h)

  module _ (some : length s ≢ 0) (m : length s % 512 ≡ 0) where
    pub too_long : most < length s / 512 → length_over most s ≡ true
    too_long h = let l : ltb (512 * most) (length s) ≡ true = omega tests in rw (ne_eqb some, eq-eqb m, l)

    pub length-allowed : length s / 512 ≤ most → length_over most s ≡ false
    length-allowed h = let l : ltb (512 * most) (length s) ≡ false = omega tests in rw (ne_eqb some, eq-eqb m, l)

-- ---- the blocks

module _ (F : Frame) (most i : ℕ) (s : List ℕ) where
  pub read_length : length_over most s ≡ true → refused Length i 0 ≡ answer i (total_in F s) (first (frame_faults F most s))
  unfolding first
  read_length q = simp q

  module _ {n : ℕ} {found : Result (Unit {0}) Refusal} (w : length_over most s ≡ false) (h : n ≡ blocks_in s)
      (f : found ≡ answer i tt (first (block_faults F s n 0 n))) where
    first-of-frames : first (frame_faults F most s) ≡ first (block_faults F s n 0 n)
    unfolding first
    first-of-frames = simp (w, h)

    pub read-block : {r : Refusal} → found ≡ Err r → Err r ≡ answer i (total_in F s) (first (frame_faults F most s))
    read-block {r} g =
        let q = refused-finding i tt (first (block_faults F s n 0 n)) {k = r.cause} {j = r.input} {p = r.place} (sym f ∙ g) in
        rw (first-of-frames, q.1, ← q.0)

    -- the blocks that were looked at break neither number
    pub blocks-clean : found ≡ Ok tt → first (block_faults F s n 0 n) ≡ Clean
    blocks-clean g = (accepted-finding i tt (first (block_faults F s n 0 n)) (sym f ∙ g)).1

    pub read-sound : {total : ℕ} → found ≡ Ok tt → total ≡ total_in F s → Ok total ≡ answer i (total_in F s) (first (frame_faults F most s))
    read-sound g t = rw (first-of-frames, blocks-clean g) (ap Ok t)

pub total-read : (F : Frame) (s : List ℕ) {n used : ℕ} → 1 ≤ n → n ≡ blocks_in s → used ≡ word_at s (512 * (n - 1) + 2)
    → F.room * (n - 1) + used ≡ total_in F s
unfolding total_in used_in
total-read F s h e u = rw (total_in, used_in, ← e, ← u)
