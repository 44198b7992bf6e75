-- What a block format has to keep.
-- Assumes nothing.
use Rattle.std.proofs.Common.{◌≡◌, ℕ, zero, suc, ◌*◌, ◌<◌, refl, arith}
use Rattle.blocks.specs.Frame.{Frame, framed, plain, stored_frame}

-- the entries fill bytes 4 to 507
pub record Lawful (F : Frame) : Type 0 where
  pub cells : F.width * F.room ≡ 504
  pub width-pos : 0 < F.width
  pub room-pos : 0 < F.room

pub plain-lawful : Lawful plain
plain-lawful = record { cells = refl; width-pos = omega arith; room-pos = omega arith }

pub stored-lawful : Lawful stored_frame
stored-lawful = record { cells = refl; width-pos = omega arith; room-pos = omega arith }

-- entries of w bytes that fill them, r to a block
pub framed-lawful : (w r : ℕ) → w * r ≡ 504 → Lawful (framed w r)
framed-lawful zero r e = absurd (omega arith)
framed-lawful (suc w) zero e = absurd (omega arith)
framed-lawful (suc w) (suc r) e = record { cells = e; width-pos = omega arith; room-pos = omega arith }
