-- A packed number gives its four fields back, each from its own bits, where they are in range, as the fields of every answer are.
-- Assumes nothing.
use Prim.Native.Nat.{◌<◌, ℕ}
use native.Mathlib.Omega.{arith}
use Rattle.packing.specs.Packing.{packed}
use Rattle.packing.specs.Promise.{Fields}

pub fields : (answer number first second : ℕ) → answer < 256 → number < 256 → first < 65536 → Fields (packed answer number first second) answer number first second
fields a n f s ha hn hf = record { low = omega arith; next = omega arith; middle = omega arith; high = omega arith }
