-- How many entries an accepted description has by its length, and tables that have room for them.
-- Assumes nothing.
use Prim.Native.Nat.{◌*◌, ◌+◌, ◌<◌, ◌≤◌, min, ℕ}
use lib.Dec.{leb}
use lib.ListN.{length, length-replicate, replicate}
use mathlib.Core.Bool.{Bool, ◌&&◌, true}
use mathlib.Core.List.{List}
use mathlib.Core.Path.{◌∙◌, ◌≡◌, sym}
use native.Mathlib.Omega.{arith}
use Rattle.base.proofs.Tests.{and_left, and_right, leb-le}
use Rattle.blocks.proofs.Format.EntryBytes.{length-entries}
use Rattle.blocks.proofs.Format.Lengths.{few-blocks, whole-blocks}
use Rattle.blocks.proofs.RoundTrip.Accepting.{none-of-accepted, sound-of-accepted}
use Rattle.blocks.proofs.RoundTrip.Faithful.{total-bound}
use Rattle.blocks.specs.Entries.{entries_of}
use Rattle.blocks.specs.Reading.{reading_of}
use Rattle.std.specs.Prelude.{Ok}
use Rattle.blocks.specs.declared.Schema.TheVariants.{Description}
use Rattle.compare.specs.code.Prepared.{Roomy}
use Rattle.slots.specs.code.Standing.{BothRead}

-- an accepted description: how many entries it has, and how long it is
pub record Counted (c : List ℕ) (n : ℕ) : Type 0 where
  pub total : n ≡ length (entries_of c)
  pub few : 512 * n ≤ 63 * length c
  pub short : length c ≤ 8192

pub accepted-counted : (i : ℕ) (c : List ℕ) {n : ℕ} → reading_of Description i c ≡ Ok n → Counted c n
accepted-counted i c e =
    let s = sound-of-accepted Description i c e in
    let whole = whole-blocks Description c s.blocks.length in
    let total = (none-of-accepted Description i c e).1 in
    record {
      total = total;
      few = omega (arith, total, length-entries c, total-bound s.blocks, whole);
      short = omega (arith, whole, few-blocks Description c s.blocks.length);
    }

-- a table of k numbers has room for each entry that a description of this length can have, and one more
pub roomy : (c : List ℕ) (k : ℕ) → 63 * min (length c) 8192 < 512 * k → Roomy c (replicate k 0)
roomy c k h n e = let a = accepted-counted 1 c e in omega (arith, a.few, a.short, length-replicate {A = ℕ} k 0)

-- two descriptions of at most so many bytes each, by a test that was made
pub both-within : (c d : List ℕ) (most : ℕ) {b : Bool} → b ≡ (leb (length c) most && leb (length d) most) → b ≡ true → (length c ≤ most) × (length d ≤ most)
both-within c d most e h =
    let both = sym e ∙ h in
    (leb-le (and_left (leb (length c) most) (leb (length d) most) both), leb-le (and_right (leb (length c) most) (leb (length d) most) both))

-- two accepted descriptions: how many entries they have together, and how long they are
pub both-few : {c d : List ℕ} → BothRead c d → 512 * (length (entries_of c) + length (entries_of d)) ≤ 63 * (length c + length d)
both-few {c} {d} r =
    let a = accepted-counted 1 c r.first_read in
    let b = accepted-counted 2 d r.second-read in
    omega (arith, a.total, a.few, b.total, b.few)

pub both-short : {c d : List ℕ} → BothRead c d → length c + length d ≤ 16384
both-short {c} {d} r = omega (arith, (accepted-counted 1 c r.first_read).short, (accepted-counted 2 d r.second-read).short)
