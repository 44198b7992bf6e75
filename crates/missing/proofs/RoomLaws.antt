-- Two accepted descriptions of at most 16 blocks together have at most 1,008 entries.
-- Assumes nothing.
use Prim.Native.Nat.{◌*◌, ◌+◌, ◌≤◌, ℕ}
use lib.ListN.{length}
use mathlib.Core.List.{List}
use mathlib.Core.Path.{◌≡◌}
use native.Mathlib.Omega.{arith}
use Rattle.blocks.proofs.Format.EntryBytes.{length-entries}
use Rattle.blocks.proofs.Format.Lengths.{few-blocks, whole-blocks}
use Rattle.blocks.proofs.RoundTrip.Accepting.{sound-of-accepted}
use Rattle.blocks.proofs.RoundTrip.Faithful.{total-bound}
use Rattle.blocks.specs.Entries.{entries_of}
use Rattle.blocks.specs.Frame.{blocks_in}
use Rattle.blocks.specs.Reading.{reading_of}
use Rattle.blocks.specs.declared.Schema.TheVariants.{Description}
use Rattle.std.specs.Prelude.{Ok}

-- one of them: whole blocks, at most 16, of 63 entries each
record Sized (c : List ℕ) : Type 0 where
  pub whole : length c ≡ 512 * blocks_in c
  pub short : length c ≤ 8192
  pub few : length (entries_of c) ≤ 63 * blocks_in c

sized : (i : ℕ) (c : List ℕ) {n : ℕ} → reading_of Description i c ≡ Ok n → Sized c
sized i c e =
    let s = sound-of-accepted Description i c e in
    let whole = whole-blocks Description c s.blocks.length in
    record {
      whole = whole;
      short = omega (arith, whole, few-blocks Description c s.blocks.length);
      few = omega (arith, length-entries c, total-bound s.blocks);
    }

module _ (c d : List ℕ) {n m : ℕ} (r : reading_of Description 1 c ≡ Ok n) (q : reading_of Description 2 d ≡ Ok m) where
  pub both-short : length c + length d ≤ 16384
  both-short = omega (arith, (sized 1 c r).short, (sized 2 d q).short)

  pub few-both : length c + length d ≤ 8192 → length (entries_of c) + length (entries_of d) ≤ 1008
  few-both h = let a = sized 1 c r in let b = sized 2 d q in omega (arith, h, a.whole, a.few, b.whole, b.few)
