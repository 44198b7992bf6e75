-- Reading the blocks of an input before its entries: what that says of the whole.
-- Assumes nothing.
use Prim.Native.Nat.{◌*◌, ◌≤◌, ℕ}
use lib.ListN.{length}
use mathlib.Core.List.{List, ◌∷◌}
use mathlib.Core.Path.{◌∙◌, ◌≡◌, sym}
use native.Mathlib.Omega.{arith}
use Rattle.blocks.proofs.Format.EntryBytes.{length-entries}
use Rattle.blocks.proofs.Refusing.BlockLaws.{blocks-none}
use Rattle.blocks.proofs.Refusing.FirstFault.{clean-none, first-append}
use Rattle.blocks.proofs.Refusing.Readings.{accepted-finding, refused-finding}
use Rattle.blocks.proofs.RoundTrip.Faithful.{entries-limit, entries-whole}
use Rattle.blocks.proofs.RoundTrip.Unbroken.{Unbroken}
use Rattle.blocks.specs.Entries.{entries_of, limit_of}
use Rattle.blocks.specs.Faults.{Fault, block_faults, entry_faults, fault, faults, first, length_wrong}
use Rattle.blocks.specs.Frame.{blocks_in, plain, total_in}
use Rattle.blocks.specs.Promise.{NoneApplies}
use Rattle.blocks.specs.Reading.{answer, reading_of, Reading}
use Rattle.blocks.specs.code.Blockwise.{Whole}
use Rattle.std.specs.Prelude.{Ok}
use Rattle.blocks.specs.Refusals.{refused}
use Rattle.blocks.specs.declared.Schema.TheVariants.{Description, Named, Specimen}
use Rattle.blocks.specs.declared.Schema.{Schema}
use Rattle.blocks.specs.declared.Cause.{Cause}
use Rattle.blocks.specs.declared.Cause.TheVariants.{Length}

-- numbers 1 to 3 of entries of 8 bytes
abbrev pub plain_faults : Schema → List ℕ → List Fault
plain_faults σ s = fault (length_wrong σ s) Length 0 ∷ block_faults plain s (blocks_in s) 0 (blocks_in s)

limit-most : (σ : Schema) → limit_of σ ≤ 32
limit-most Description = omega arith
limit-most Specimen = omega arith
limit-most (Named most) = omega arith

module _ (σ : Schema) (i : ℕ) (s : List ℕ) {r : Reading} (e : r ≡ answer i (total_in plain s) (first (plain_faults σ s))) where
  abbrev rows : List Fault
  rows = entry_faults σ (entries_of s) 1 (length (entries_of s))

  -- what is refused by them is refused so
  pub blocks-refused : {k : Cause} {j p : ℕ} → r ≡ refused k j p → reading_of σ i s ≡ refused k j p
  unfolding reading_of faults
  blocks-refused q =
      let f = refused-finding i (total_in plain s) (first (plain_faults σ s)) (sym e ∙ q) in
      rw (first-append (plain_faults σ s) rows, f.1, f.0)

  module _ {n : ℕ} (q : r ≡ Ok n) where
    -- else its blocks are sound
    pub blocks-unbroken : Unbroken plain σ s
    unfolding NoneApplies
    blocks-unbroken =
        let f = accepted-finding i (total_in plain s) (first (plain_faults σ s)) (sym e ∙ q) in
        let h = clean-none (plain_faults σ s) f.1 in
        let m = blocks_in s in
        record {
          length = h.0;
          check = λ k l. (blocks-none plain s m 0 m h.1 k (omega arith) (omega arith)).0;
          frame = λ k l. (blocks-none plain s m 0 m h.1 k (omega arith) (omega arith)).1;
        }

    -- with so many entries, which can be gone over
    pub blocks-whole : (n ≡ length (entries_of s)) × (n ≤ 63 * limit_of σ) × Whole s n × (n ≤ 2016)
    blocks-whole =
        let f = accepted-finding i (total_in plain s) (first (plain_faults σ s)) (sym e ∙ q) in
        let count : n ≡ length (entries_of s) = f.0 ∙ sym (length-entries s) in
        let few = entries-limit blocks-unbroken in
        (count, omega arith, rw count (entries-whole blocks-unbroken), omega (arith, limit-most σ))

    -- and these decide
    pub blocks-accepted : reading_of σ i s ≡ answer i n (first (entry_faults σ (entries_of s) 1 n))
    unfolding reading_of faults
    blocks-accepted =
        let f = accepted-finding i (total_in plain s) (first (plain_faults σ s)) (sym e ∙ q) in
        let count : n ≡ length (entries_of s) = f.0 ∙ sym (length-entries s) in
        rw (first-append (plain_faults σ s) rows, f.1, ← f.0, ← count)
