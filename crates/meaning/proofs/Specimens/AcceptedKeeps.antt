-- Of bytes: a specimen that is accepted has a record that keeps the standing rule, and one whose entries are legal and whose record keeps
-- it is not refused as 9.
-- Assumes nothing.
use Prim.Native.Nat.{ℕ}
use mathlib.Core.List.{List}
use mathlib.Core.Path.{◌≡◌}
use native.Mathlib.Omega.{arith}
use Rattle.blocks.proofs.RoundTrip.Accepting.{sound-of-accepted}
use Rattle.blocks.proofs.RoundTrip.RefusalNumbers.{legal-number}
use Rattle.blocks.specs.Entries.{entries_of}
use Rattle.blocks.specs.Promise.{Legal}
use Rattle.blocks.specs.Reading.{reading_of}
use Rattle.std.specs.Prelude.{Ok}
use Rattle.blocks.specs.Refusals.{refused}
use Rattle.blocks.specs.declared.Schema.TheVariants.{Specimen}
use Rattle.logic.specs.Background.{Keeps, standing}
use Rattle.meaning.proofs.Specimens.SingleKeeps.{keeps-single, single-keeps}
use Rattle.meaning.specs.Specimen.{record_of}
use Rattle.blocks.specs.declared.Cause.TheVariants.{Double}

module _ (i : ℕ) (s : List ℕ) where
  pub accepted-keeps : {n : ℕ} → reading_of Specimen i s ≡ Ok n → Keeps standing (record_of (entries_of s))
  accepted-keeps e = single-keeps (entries_of s) (sound-of-accepted Specimen i s e).further

  -- what such a specimen may still be refused by are its length and its blocks
  pub kept-not-nine : {j p : ℕ} → Legal Specimen (entries_of s) → Keeps standing (record_of (entries_of s))
      → reading_of Specimen i s ≡ refused Double j p → ⊥
  kept-not-nine L K e = omega (arith, legal-number Specimen i s e L (keeps-single L K))
