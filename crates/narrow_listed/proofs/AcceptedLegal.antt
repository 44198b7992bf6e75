-- The entries of accepted bytes are a legal description, of at most 1,008 entries.
-- Assumes nothing.
use mathlib.Core.List.{List}
use mathlib.Core.Path.{◌≡◌}
use Prim.Native.Nat.{◌≤◌, ℕ}
use lib.ListN.{length}
use Rattle.blocks.proofs.RoundTrip.Accepting.{sound-of-accepted}
use Rattle.blocks.proofs.RoundTrip.Faithful.{entries-limit}
use Rattle.blocks.specs.Entries.{entries_of}
use Rattle.blocks.specs.Promise.{Legal}
use Rattle.blocks.specs.Reading.{reading_of}
use Rattle.blocks.specs.declared.Schema.TheVariants.{Description}
use Rattle.std.specs.Prelude.{Ok}

pub legal-read : (i : ℕ) {q : ℕ} (s : List ℕ) → reading_of Description i s ≡ Ok q → Legal Description (entries_of s)
legal-read i s h = (sound-of-accepted Description i s h).entries

pub few-read : (i : ℕ) {q : ℕ} (s : List ℕ) → reading_of Description i s ≡ Ok q → length (entries_of s) ≤ 1008
few-read i s h = entries-limit (sound-of-accepted Description i s h).blocks
