-- The addition as a description: it has no more entries than D; where nothing fits C and D together, nothing fits C
-- with the addition, and only then; and a set that passes the test entry by entry is the set of the fold.
-- Assumes nothing.
use Prim.Native.Nat.{◌+◌, ◌<◌, ◌≤◌, suc, ℕ}
use lib.ListN.{length}
use mathlib.Core.Bool.{Bool, false}
use mathlib.Core.List.{List, [], ◌∷◌}
use mathlib.Core.Logic.{◌↔◌}
use mathlib.Core.Path.{◌∙◌, ◌≡◌, sym}
use native.Mathlib.Omega.{arith}
use Rattle.std.specs.Prelude.{Ok}
use Rattle.base.proofs.Tests.{bool_cases}
use Rattle.blocks.proofs.RoundTrip.Accepting.{encoded-accepted}
use Rattle.blocks.specs.Encoding.{encode}
use Rattle.blocks.specs.Promise.{Legal}
use Rattle.blocks.specs.Reading.{reading_of}
use Rattle.blocks.specs.declared.Entry.{Entry}
use Rattle.blocks.specs.declared.Schema.TheVariants.{Description}
use Rattle.logic.specs.Background.{Background, Keeps, LawfulBackground}
use Rattle.logic.specs.Place.{Place}
use Rattle.logic.specs.Record.{Record, fits}
use Rattle.meaning.specs.Description.{place_of}
use Rattle.narrow.proofs.Missing.Additions.{addition-legal, missing-same}
use Rattle.narrow.proofs.Missing.BothEntries.{joined-size, legal-joined}
use Rattle.narrow.specs.Keeping.{cut}
use Rattle.narrow.specs.Missing.{both, missing}

-- a cut has no more entries than the list
pub cut-fewer : (M : ℕ → Bool) (k : ℕ) (es : List Entry) → length (cut M k es) ≤ length es
unfolding cut
cut-fewer M k [] = omega arith
cut-fewer M k (e ∷ es) =
    let h = cut-fewer M (suc k) es in
    bool_cases (M (suc k)) (λ q. rw q (omega (arith, h))) (λ q. rw q (omega (arith, h)))

-- nothing fits a place, in any record that keeps the background
abbrev pub Nothing : Background → Place → Type 0
Nothing b t = (r : Record) → Keeps b r → (x : ℕ) → x < r.size → fits r t x ≡ false

module _ {b : Background} (law : LawfulBackground b) (c d : List Entry) (C : Legal Description c) (D : Legal Description d) where
  -- the addition, in blocks, is accepted
  pub addition-accepted : (i : ℕ) → length d ≤ 1008 → reading_of Description i (encode (cut (missing b c d) 0 d)) ≡ Ok (length (cut (missing b c d) 0 d))
  addition-accepted i h =
      encoded-accepted Description i (cut (missing b c d) 0 d) (addition-legal law c d C D) tt (omega (arith, cut-fewer (missing b c d) 0 d))

  -- where nothing fits both no addition can help, and this one says so
  pub addition-possible : Nothing b (place_of (both c (cut (missing b c d) 0 d)) 0) ↔ Nothing b (place_of (both c d) 0)
  addition-possible = (
    λ f r kept x i. sym (missing-same law c d C D r kept x i) ∙ f r kept x i,
    λ f r kept x i. missing-same law c d C D r kept x i ∙ f r kept x i,
  )

  -- where both lists fit into one, C with the addition in blocks is accepted too, and so is C with all of D
  pub joined-accepted : (i : ℕ) (e : List Entry) → Legal Description e → length c + length e ≤ 1008
      → reading_of Description i (encode (both c e)) ≡ Ok (length (both c e))
  joined-accepted i e E h =
      encoded-accepted Description i (both c e) (legal-joined c e C E) tt (omega (arith, joined-size c e))
