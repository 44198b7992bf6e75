-- The entries that earn a yes, of two accepted inputs under a list of pairs that is accepted.
-- Assumes nothing.
use Prim.Native.Nat.{◌≤◌, ℕ}
use lib.ListN.{length}
use mathlib.Core.Bool.{true}
use mathlib.Core.List.{List}
use mathlib.Core.Logic.{◌≢◌}
use mathlib.Core.Path.{◌≡◌}
use native.Mathlib.Omega.{arith}
use Rattle.std.specs.Prelude.{Ok}
use Rattle.blocks.proofs.RoundTrip.Accepting.{encoded-accepted}
use Rattle.blocks.proofs.RoundTrip.Decoding.{decode-encode}
use Rattle.blocks.specs.Encoding.{encode}
use Rattle.blocks.specs.Entries.{entries_of, nth}
use Rattle.blocks.specs.Reading.{reading_of}
use Rattle.blocks.specs.declared.Entry.{Entry}
use Rattle.blocks.specs.declared.Schema.TheVariants.{Description}
use Rattle.logic.specs.Background.{Ruled}
use Rattle.meaning.proofs.Verdicts.Contained.{contained-all}
use Rattle.meaning.specs.Description.{place_of}
use Rattle.meaning.specs.Promise.{Subsumed}
use Rattle.narrow.proofs.Keeping.Earning.{earned-contained, earned-legal, earned-needed}
use Rattle.narrow.proofs.Missing.AdditionKept.{cut-fewer}
use Rattle.narrow.specs.Earned.{earned}
use Rattle.narrow.specs.Keeping.{cut, without}
use Rattle.narrow_listed.proofs.AcceptedLegal.{few-read, legal-read}
use Rattle.pairs.proofs.Under.{ruled-under}
use Rattle.pairs.specs.Pairs.{pairs_reading, under}

module _ (P c d : List ℕ) {k n m : ℕ} (r : pairs_reading P ≡ Ok k) (rc : reading_of Description 1 c ≡ Ok n)
    (rd : reading_of Description 2 d ≡ Ok m) where
  abbrev rules : Ruled (under P)
  rules = ruled-under P r

  abbrev C : List Entry
  C = entries_of c

  abbrev D : List Entry
  D = entries_of d

  -- C cut down to the marked entries, and that in blocks
  abbrev kept : List Entry
  kept = cut (earned (under P) C D) 0 C

  abbrev pub earning : List ℕ
  earning = encode kept

  pub earning-read : (i : ℕ) → reading_of Description i earning ≡ Ok (length kept)
  earning-read i =
      let few = few-read 1 c rc in
      let fewer = cut-fewer (earned (under P) C D) 0 C in
      encoded-accepted Description i kept (earned-legal rules.lawful C D (legal-read 1 c rc) (legal-read 2 d rd)) tt
      (omega arith)

  -- where C is contained in D it still is
  pub earning-contained : Subsumed (under P) (place_of C 0) (place_of D 0)
      → Subsumed (under P) (place_of (entries_of earning) 0) (place_of D 0)
  earning-contained f =
      rw (decode-encode kept)
      (earned-contained rules.lawful C D (legal-read 1 c rc) (legal-read 2 d rd)
      ((contained-all rules.lawful C D (legal-read 2 d rd)).1 f))

  -- and without any one marked entry that is no 'every' it is not
  pub earning-needs : (j : ℕ) → 1 ≤ j → j ≤ length C → (nth C j).kind ≢ 5 → earned (under P) C D j ≡ true
      → Subsumed (under P) (place_of (cut (without j (earned (under P) C D)) 0 C) 0) (place_of D 0) → ⊥
  earning-needs = earned-needed rules.lawful C D (legal-read 1 c rc) (legal-read 2 d rd)
