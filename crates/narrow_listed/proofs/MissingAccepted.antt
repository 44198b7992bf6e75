-- What fails and what is to be added, of two accepted inputs under a list of pairs that is accepted.
-- Assumes nothing.
use Prim.Native.Nat.{◌<◌, ◌≤◌, ℕ}
use lib.ListN.{length}
use mathlib.Core.Bool.{false, true}
use mathlib.Core.List.{List}
use mathlib.Core.Logic.{◌≢◌, ◌↔◌}
use mathlib.Core.Path.{◌≡◌}
use Rattle.blocks.proofs.RoundTrip.Decoding.{decode-encode}
use Rattle.blocks.specs.Encoding.{encode}
use Rattle.blocks.specs.Entries.{entries_of, nth}
use Rattle.blocks.specs.Reading.{reading_of}
use Rattle.blocks.specs.declared.Entry.{Entry}
use Rattle.blocks.specs.declared.Schema.TheVariants.{Description}
use Rattle.logic.specs.Background.{Keeps, Ruled}
use Rattle.logic.specs.Record.{Record, fits}
use Rattle.meaning.specs.Description.{place_of}
use Rattle.meaning.specs.Promise.{Subsumed}
use Rattle.narrow.proofs.Missing.AdditionKept.{addition-accepted}
use Rattle.narrow.proofs.Missing.Additions.{addition-enough, missing-needed, missing-none}
use Rattle.narrow.proofs.Missing.Failings.{failing-exactly, failing-nowhere}
use Rattle.narrow.specs.Keeping.{cut, without}
use Rattle.narrow.specs.Missing.{both, fails_at, missing, only}
use Rattle.narrow_listed.proofs.AcceptedLegal.{few-read, legal-read}
use Rattle.pairs.proofs.Under.{ruled-under}
use Rattle.pairs.specs.Pairs.{pairs_reading, under}
use Rattle.std.specs.Prelude.{Ok}

module _ (P c d : List ℕ) {k n m : ℕ} (r : pairs_reading P ≡ Ok k) (rc : reading_of Description 1 c ≡ Ok n)
    (rd : reading_of Description 2 d ≡ Ok m) where
  abbrev rules : Ruled (under P)
  rules = ruled-under P r

  abbrev C : List Entry
  C = entries_of c

  abbrev D : List Entry
  D = entries_of d

  -- which entries fail
  pub failing-byte : (j : ℕ) → 1 ≤ j → j ≤ length D → (fails_at (under P) C D j ≡ false)
      ↔ Subsumed (under P) (place_of C 0) (place_of (only D j) 0)
  failing-byte = failing-exactly rules.lawful C D (legal-read 2 d rd)

  pub failing-no-byte : ((j : ℕ) → 1 ≤ j → j ≤ length D → fails_at (under P) C D j ≡ false)
      ↔ Subsumed (under P) (place_of C 0) (place_of D 0)
  failing-no-byte = failing-nowhere rules.lawful C D (legal-read 2 d rd)

  -- the addition in blocks
  abbrev pub addition : List ℕ
  addition = encode (cut (missing (under P) C D) 0 D)

  pub addition-read : (i : ℕ) → reading_of Description i addition ≡ Ok (length (cut (missing (under P) C D) 0 D))
  addition-read i = addition-accepted rules.lawful C D (legal-read 1 c rc) (legal-read 2 d rd) i (few-read 2 d rd)

  -- what fits C and the addition fits D, in every record that keeps the list and the rule
  pub addition-fits : (s : Record) → Keeps (under P) s → (x : ℕ) → x < s.size → fits s (place_of C 0) x ≡ true
      → fits s (place_of (entries_of addition) 0) x ≡ true → fits s (place_of D 0) x ≡ true
  addition-fits s kept x i h g =
      addition-enough rules.lawful C D (legal-read 1 c rc) (legal-read 2 d rd) s kept x i h
      (rw (decode-encode (cut (missing (under P) C D) 0 D)) at g)

  -- without any one marked entry that is no 'every' it is not enough
  pub addition-needs : (j : ℕ) → 1 ≤ j → j ≤ length D → (nth D j).kind ≢ 5 → missing (under P) C D j ≡ true
      → Subsumed (under P) (place_of (both C (cut (without j (missing (under P) C D)) 0 D)) 0) (place_of D 0) → ⊥
  addition-needs = missing-needed rules.lawful C D (legal-read 1 c rc) (legal-read 2 d rd)

  -- nothing is marked exactly where C is contained in D
  pub addition-none : ((j : ℕ) → 1 ≤ j → j ≤ length D → missing (under P) C D j ≡ false)
      ↔ Subsumed (under P) (place_of C 0) (place_of D 0)
  addition-none = missing-none rules.lawful C D (legal-read 1 c rc) (legal-read 2 d rd)
