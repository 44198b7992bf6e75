-- The narrowest of two accepted inputs, under a list of pairs that is accepted.
-- Assumes nothing.
use Prim.Native.Nat.{ℕ}
use mathlib.Core.List.{List}
use mathlib.Core.Logic.{◌↔◌}
use mathlib.Core.Path.{◌≡◌}
use Rattle.blocks.specs.Entries.{entries_of}
use Rattle.blocks.specs.Reading.{reading_of}
use Rattle.blocks.specs.declared.Schema.TheVariants.{Description}
use Rattle.logic.specs.Background.{Ruled}
use Rattle.meaning.specs.Description.{place_of}
use Rattle.meaning.specs.Promise.{Subsumed}
use Rattle.narrow.proofs.Joining.NarrowestKept.{contains-narrowest, narrowest-contains}
use Rattle.narrow_listed.proofs.AcceptedLegal.{legal-read}
use Rattle.narrow_listed.proofs.NamesListed.{excluded-named, excluded-positive, names-ascend}
use Rattle.narrow_listed.specs.Listed.{names_in, narrowest_under}
use Rattle.pairs.proofs.Under.{ruled-under}
use Rattle.pairs.specs.Pairs.{pair_count, pairs_reading, under}
use Rattle.std.specs.Prelude.{Ok}

module _ (P c d : List ℕ) {k n m : ℕ} (r : pairs_reading P ≡ Ok k) (rc : reading_of Description 1 c ≡ Ok n)
    (rd : reading_of Description 2 d ≡ Ok m) where
  abbrev rules : Ruled (under P)
  rules = ruled-under P r

  -- each input is contained in the result, over every list that is not refused and every record that keeps it
  pub result-contains : Subsumed (under P) (place_of (entries_of c) 0) (place_of (narrowest_under P c d) 0)
      × Subsumed (under P) (place_of (entries_of d) 0) (place_of (narrowest_under P c d) 0)
  unfolding names_in
  result-contains =
      narrowest-contains rules.lawful (names_in P) (names-ascend P (pair_count P)) (excluded-named P) (entries_of c)
      (entries_of d) (legal-read 1 c rc) (legal-read 2 d rd) (excluded-positive P r)

  -- an accepted description contains the result exactly if it contains both
  pub result-least : (i : ℕ) (e : List ℕ) {q : ℕ} → reading_of Description i e ≡ Ok q
      → Subsumed (under P) (place_of (narrowest_under P c d) 0) (place_of (entries_of e) 0)
      ↔ (Subsumed (under P) (place_of (entries_of c) 0) (place_of (entries_of e) 0)
      × Subsumed (under P) (place_of (entries_of d) 0) (place_of (entries_of e) 0))
  unfolding names_in
  result-least i e re =
      contains-narrowest rules.lawful (names_in P) (names-ascend P (pair_count P)) (excluded-named P) (entries_of c)
      (entries_of d) (legal-read 1 c rc) (legal-read 2 d rd) (excluded-positive P r) (entries_of e)
      (legal-read i e re)
