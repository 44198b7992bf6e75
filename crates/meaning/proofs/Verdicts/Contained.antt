-- What the first failing entry means: none exactly where every item that fits C fits D, and otherwise the first that C does not say.
-- Assumes nothing.
use Prim.Native.Nat.{◌<◌, ◌≤◌, ℕ}
use lib.Dec.{eqb}
use mathlib.Core.Bool.{false, true}
use mathlib.Core.List.{List}
use mathlib.Core.Logic.{◌≢◌, ◌↔◌}
use mathlib.Core.Path.{◌≡◌}
use native.Mathlib.Omega.{arith}
use Rattle.base.proofs.Missing.{not-true}
use Rattle.base.proofs.Tests.{both_ways, eq-cases, eq-eqb, eqb-ne, ne_eqb, neither_left}
use Rattle.blocks.specs.Entries.{nth}
use Rattle.blocks.specs.Promise.{Legal}
use Rattle.blocks.specs.declared.Entry.{Entry}
use Rattle.blocks.specs.declared.Schema.TheVariants.{Description}
use Rattle.logic.proofs.OneMeaning.HoldsExactly.{nf-holds-entails}
use Rattle.logic.specs.Background.{Background, LawfulBackground}
use Rattle.logic.specs.Holds.{holds}
use Rattle.logic.specs.Normal.{nf}
use Rattle.logic.specs.Place.{Place}
use Rattle.meaning.proofs.Descriptions.Paths.{fits-paths, paths-fit}
use Rattle.meaning.proofs.Verdicts.FirstLaws.{failing-least, failing-none, least-failing, none-failing}
use Rattle.meaning.specs.Description.{atom_of, links_to, place_of}
use Rattle.meaning.specs.Failing.{failing, normal_of}
use Rattle.meaning.specs.First.{entry_holds, first_failing}
use Rattle.meaning.specs.Promise.{FirstNotEntailed, EntailsEntry, Subsumed}

module _ {b : Background} (law : LawfulBackground b) (t : Place) (d : List Entry) where
  -- an entry that is no 'every' holds exactly if the place says it
  pub entry-entailed : (n : ℕ) → (nth d n).kind ≢ 5 → (entry_holds b (nf b t) d n ≡ true) ↔ EntailsEntry b t d n
  unfolding entry_holds
  entry-entailed n z = rw (ne_eqb z) (nf-holds-entails law t (links_to d n) (atom_of (nth d n)))

  -- an entry holds if the place says it or it is an 'every'
  entry-holds : (n : ℕ) → ((nth d n).kind ≢ 5 → EntailsEntry b t d n) → entry_holds b (nf b t) d n ≡ true
  unfolding entry_holds
  entry-holds n f = eq-cases (nth d n).kind 5 (λ z. rw (eq-eqb z)) (λ z. (entry-entailed n z).1 (f z))

  -- an entry that fails is no 'every'
  pub failing-kind : (n : ℕ) → entry_holds b (nf b t) d n ≡ false → (nth d n).kind ≢ 5
  unfolding entry_holds
  failing-kind n e = eqb-ne (neither_left (eqb (nth d n).kind 5) (holds b (nf b t) (links_to d n) (atom_of (nth d n))) e)

  -- the number answered is the first that the place does not say
  pub failing-not-entailed : {n : ℕ} → first_failing b (nf b t) d ≡ n → n ≢ 0 → FirstNotEntailed b t d n
  failing-not-entailed {n} e z =
      let r = failing-least b (nf b t) d e z in
      let k = failing-kind n r.fails in
      record {
        low = r.low;
        high = omega (arith, r.high);
        kind = k;
        not-entailed = λ s. both_ways ((entry-entailed n k).1 s) r.fails;
        before = λ j lo hi y. (entry-entailed j y).0 (r.before j lo hi);
      }

  -- and it is the only number of which that holds
  pub not-entailed-failing : (n : ℕ) → FirstNotEntailed b t d n → first_failing b (nf b t) d ≡ n
  not-entailed-failing n u =
      least-failing b (nf b t) d n
      (record {
        low = u.low;
        high = omega (arith, u.high);
        fails = not-true (λ e. u.not-entailed ((entry-entailed n u.kind).0 e));
        before = λ j lo hi. entry-holds j (u.before j lo hi);
      })

  -- none fails exactly if every item that fits the place fits the description
  pub contained-subsumed : Legal Description d → (first_failing b (nf b t) d ≡ 0) ↔ Subsumed b t (place_of d 0)
  contained-subsumed L = (
    λ e r kept x i h. paths-fit r d L x (λ n lo hi z. (entry-entailed n z).0 (failing-none b (nf b t) d e n lo hi) r kept x i h),
    λ f. none-failing b (nf b t) d (λ n lo hi. entry-holds n (λ z r kept x i h. fits-paths r d L x (f r kept x i h) n lo hi z)),
  )

-- ---- in all finite records that keep the background

module _ {b : Background} (law : LawfulBackground b) (c d : List Entry) where
  -- no entry of D fails exactly if in every such record each item that fits C fits D
  pub contained-all : Legal Description d → (failing b c d ≡ 0) ↔ Subsumed b (place_of c 0) (place_of d 0)
  unfolding failing normal_of
  contained-all L = contained-subsumed law (place_of c 0) d L

  -- the number answered is that of the first entry of D, apart from 'every' entries, that C does not say
  pub failing-first : {n : ℕ} → failing b c d ≡ n → n ≢ 0 → FirstNotEntailed b (place_of c 0) d n
  unfolding failing normal_of
  failing-first e z = failing-not-entailed law (place_of c 0) d e z

  -- each item that fits C meets every entry before it, apart from 'every' entries, along its links
  pub met-before : {n : ℕ} → failing b c d ≡ n → n ≢ 0 → (j : ℕ) → 1 ≤ j → j < n → (nth d j).kind ≢ 5 → EntailsEntry b (place_of c 0) d j
  met-before e z j lo hi k = (failing-first e z).before j lo hi k
