-- All entries of a second description that fail: those that the first, alone, does not say; none exactly where it is
-- contained; and the lowest is the one that the comparison names.
-- Assumes nothing.
use Prim.Native.Nat.{◌≤◌, ℕ}
use lib.Dec.{eqb}
use lib.ListN.{length}
use mathlib.Core.Bool.{Bool, false, not, true}
use mathlib.Core.List.{List}
use mathlib.Core.Logic.{◌≢◌, ◌↔◌}
use mathlib.Core.Path.{◌≡◌, ap, fun_ext, refl}
use Rattle.base.proofs.Tests.{eq-cases, eq-eqb, eqb-eq, not-to-false, or_left, true_of_not}
use Rattle.base.specs.Search.{first_from}
use Rattle.blocks.specs.Entries.{nth}
use Rattle.blocks.specs.Promise.{Legal}
use Rattle.blocks.specs.declared.Entry.{Entry}
use Rattle.blocks.specs.declared.Schema.TheVariants.{Description}
use Rattle.logic.specs.Background.{Background, LawfulBackground}
use Rattle.meaning.proofs.Verdicts.Contained.{contained-all, entry-entailed}
use Rattle.meaning.proofs.Verdicts.FirstLaws.{failing-none, none-failing}
use Rattle.meaning.specs.Description.{place_of}
use Rattle.meaning.specs.Failing.{failing, normal_of}
use Rattle.meaning.specs.First.{entry_holds, first_failing}
use Rattle.meaning.specs.Promise.{EntailsEntry, Subsumed}
use Rattle.narrow.proofs.Keeping.Cut.{cut-exactly, legal-cut}
use Rattle.narrow.proofs.Keeping.Earning.{keeps-marked, marks-owner}
use Rattle.narrow.specs.Keeping.{marked}
use Rattle.narrow.specs.Missing.{fails_at, only}

-- entry n by itself is met exactly if the entry is, along its links; an 'every' by itself always
module _ (d : List Entry) (D : Legal Description d) (n : ℕ) where
  abbrev I : ℕ → Bool
  I k = eqb k n

  abbrev marks-kept : (j : ℕ) → 1 ≤ j → j ≤ length d → I j ≡ true → marked I d j ≡ true
  marks-kept j lo hi k = or_left _ k

  pub only-legal : Legal Description (only d n)
  only-legal = legal-cut (marked I d) I d D marks-kept (marks-owner d D I) (keeps-marked d D I)

  pub entails-only : {b : Background} (c : List Entry) → ((nth d n).kind ≢ 5 → EntailsEntry b (place_of c 0) d n)
      → Subsumed b (place_of c 0) (place_of (only d n) 0)
  entails-only c f r kept x i h =
      (cut-exactly (marked I d) I d D marks-kept (marks-owner d D I) (keeps-marked d D I) r x).1
      (λ j lo hi z k.
      let e : j ≡ n = eqb-eq k in
      rw e (f (λ q. z (rw e q)) r kept x i h))

  pub only-entails : {b : Background} (c : List Entry) → 1 ≤ n → n ≤ length d → (nth d n).kind ≢ 5
      → Subsumed b (place_of c 0) (place_of (only d n) 0) → EntailsEntry b (place_of c 0) d n
  only-entails c lo hi z f r kept x i h =
      (cut-exactly (marked I d) I d D marks-kept (marks-owner d D I) (keeps-marked d D I) r x).0 (f r kept x i h) n lo hi z (eq-eqb refl)

module _ {b : Background} (law : LawfulBackground b) (c d : List Entry) where
  holds-not : (n : ℕ) → fails_at b c d n ≡ false → entry_holds b (normal_of b c) d n ≡ true
  unfolding fails_at
  holds-not n e = true_of_not (entry_holds b (normal_of b c) d n) e

  not-holds : (n : ℕ) → entry_holds b (normal_of b c) d n ≡ true → fails_at b c d n ≡ false
  unfolding fails_at
  not-holds n e = not-to-false e

  -- an 'every' never fails
  pub every-passes : (n : ℕ) → (nth d n).kind ≡ 5 → fails_at b c d n ≡ false
  unfolding entry_holds
  every-passes n z = not-holds n (rw (eq-eqb z))

  -- another entry fails exactly if C does not say it
  pub fails-entailed : (n : ℕ) → (nth d n).kind ≢ 5 → (fails_at b c d n ≡ false) ↔ EntailsEntry b (place_of c 0) d n
  unfolding normal_of
  fails-entailed n z =
      let x = entry-entailed law (place_of c 0) d n z in
      (λ e. x.0 (unfold normal_of in holds-not n e), λ f. unfold normal_of in not-holds n (x.1 f))

  module _ (D : Legal Description d) where
    -- an entry fails exactly if C is not contained in that entry and its owners alone
    pub failing-exactly : (n : ℕ) → 1 ≤ n → n ≤ length d → (fails_at b c d n ≡ false) ↔ Subsumed b (place_of c 0) (place_of (only d n) 0)
    failing-exactly n lo hi = (
      λ e. entails-only d D n {b = b} c (λ z. (fails-entailed n z).0 e),
      λ f. eq-cases (nth d n).kind 5
          (λ z. every-passes n z)
          (λ z. (fails-entailed n z).1 (only-entails d D n {b = b} c lo hi z f)),
    )

    -- none fails exactly if C is contained in D
    pub failing-nowhere : ((n : ℕ) → 1 ≤ n → n ≤ length d → fails_at b c d n ≡ false) ↔ Subsumed b (place_of c 0) (place_of d 0)
    unfolding failing
    failing-nowhere = (
      λ f. (contained-all law c d D).0 (unfold failing in none-failing b (normal_of b c) d (λ n lo hi. holds-not n (f n lo hi))),
      λ s n lo hi. not-holds n (failing-none b (normal_of b c) d (unfold failing in (contained-all law c d D).1 s) n lo hi),
    )

  -- the lowest that fails is the one that the comparison names; none is found exactly where it names none
  pub failing-lowest : first_from (λ n. not (fails_at b c d n)) 1 (length d) ≡ failing b c d
  unfolding failing fails_at first_failing
  failing-lowest = ap (λ (f : ℕ → Bool). first_from f 1 (length d)) (fun_ext (λ n. twice (entry_holds b (normal_of b c) d n)))
    where
      twice : (a : Bool) → not (not a) ≡ a
      twice true = refl
      twice false = refl
