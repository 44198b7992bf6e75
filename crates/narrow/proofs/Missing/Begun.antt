-- Leaving out may begin with the entries that fail: what C says by itself goes at once, and the set that is found is
-- the same.
-- Assumes nothing.
use Prim.Native.Nat.{◌≤◌, ℕ}
use lib.ListN.{length}
use mathlib.Core.Bool.{Bool, ◌&&◌, false, true}
use mathlib.Core.List.{List}
use mathlib.Core.Logic.{◌≢◌}
use mathlib.Core.Path.{◌∙◌, ◌≡◌, ap, refl}
use Rattle.base.proofs.Tests.{and_both, and_left, bool_cases, iff-eq}
use Rattle.blocks.specs.Entries.{nth}
use Rattle.blocks.specs.Promise.{Legal}
use Rattle.blocks.specs.declared.Entry.{Entry}
use Rattle.blocks.specs.declared.Schema.TheVariants.{Description}
use Rattle.logic.specs.Background.{Background, LawfulBackground}
use Rattle.narrow.proofs.Missing.Additions.{all-complete, completes-subsumed, more, said-goes, with-exactly}
use Rattle.narrow.proofs.Missing.Failings.{fails-entailed}
use Rattle.narrow.proofs.Keeping.OnlySet.{fold-within, within}
use Rattle.narrow.proofs.Keeping.Thinned.{fits-exactly}
use Rattle.narrow.specs.Earned.{sayers}
use Rattle.narrow.specs.Keeping.{keep_from}
use Rattle.narrow.specs.Missing.{completes, fails_at, lacking}

module _ {b : Background} (law : LawfulBackground b) (c d : List Entry) (C : Legal Description c) (D : Legal Description d) where
  abbrev F : ℕ → Bool
  F = fails_at b c d

  abbrev P : (ℕ → Bool) → Bool
  P = completes b c d

  -- entries that C says may be left out of any set, all at once
  pub same-within : (K : ℕ → Bool) → P (within P F K) ≡ P K
  same-within K =
      iff-eq
      (λ e. more law c d C D (within P F K) K (λ k z. and_left (K k) (F k) z) e)
      (λ e. (completes-subsumed law c d C D (within P F K)).1
      (λ r kept x i h.
      let y = (with-exactly law c d C D (within P F K) r x).0 h in
      (completes-subsumed law c d C D K).0 e r kept x i
      ((with-exactly law c d C D K r x).1 (
        y.0,
        (fits-exactly K d D r x).1
            (λ n lo hi z k. bool_cases (F n)
            (λ q. (fits-exactly (within P F K) d D r x).0 y.1 n lo hi z (and_both k q))
            (λ q. (fails-entailed law c d n z).0 q r kept x i y.0)),
      ))))

  -- so leaving out may begin with the entries that fail
  pub begun-failing : (n : ℕ) → 1 ≤ n → n ≤ length d → (nth d n).kind ≢ 5
      → keep_from P (length d) (within P F (sayers d)) n ≡ lacking b c d n
  unfolding lacking
  begun-failing n lo hi z =
      ap (λ (K : ℕ → Bool). K n) (fold-within P F same-within (length d) (sayers d) (all-complete law c d C D))
      ∙ bool_cases (F n)
      (λ q. rw q (keep-one (keep_from P (length d) (sayers d) n)))
      (λ q.
      let g : keep_from P (length d) (sayers d) n ≡ false = unfold lacking in said-goes law c d C D n lo hi z ((fails-entailed law c d n z).0 q) in
      rw (q, g))
    where
      keep-one : (a : Bool) → (a && true) ≡ a
      keep-one true = refl
      keep-one false = refl
