-- The background of a list: lawful where the list is accepted, which records keep it, and that of the empty list.
-- Assumes nothing.
use Prim.Native.Nat.{◌<◌, ◌≤◌, ℕ}
use mathlib.Core.Bool.{false, false≢true, true}
use mathlib.Core.List.{List, []}
use mathlib.Core.Logic.{◌↔◌}
use mathlib.Core.Path.{◌≡◌, refl, sym}
use Rattle.base.proofs.Missing.{and-never, not-true}
use Rattle.base.proofs.Tests.{and_both, both_ways}
use Rattle.base.specs.Range.{all}
use Rattle.std.specs.Prelude.{Ok}
use Rattle.logic.proofs.Records.Kept.{lawful-standing}
use Rattle.logic.specs.Background.{Keeps, Ruled, standing}
use Rattle.logic.specs.Record.{Record}
use Rattle.pairs.proofs.Excluding.{excludes-others, excludes-turned, none-excludes, own_pair, pair-cases, pair-excludes}
use Rattle.pairs.proofs.PairsAccepted.{pairs-right}
use Rattle.blocks.specs.Faults.{first, rows_from}
use Rattle.pairs.specs.Pairs.{excludes_in, is_pair, list_wrong, one_of, other_of, pair_count, pair_faults, pairs_reading, under}
use Rattle.pairs.specs.Promise.{NoneHasBoth}

-- ---- lawful

pub ruled-under : (P : List ℕ) {n : ℕ} → pairs_reading P ≡ Ok n → Ruled (under P)
ruled-under P e = record {
  lawful = record {
    some_item = lawful-standing.some_item;
    both_ways = excludes-turned P;
    not_itself = excludes-others P (pairs-right P e);
  };
  caps = λ l. refl;
}

-- ---- the records that keep it

module _ (P : List ℕ) (r : Record) where
  kept-apart : Keeps (under P) r → NoneHasBoth P r
  kept-apart k = record {
    apart = λ i x lo hi h. k.exclusions (one_of P i) (other_of P i) x (pair-excludes P _ _ i lo hi (own_pair P i)) h;
  }

  -- a pair of two properties of one item
  clash : NoneHasBoth P r → (p q x i : ℕ) → 1 ≤ i → i ≤ pair_count P → x < r.size
      → r.property p x ≡ true → r.property q x ≡ true → is_pair P p q i ≡ false
  clash none p q x i lo hi h a b =
      not-true
      (λ t. pair-cases P p q i t
      (λ e f. both_ways (and_both a b) (rw (e, f) at (none.apart i x lo hi h)))
      (λ e f. both_ways (and_both b a) (rw (e, f) at (none.apart i x lo hi h))))

  apart-kept : Keeps standing r → NoneHasBoth P r → Keeps (under P) r
  apart-kept k none = record {
    caps = k.caps;
    exclusions = λ p q x e h. and-never (λ a b. both_ways e (none-excludes P p q (λ i lo hi. clash none p q x i lo hi h a b)));
  }

  -- [S8] records keep the list: what every record keeps, and that no item has both of a pair
  pub keeps-exactly : Keeps (under P) r ↔ (Keeps standing r × NoneHasBoth P r)
  keeps-exactly = (
    (λ k. (record { caps = k.caps; exclusions = λ p q x e h. absurd (false≢true e) }, kept-apart k)),
    (λ k. apart-kept k.0 k.1),
  )

-- ---- an empty list is none [S11]

pub under-empty : (p q : ℕ) → excludes_in [] p q ≡ false
unfolding excludes_in pair_count all
under-empty p q = refl

pub empty-standing : under [] ≡ standing
unfolding excludes_in pair_count all
empty-standing = refl

-- an empty list is accepted
pub empty-read : pairs_reading [] ≡ Ok 0
unfolding pairs_reading pair_faults list_wrong pair_count rows_from first
empty-read = refl

pub keeps-empty : (r : Record) → Keeps (under []) r ↔ Keeps standing r
keeps-empty r = ((λ k. rw empty-standing at k), (λ k. rw (sym empty-standing) at k))
