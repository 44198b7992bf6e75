-- The index of a list: how it is filled, and a walk along the chain of a property.
-- Assumes nothing.
use Rattle.std.proofs.lemmas.List.{take_all}
use Prim.Native.Nat.{◌+◌, ◌-◌, ◌<◌, ◌≤◌, suc, zero, ℕ}
use lib.Dec.{eqb}
use lib.ListN.{get_or, length, length-replicate, length-set, replicate, set, take}
use lib.Seq.{get_or-set_other, get_or-set_same}
use mathlib.Core.Bool.{false}
use mathlib.Core.List.{List, [], ◌∷◌}
use mathlib.Core.Logic.{◌≢◌}
use mathlib.Core.Path.{◌∙◌, ◌≡◌, ap, refl, sym}
use native.Mathlib.Omega.{arith}
use Rattle.base.proofs.ChainLaws.{chains-more, chains-start, skip-goes, skip-starts, walk-falls, walk-goes, walk-starts}
use Rattle.base.proofs.Lists.{zeros-read}
use Rattle.base.proofs.Tests.{bool_cases, both_ways, eq-eqb, eqb-eq, ne_eqb}
use Rattle.base.specs.Chain.{Chains, OnChain}
use Rattle.pairs.specs.Pairs.{pair_count}
use Rattle.pairs.specs.code.Index.{PairsIndexed, beside_at, bucket_of, indexed_to, named_at, named_count, noted, partners}

-- ---- filling

pub bucket-below : (p : ℕ) → bucket_of p < 256
bucket-below p = omega arith

-- one number more
pub indexed-more : (P t : List ℕ) (k : ℕ) {u v : List ℕ} → u ≡ indexed_to P t k → v ≡ noted P u (k + 1) → v ≡ indexed_to P t (k + 1)
unfolding indexed_to
indexed-more P t k {u} {v} e f = let z : k + 1 ≡ suc k = omega arith in rw z (rw (z, e) at f)

-- so far the chains of the first k numbers
module _ (P : List ℕ) where
  abbrev ChainsTo : List ℕ → ℕ → Type 0
  ChainsTo t k = Chains (λ j. bucket_of (named_at P j)) (λ j. get_or t (256 + j) 0) (λ b. get_or t b 0) 256 k

  noted-size : (t : List ℕ) (k : ℕ) → length (noted P t k) ≡ length t
  unfolding noted
  noted-size t k = length-set (set t (256 + k) _) (bucket_of (named_at P k)) k ∙ length-set t (256 + k) _

  noted-chains : (t : List ℕ) (k : ℕ) → length t ≡ 512 → k < 128 → ChainsTo t k → ChainsTo (noted P t (suc k)) (suc k)
  unfolding noted
  noted-chains t k size few C =
      let b = bucket_of (named_at P (suc k)) in
      let x = get_or t b 0 in
      let u = set t (256 + suc k) x in
      let small : b < 256 = bucket-below (named_at P (suc k)) in
      let long : length u ≡ 512 = length-set t (256 + suc k) x ∙ size in
      chains-more C refl (λ j z. refl) refl small
      (λ j z. get_or-set_other u b (256 + j) (suc k) 0 (λ y. omega arith) ∙ get_or-set_other t (256 + suc k) (256 + j) x 0 (λ y. omega arith))
      (get_or-set_other u b (256 + suc k) (suc k) 0 (λ y. omega arith) ∙ get_or-set_same t (256 + suc k) x 0 (omega arith))
      (λ r h z. get_or-set_other u b r (suc k) 0 z ∙ get_or-set_other t (256 + suc k) r x 0 (λ y. omega arith))
      (get_or-set_same u b (suc k) 0 (omega arith))

  indexed-chains : (t : List ℕ) (k : ℕ) → t ≡ replicate 512 0 → k ≤ 128 → (length (indexed_to P t k) ≡ 512) × ChainsTo (indexed_to P t k) k
  unfolding indexed_to
  indexed-chains t zero e h = (ap length e ∙ length-replicate {A = ℕ} 512 0, chains-start _ _ (λ b l. zeros-read 512 e b))
  indexed-chains t (suc k) e h =
      let r = indexed-chains t k e (omega arith) in
      (noted-size (indexed_to P t k) (suc k) ∙ r.0, noted-chains (indexed_to P t k) k r.0 (omega arith) r.1)

  -- a list of at most 64 pairs is indexed whole
  pub index-whole : {t u : List ℕ} {m : ℕ} → pair_count P ≤ 64 → t ≡ replicate 512 0 → m ≡ named_count P → u ≡ indexed_to P t m → PairsIndexed P u
  index-whole {t} {u} {m} few e is f =
      record { few = few; chains = rw (f, is) (indexed-chains t (named_count P) e (omega arith)).1 }

-- a list of at most 64 pairs is indexed as it is
pub list-whole : (P : List ℕ) → pair_count P ≤ 64 → take 259 P ≡ P
unfolding pair_count
list-whole P few = take_all 259 P (omega arith)

-- ---- a walk that gathers what stands beside a property

module _ {P t : List ℕ} (I : PairsIndexed P t) (p : ℕ) where
  -- a number of another bucket names another property
  partners-skip : (k : ℕ) → eqb (bucket_of (named_at P (suc k))) (bucket_of p) ≡ false → partners P p (suc k) ≡ partners P p k
  unfolding partners
  partners-skip k out =
      bool_cases (eqb (named_at P (suc k)) p)
      (λ q. both_ways (eq-eqb (ap bucket_of (eqb-eq q))) out)
      (λ q. rw q)

  -- it begins at the last number of the bucket
  module _ {k : ℕ} (e : k ≡ get_or t (bucket_of p) 0) where
    pub partners-reached : OnChain (λ j. bucket_of (named_at P j)) (bucket_of p) k (named_count P)
    partners-reached = walk-starts I.chains (bucket_of p) (bucket-below p) e

    pub partners-start : partners P p k ≡ partners P p (named_count P)
    partners-start = sym (skip-starts I.chains (bucket_of p) (bucket-below p) e (partners P p) partners-skip)

  -- it goes on to the number before
  module _ {k : ℕ} (S : OnChain (λ j. bucket_of (named_at P j)) (bucket_of p) k (named_count P)) (z : k ≢ 0) {j : ℕ} (e : j ≡ get_or t (256 + k) 0) where
    pub partners-goes : OnChain (λ i. bucket_of (named_at P i)) (bucket_of p) j (named_count P)
    partners-goes = walk-goes I.chains (bucket_of p) S z e

    pub partners-falls : j < k
    partners-falls = walk-falls I.chains (bucket_of p) S z e

    pub partners-hit : named_at P k ≡ p → partners P p k ≡ beside_at P k ∷ partners P p j
    unfolding partners
    partners-hit h =
        let up : k ≡ suc (k - 1) = omega arith in
        ap (partners P p) up ∙ rw (← up, eq-eqb h) (ap (λ (ys : List ℕ). beside_at P k ∷ ys) (skip-goes I.chains (bucket_of p) S z e (partners P p) partners-skip))

    pub partners-miss : named_at P k ≢ p → partners P p k ≡ partners P p j
    unfolding partners
    partners-miss h =
        let up : k ≡ suc (k - 1) = omega arith in
        ap (partners P p) up ∙ rw (← up, ne_eqb h) (skip-goes I.chains (bucket_of p) S z e (partners P p) partners-skip)

-- where it ends, nothing is left
pub partners-end : (P : List ℕ) (p : ℕ) {k : ℕ} → k ≡ 0 → partners P p k ≡ []
unfolding partners
partners-end P p z = rw z
