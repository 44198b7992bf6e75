-- Whether a property has a partner that is held: what the words say of one number, and a walk along the property's chain up to the first
-- number beside which a property is held.
-- Assumes nothing.
use Rattle.std.proofs.Common.{◌≡◌, ℕ, ◌+◌, ◌-◌, ◌*◌, ◌/◌, ◌%◌, ◌≤◌, ◌≢◌, ◌∙◌, Bool, true, false, eqb, ltb, List, get_or, ap, sym, refl, arith}
use Rattle.std.specs.Int.{bit_at}
use Rattle.std.specs.List.{list_any}
use Rattle.base.proofs.Tests.{tests}
use Rattle.base.specs.Chain.{OnChain}
use Rattle.base.specs.Range.{bit}
use Rattle.pairs.proofs.IndexLaws.{partners-end, partners-hit, partners-miss, partners-start}
use Rattle.pairs.proofs.Partners.{first-beside, partnered-any, second-beside}
use Rattle.pairs.specs.Pairs.{one_of, other_of, pair_count}
use Rattle.pairs.specs.code.Index.{PairsIndexed, beside_at, bucket_of, named_at, named_count, partnered}
use Rattle.pairs.specs.code.Sides.{Marks}
use Rattle.pairs.specs.declared.sides.Sides.{Sides}

-- ---- one number

bit-is : (b : Bool) → eqb (bit b) 1 ≡ b
bit-is true = refl
bit-is false = refl

module _ {P : List ℕ} {has : ℕ → Bool} {s : Sides} (M : Marks P has s) (k : ℕ) (lo : 1 ≤ k) (hi : k ≤ named_count P) where
  abbrev pair : ℕ
  pair = (k - 1) / 2

  among : ltb pair (pair_count P) ≡ true
  among = omega (tests, lo, hi)

  -- the second of its pair stands beside an odd number, and the first beside an even one
  pub beside-odd : k % 2 ≡ 1 → eqb (bit_at s.second pair) 1 ≡ has (beside_at P k)
  beside-odd odd =
      let at : 2 * (pair + 1) - 1 ≡ k = omega arith in
      rw (M.seconds pair, among) (bit-is (has (other_of P (pair + 1))) ∙ ap has (sym (first-beside P (pair + 1) (omega arith)) ∙ ap (beside_at P) at))

  pub beside-even : k % 2 ≢ 1 → eqb (bit_at s.first pair) 1 ≡ has (beside_at P k)
  beside-even even =
      let at : 2 * (pair + 1) ≡ k = omega arith in
      rw (M.firsts pair, among) (bit-is (has (one_of P (pair + 1))) ∙ ap has (sym (second-beside P (pair + 1) (omega arith)) ∙ ap (beside_at P) at))

-- ---- the walk

module _ {P t : List ℕ} (I : PairsIndexed P t) (has : ℕ → Bool) (p : ℕ) where
  -- it begins at the last number of the bucket
  pub held-start : {k : ℕ} → k ≡ get_or t (bucket_of p) 0 → partnered P has p k ≡ partnered P has p (named_count P)
  held-start {k} e =
      partnered-any P has p k ∙ ap (list_any has) (partners-start I p e) ∙ sym (partnered-any P has p (named_count P))

  module _ {k : ℕ} (S : OnChain (λ j. bucket_of (named_at P j)) (bucket_of p) k (named_count P)) (z : k ≢ 0) {j : ℕ} (e : j ≡ get_or t (256 + k) 0) where
    -- it stops where a property that is held stands beside this one
    pub held-here : named_at P k ≡ p → has (beside_at P k) ≡ true → partnered P has p k ≡ true
    held-here h y = partnered-any P has p k ∙ ap (list_any has) (partners-hit I p S z e h) ∙ rw y refl

    -- else it goes on to the number before
    pub held-other : named_at P k ≡ p → has (beside_at P k) ≡ false → partnered P has p k ≡ partnered P has p j
    held-other h y = partnered-any P has p k ∙ ap (list_any has) (partners-hit I p S z e h) ∙ rw y (sym (partnered-any P has p j))

    pub held-miss : named_at P k ≢ p → partnered P has p k ≡ partnered P has p j
    held-miss h = partnered-any P has p k ∙ ap (list_any has) (partners-miss I p S z e h) ∙ sym (partnered-any P has p j)

  -- where it ends, none is
  pub held-end : {k : ℕ} → k ≡ 0 → partnered P has p k ≡ false
  held-end {k} z = partnered-any P has p k ∙ ap (list_any has) (partners-end P p z)
