-- A property and what stands beside it in a list: those, and no others, exclude it.
-- Assumes nothing.
use Rattle.std.proofs.lemmas.Iterator.Consumers.{YieldsList-from_first}
use Rattle.std.proofs.lemmas.Iterator.Search.{any_from_yields_List}
use Rattle.std.specs.Fn.{Called}
use Rattle.std.specs.Iterator.{ChecksAny, YieldsFirstBy}
use Rattle.std.specs.List.{list_any}
use denote.Param.Members.{Mut}
use Prim.Native.Nat.{◌%◌, ◌*◌, ◌+◌, ◌-◌, ◌/◌, ◌≤◌, suc, zero, ℕ}
use lib.Dec.{eqb}
use mathlib.Core.Bool.{Bool, ◌&&◌, true}
use mathlib.Core.List.{List}
use mathlib.Core.Path.{◌∙◌, ◌≡◌, ap, refl, sym}
use native.Mathlib.Omega.{arith}
use Rattle.base.proofs.Missing.{not-true}
use Rattle.base.proofs.Tests.{and_both, and_left, and_right, bool_cases, both_ways, eq-cases, eq-eqb, eqb-eq, iff-eq, or_cases, or_left, or_right}
use Rattle.blocks.specs.Words.{word_at}
use Rattle.pairs.proofs.Excluding.{excludes-turned, none-excludes, own_pair, pair-cases, pair-excludes}
use Rattle.pairs.specs.Pairs.{excludes_in, is_pair, one_of, other_of, pair_count}
use Rattle.pairs.specs.code.Index.{beside_at, named_at, named_count, partnered, partners}

module _ (P : List ℕ) where
  -- ---- a pair by the numbers of its two properties

  module _ (i : ℕ) (lo : 1 ≤ i) where
    pub first-named : named_at P (2 * i - 1) ≡ one_of P i
    unfolding named_at one_of
    first-named = let e : 2 * (2 * i - 1 - 1) ≡ 4 * (i - 1) = omega arith in ap (word_at P) e

    pub second-named : named_at P (2 * i) ≡ other_of P i
    unfolding named_at other_of
    second-named = let e : 2 * (2 * i - 1) ≡ 4 * (i - 1) + 2 = omega arith in ap (word_at P) e

    pub first-beside : beside_at P (2 * i - 1) ≡ other_of P i
    unfolding beside_at
    first-beside =
        let odd : (2 * i - 1) % 2 ≡ 1 = omega arith in
        let e : 2 * i - 1 + 1 ≡ 2 * i = omega arith in
        rw (eq-eqb odd, e) second-named

    pub second-beside : beside_at P (2 * i) ≡ one_of P i
    unfolding beside_at
    second-beside =
        let even : 2 * i % 2 ≡ 0 = omega arith in
        rw even first-named

    -- p and q are the pair exactly as one of the two numbers has them
    number-pair : {A : Type 0} (p q : ℕ) → is_pair P q p i ≡ true → (named_at P (2 * i - 1) ≡ p → beside_at P (2 * i - 1) ≡ q → A)
        → (named_at P (2 * i) ≡ p → beside_at P (2 * i) ≡ q → A) → A
    number-pair p q h odd even =
        pair-cases P q p i h
        (λ a b. even (second-named ∙ b) (second-beside ∙ a))
        (λ a b. odd (first-named ∙ a) (first-beside ∙ b))

  -- what stands beside a property excludes it
  beside-excludes : (k : ℕ) → 1 ≤ k → k ≤ named_count P → excludes_in P (beside_at P k) (named_at P k) ≡ true
  unfolding pair_count
  beside-excludes k lo hi =
      let i = (k + 1) / 2 in
      let own = pair-excludes P (one_of P i) (other_of P i) i (omega arith) (omega arith) (own_pair P i) in
      eq-cases (k % 2) 1
      (λ odd. let e : k ≡ 2 * i - 1 = omega arith in rw (e, first-named i (omega arith), first-beside i (omega arith)) (excludes-turned P (other_of P i) (one_of P i) ∙ own))
      (λ even. let e : k ≡ 2 * i = omega arith in rw (e, second-named i (omega arith), second-beside i (omega arith)) own)

-- ---- a partner that `has` holds of

pub record Partner (P : List ℕ) (has : ℕ → Bool) (p : ℕ) : Type 0 where
  pub name : ℕ
  pub held : has name ≡ true
  pub excluding : excludes_in P name p ≡ true

module _ (P : List ℕ) (has : ℕ → Bool) (p : ℕ) where
  partner-among : (n : ℕ) → n ≤ named_count P → partnered P has p n ≡ true → Partner P has p
  unfolding partnered
  partner-among zero h t = both_ways t refl
  partner-among (suc n) h t =
      let names = eqb (named_at P (suc n)) p in
      or_cases (names && has (beside_at P (suc n))) (partnered P has p n) t
      (λ here. record {
        name = beside_at P (suc n);
        held = and_right names _ here;
        excluding = ap (excludes_in P (beside_at P (suc n))) (sym (eqb-eq (and_left names _ here))) ∙ beside-excludes P (suc n) (omega arith) h;
      })
      (partner-among n (omega arith))

  -- a number that names the property beside one that is had
  partner-at : (n k : ℕ) → 1 ≤ k → k ≤ n → named_at P k ≡ p → has (beside_at P k) ≡ true → partnered P has p n ≡ true
  unfolding partnered
  partner-at zero k lo hi e h = absurd (omega arith)
  partner-at (suc n) k lo hi e h =
      eq-cases k (suc n)
      (λ z. or_left _ (and_both (eq-eqb (rw z at e)) (rw z at h)))
      (λ z. or_right (eqb (named_at P (suc n)) p && has (beside_at P (suc n))) (partner-at n k lo (omega arith) e h))

  partner-found : Partner P has p → partnered P has p (named_count P) ≡ true
  partner-found x =
      bool_cases (partnered P has p (named_count P)) (λ t. t)
      (λ f. both_ways x.excluding
      (none-excludes P x.name p (λ i lo hi.
      not-true (λ t. number-pair P i lo p x.name t
      (λ a b. both_ways (partner-at (named_count P) (2 * i - 1) (omega arith) (omega arith) a (rw b x.held)) f)
      (λ a b. both_ways (partner-at (named_count P) (2 * i) (omega arith) (omega arith) a (rw b x.held)) f)))))

  -- what is true exactly where there is such a partner
  pub partnered-is : {a : Bool} → (a ≡ true → Partner P has p) → (Partner P has p → a ≡ true) → a ≡ partnered P has p (named_count P)
  partnered-is to from = iff-eq (λ t. partner-found (to t)) (λ t. from (partner-among (named_count P) (omega arith) t))

-- one of those beside a property is one that `has` holds of
pub partnered-any : (P : List ℕ) (has : ℕ → Bool) (p k : ℕ) → partnered P has p k ≡ list_any has (partners P p k)
unfolding partnered partners
partnered-any P has p zero = refl
partnered-any P has p (suc k) =
    bool_cases (eqb (named_at P (suc k)) p)
    (λ q. rw (q, partnered-any P has p k))
    (λ q. rw (q, partnered-any P has p k))

-- `any` of the properties that exclude one, by a test that answers what `has` does
pub any-partnered : {S A F : Type 0} {v : A → ℕ} {rest : S → List ℕ} {g : Mut F (A × Unit {0}) Bool} {s : S} (P : List ℕ) (has : ℕ → Bool) (p : ℕ)
    (u : S) (f : F) (r : Bool) → ChecksAny (YieldsFirstBy v rest) g s f r u → rest s ≡ partners P p (named_count P)
    → ((x : A) (b : Bool) (q : F) → Called g f (x, tt) b q → (q ≡ f) × (b ≡ has (v x))) → r ≡ partnered P has p (named_count P)
any-partnered {v = v} {rest} {s = s} P has p u f r ran e test =
    any_from_yields_List has u f r ran (YieldsList-from_first v rest {s = s} _ e) test ∙ sym (partnered-any P has p (named_count P))
