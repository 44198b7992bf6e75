-- Pairs as bits: the bits of one number, how they gather along a chain, and what two words of them say of a property.
-- Assumes nothing.
use Rattle.std.proofs.Common.{◌≡◌, ℕ, zero, suc, ◌+◌, ◌-◌, ◌*◌, ◌/◌, ◌%◌, ◌^◌, ◌<◌, ◌≤◌, ◌≢◌, ◌∙◌, Bool, ◌&&◌, ◌||◌, true, false, eqb, leb, ltb, List, get_or, max, min, bit_and, ap, sym, refl, arith}
use Rattle.std.proofs.Math.Nat.{mod-eq_of_lt}
use Rattle.std.proofs.Math.Pow.{pow-lt}
use Rattle.std.proofs.lemmas.Nat.Bits.{bit_at_and, bit_at_or, bit_at-pow_other, bit_at-pow_same, bit_at-suc, bit_at-zero, bit_at_lowest}
use Rattle.std.specs.Int.{bit_at}
use Rattle.std.specs.Int.RustNames.{bit_or}
use Rattle.base.proofs.ChainLaws.{skip-goes, skip-starts}
use Rattle.base.proofs.Missing.{not-true}
use Rattle.base.proofs.Tests.{and_both, and_left, and_right, bool_cases, both_ways, eq-cases, eq-eqb, eqb-eq, eqb-ne, iff-eq, le-leb, leb-le, lt-ltb, ltb-lt, not-to-true, or_cases, or_left, or_right, tests, false_of_not}
use Rattle.base.specs.Chain.{OnChain}
use Rattle.base.specs.Range.{bit}
use Rattle.pairs.proofs.Excluding.{none-excludes, own_pair, pair-cases, pair-excludes, excludes-turned}
use Rattle.pairs.proofs.IndexLaws.{bucket-below}
use Rattle.pairs.proofs.Partners.{Partner, first-named, partnered-is, second-named}
use Rattle.pairs.specs.Pairs.{excludes_in, one_of, other_of, pair_count}
use Rattle.pairs.specs.code.Index.{PairsIndexed, bucket_of, named_at, named_count, partnered}
use Rattle.pairs.specs.code.Sides.{Marks, excluding, joined, no_sides}
use Rattle.pairs.specs.declared.sides.Sides.{Sides}

-- ---- one bit

bit-or : (a b : Bool) → max (bit a) (bit b) ≡ bit (a || b)
bit-or true true = refl
bit-or true false = refl
bit-or false true = refl
bit-or false false = refl

bit-one : {b : Bool} → bit b ≡ 1 → b ≡ true
bit-one {b = true} e = refl
bit-one {b = false} e = absurd (omega arith)

bit-none : {b : Bool} → bit b ≡ 0 → b ≡ false
bit-none {b = true} e = absurd (omega arith)
bit-none {b = false} e = refl

-- a word with bit `pair`, if r is 1, and no other
pub single-bit : {r pair i : ℕ} {b : Bool} → r < 2 → pair < 64 → (b ≡ true → (i ≡ pair) × (r ≡ 1)) → (b ≡ false → r ≡ 1 → i ≢ pair)
    → bit_at (r * 2 ^ pair % 18446744073709551616) i ≡ bit b
single-bit {r} {pair} {i} {b} h few own other =
    let small : 2 ^ pair < 2 ^ 64 = pow-lt few in
    eq-cases r 0
    (λ z.
    let none : b ≡ false = not-true (λ t. omega (arith, (own t).1)) in
    let nothing : 0 * 2 ^ pair ≡ 0 = omega arith in
    rw (z, none, nothing) (bit_at-zero i))
    (λ z.
    let one : r ≡ 1 = omega arith in
    let once : 1 * 2 ^ pair ≡ 2 ^ pair = omega arith in
    let same : 2 ^ pair % 18446744073709551616 ≡ 2 ^ pair = mod-eq_of_lt small in
    rw (one, once, same) (bool_cases b
    (λ t. rw (t, (own t).0) (bit_at-pow_same pair))
    (λ f. rw f (bit_at-pow_other pair i (other f one)))))

-- ---- a walk along the chain of a property

-- number j is above k and names p
abbrev pub named_above : List ℕ → ℕ → ℕ → ℕ → Bool
named_above P p k j = ltb k j && (leb j (named_count P) && eqb (named_at P j) p)

record Above (P : List ℕ) (p k j : ℕ) : Type 0 where
  pub above : k < j
  pub among : j ≤ named_count P
  pub names : named_at P j ≡ p

above : (P : List ℕ) (p k j : ℕ) → named_above P p k j ≡ true → Above P p k j
above P p k j h =
    let r = and_right (ltb k j) (leb j (named_count P) && eqb (named_at P j) p) h in
    record {
      above = ltb-lt (and_left (ltb k j) (leb j (named_count P) && eqb (named_at P j) p) h);
      among = leb-le (and_left (leb j (named_count P)) (eqb (named_at P j) p) r);
      names = eqb-eq (and_right (leb j (named_count P)) (eqb (named_at P j) p) r);
    }

is-above : (P : List ℕ) (p k j : ℕ) → k < j → j ≤ named_count P → named_at P j ≡ p → named_above P p k j ≡ true
is-above P p k j h m e = and_both (lt-ltb h) (and_both (le-leb m) (eq-eqb e))

-- the bits of the numbers above k are there
pub record Walked (P : List ℕ) (p k : ℕ) (s : Sides) : Type 0 where
  pub firsts : (i : ℕ) → bit_at s.first i ≡ bit (named_above P p k (2 * i + 1))
  pub seconds : (i : ℕ) → bit_at s.second i ≡ bit (named_above P p k (2 * i + 2))

module _ {P t : List ℕ} (I : PairsIndexed P t) (p : ℕ) where
  -- a number of another bucket names another property
  above-skip : (j k : ℕ) → eqb (bucket_of (named_at P (suc k))) (bucket_of p) ≡ false → named_above P p (suc k) j ≡ named_above P p k j
  above-skip j k out =
      iff-eq
      (λ h. let a = above P p (suc k) j h in is-above P p k j (omega (arith, a.above)) a.among a.names)
      (λ h.
      let a = above P p k j h in
      eq-cases j (suc k)
      (λ z. absurd (eqb-ne out (ap bucket_of (ap (named_at P) (sym z) ∙ a.names))))
      (λ z. is-above P p (suc k) j (omega (arith, a.above)) a.among a.names))

  above-end : (j : ℕ) → named_above P p (named_count P) j ≡ false
  above-end j = not-true (λ h. let a = above P p (named_count P) j h in omega (arith, a.above, a.among))

  -- it begins at the last number of the bucket
  module _ {k : ℕ} (e : k ≡ get_or t (bucket_of p) 0) where
    start-none : (j : ℕ) → 0 ≡ bit (named_above P p k j)
    start-none j =
        let skipped = skip-starts I.chains (bucket_of p) (bucket-below p) e (λ i. named_above P p i j) (above-skip j) in
        rw (← skipped, above-end j) refl

    pub walked-start : Walked P p k no_sides
    walked-start = record {
      firsts = λ i. bit_at-zero i ∙ start-none (2 * i + 1);
      seconds = λ i. bit_at-zero i ∙ start-none (2 * i + 2);
    }

  -- it goes on to the number before
  module _ {k : ℕ} (S : OnChain (λ j. bucket_of (named_at P j)) (bucket_of p) k (named_count P)) (z : k ≢ 0) {j : ℕ} (e : j ≡ get_or t (256 + k) 0) where
    goes : (m : ℕ) → named_above P p (k - 1) m ≡ named_above P p j m
    goes m = skip-goes I.chains (bucket_of p) S z e (λ i. named_above P p i m) (above-skip m)

    hit : named_at P k ≡ p → (m : ℕ) → (named_above P p k m || eqb m k) ≡ named_above P p j m
    hit h m =
        iff-eq
        (λ t. or_cases (named_above P p k m) (eqb m k) t
        (λ y. let a = above P p k m y in is-above P p (k - 1) m (omega (arith, a.above)) a.among a.names)
        (λ y. let same : m ≡ k = eqb-eq y in is-above P p (k - 1) m (omega arith) (omega (arith, S.bound)) (ap (named_at P) same ∙ h)))
        (λ t.
        let a = above P p (k - 1) m t in
        eq-cases m k
        (λ q. or_right (named_above P p k m) (eq-eqb q))
        (λ q. or_left (eqb m k) (is-above P p k m (omega (arith, a.above)) a.among a.names)))
        ∙ goes m

    miss : named_at P k ≢ p → (m : ℕ) → named_above P p k m ≡ named_above P p j m
    miss h m =
        iff-eq
        (λ y. let a = above P p k m y in is-above P p (k - 1) m (omega (arith, a.above)) a.among a.names)
        (λ y.
        let a = above P p (k - 1) m y in
        eq-cases m k
        (λ q. absurd (h (ap (named_at P) (sym q) ∙ a.names)))
        (λ q. is-above P p k m (omega (arith, a.above)) a.among a.names))
        ∙ goes m

    pub walked-hit : {s : Sides} (u : Sides) → Walked P p k s → named_at P k ≡ p
        → ((i : ℕ) → bit_at u.first i ≡ bit (eqb (2 * i + 1) k)) → ((i : ℕ) → bit_at u.second i ≡ bit (eqb (2 * i + 2) k))
        → Walked P p j (joined s u)
    walked-hit {s} u W h f g = record {
      firsts = λ i. bit_at_or s.first u.first i ∙ rw (W.firsts i, f i) (bit-or _ _) ∙ ap bit (hit h (2 * i + 1));
      seconds = λ i. bit_at_or s.second u.second i ∙ rw (W.seconds i, g i) (bit-or _ _) ∙ ap bit (hit h (2 * i + 2));
    }

    pub walked-miss : {s : Sides} → Walked P p k s → named_at P k ≢ p → Walked P p j s
    walked-miss W h = record {
      firsts = λ i. W.firsts i ∙ ap bit (miss h (2 * i + 1));
      seconds = λ i. W.seconds i ∙ ap bit (miss h (2 * i + 2));
    }

  -- where it ends, all of them are there
  end-is : (i j : ℕ) {x : ℕ} → 2 * i + 1 ≤ j → j ≤ 2 * i + 2 → named_at P j ≡ x → named_above P p 0 j ≡ (ltb i (pair_count P) && eqb x p)
  end-is i j lo hi e =
      let few : leb j (named_count P) ≡ ltb i (pair_count P) = iff-eq (λ h. omega (tests, h)) (λ h. omega (tests, h)) in
      let some : ltb 0 j ≡ true = omega (tests, lo) in
      rw (some, few, e) refl

  pub walked-end : {k : ℕ} {s : Sides} → Walked P p k s → k ≡ 0 → Marks P (λ q. eqb q p) s
  walked-end W z =
      let at : (i : ℕ) → 2 * (i + 1) - 1 ≡ 2 * i + 1 = λ i. omega arith in
      let beside : (i : ℕ) → 2 * (i + 1) ≡ 2 * i + 2 = λ i. omega arith in
      record {
        firsts = λ i. W.firsts i ∙ ap bit (rw z (end-is i (2 * i + 1) (omega arith) (omega arith) (ap (named_at P) (sym (at i)) ∙ first-named P (i + 1) (omega arith))));
        seconds = λ i. W.seconds i ∙ ap bit (rw z (end-is i (2 * i + 2) (omega arith) (omega arith) (ap (named_at P) (sym (beside i)) ∙ second-named P (i + 1) (omega arith))));
      }

-- a property whose bucket is empty is in no pair
pub marks-bucket : {P t : List ℕ} → PairsIndexed P t → (p : ℕ) → get_or t (bucket_of p) 0 ≡ 0 → Marks P (λ q. eqb q p) no_sides
marks-bucket I p z = walked-end I p (walked-start I p (sym z)) refl

-- ---- what they say of properties

module _ (P : List ℕ) where
  pub marks-none : Marks P (λ q. false) no_sides
  marks-none =
      let none : (i : ℕ) → 0 ≡ bit (ltb i (pair_count P) && false) = λ i. bool_cases (ltb i (pair_count P)) (λ q. rw q refl) (λ q. rw q refl) in
      record { firsts = λ i. bit_at-zero i ∙ none i; seconds = λ i. bit_at-zero i ∙ none i }

  pub marks-same : {f g : ℕ → Bool} {s : Sides} → ((q : ℕ) → f q ≡ g q) → Marks P f s → Marks P g s
  marks-same same M = record {
    firsts = λ i. M.firsts i ∙ rw (same (one_of P (i + 1))) refl;
    seconds = λ i. M.seconds i ∙ rw (same (other_of P (i + 1))) refl;
  }

  -- a list that has no pair marks nothing
  pub marks-empty : {f : ℕ → Bool} → pair_count P ≡ 0 → Marks P f no_sides
  marks-empty {f} z =
      let none : (i : ℕ) → ltb i (pair_count P) ≡ false = λ i. omega (tests, z) in
      record { firsts = λ i. bit_at-zero i ∙ rw (none i) refl; seconds = λ i. bit_at-zero i ∙ rw (none i) refl }

  beside : (a b c : Bool) → 0 ≡ bit (a && c) → bit (a && b) ≡ bit (a && (b || c))
  beside true b true e = absurd (omega arith)
  beside true true false e = refl
  beside true false false e = refl
  beside false b c e = refl

  -- properties that no pair has alter nothing
  pub marks-beside : {f g : ℕ → Bool} {s : Sides} → Marks P f s → Marks P g no_sides → Marks P (λ q. f q || g q) s
  marks-beside {f} {g} {s} M N = record {
    firsts = λ i. M.firsts i ∙ beside (ltb i (pair_count P)) (f (one_of P (i + 1))) (g (one_of P (i + 1))) (sym (bit_at-zero i) ∙ N.firsts i);
    seconds = λ i. M.seconds i ∙ beside (ltb i (pair_count P)) (f (other_of P (i + 1))) (g (other_of P (i + 1))) (sym (bit_at-zero i) ∙ N.seconds i);
  }

  -- nor do they under a further test
  pub marks-when : (c : Bool) {g : ℕ → Bool} → Marks P g no_sides → Marks P (λ q. c && g q) no_sides
  marks-when true N = N
  marks-when false N = marks-none

  either : (a b c : Bool) → max (bit (a && b)) (bit (a && c)) ≡ bit (a && (b || c))
  either true b c = bit-or b c
  either false b c = refl

  pub marks-join : {f g : ℕ → Bool} {s t : Sides} → Marks P f s → Marks P g t → Marks P (λ q. f q || g q) (joined s t)
  marks-join {f} {g} {s} {t} M N = record {
    firsts = λ i. bit_at_or s.first t.first i
        ∙ rw (M.firsts i, N.firsts i) (either (ltb i (pair_count P)) (f (one_of P (i + 1))) (g (one_of P (i + 1))));
    seconds = λ i. bit_at_or s.second t.second i
        ∙ rw (M.seconds i, N.seconds i) (either (ltb i (pair_count P)) (f (other_of P (i + 1))) (g (other_of P (i + 1))));
  }

-- a number other than 0 has a bit
record SomeBit (n : ℕ) : Type 0 where
  pub at : ℕ
  pub one : bit_at n at ≡ 1

some-bit : (f n : ℕ) → n ≤ f → n ≢ 0 → SomeBit n
some-bit zero n h z = absurd (omega arith)
some-bit (suc f) n h z =
    eq-cases (n % 2) 1
    (λ o. record { at = 0; one = bit_at_lowest n ∙ o })
    (λ o. let r = some-bit f (n / 2) (omega arith) (omega arith) in record { at = suc r.at; one = bit_at-suc n r.at ∙ r.one })

met : (a b c d : Bool) → max (min (bit a) (bit d)) (min (bit b) (bit c)) ≡ bit ((a && d) || (b && c))
met true true true true = refl
met true true true false = refl
met true true false true = refl
met true true false false = refl
met true false true true = refl
met true false true false = refl
met true false false true = refl
met true false false false = refl
met false true true true = refl
met false true true false = refl
met false true false true = refl
met false true false false = refl
met false false true true = refl
met false false true false = refl
met false false false true = refl
met false false false false = refl

-- some of the properties that the one has are excluded by that of the other
module _ (P : List ℕ) (has : ℕ → Bool) (p : ℕ) where
  -- pair i has it so, on either side
  abbrev one_side : (ℕ → ℕ) → (ℕ → ℕ) → ℕ → Bool
  one_side of to i = (ltb i (pair_count P) && has (of (i + 1))) && (ltb i (pair_count P) && eqb (to (i + 1)) p)

  abbrev meets : ℕ → Bool
  meets i = one_side (one_of P) (other_of P) i || one_side (other_of P) (one_of P) i

  record OneSide (of to : ℕ → ℕ) (i : ℕ) : Type 0 where
    pub few : i < pair_count P
    pub held : has (of (i + 1)) ≡ true
    pub other : to (i + 1) ≡ p

  side-true : (of to : ℕ → ℕ) (i : ℕ) → one_side of to i ≡ true → OneSide of to i
  side-true of to i h =
      let b = ltb i (pair_count P) in
      let x = and_left (b && has (of (i + 1))) (b && eqb (to (i + 1)) p) h in
      record {
        few = ltb-lt (and_left b (has (of (i + 1))) x);
        held = and_right b (has (of (i + 1))) x;
        other = eqb-eq (and_right b (eqb (to (i + 1)) p) (and_right (b && has (of (i + 1))) (b && eqb (to (i + 1)) p) h));
      }

  partner-met : (i : ℕ) → meets i ≡ true → Partner P has p
  partner-met i h =
      or_cases (one_side (one_of P) (other_of P) i) (one_side (other_of P) (one_of P) i) h
      (λ y.
      let a = side-true (one_of P) (other_of P) i y in
      record {
        name = one_of P (i + 1);
        held = a.held;
        excluding = ap (excludes_in P (one_of P (i + 1))) (sym a.other)
            ∙ pair-excludes P (one_of P (i + 1)) (other_of P (i + 1)) (i + 1) (omega arith) (omega (arith, a.few)) (own_pair P (i + 1));
      })
      (λ y.
      let a = side-true (other_of P) (one_of P) i y in
      record {
        name = other_of P (i + 1);
        held = a.held;
        excluding = ap (excludes_in P (other_of P (i + 1))) (sym a.other)
            ∙ excludes-turned P (other_of P (i + 1)) (one_of P (i + 1))
            ∙ pair-excludes P (one_of P (i + 1)) (other_of P (i + 1)) (i + 1) (omega arith) (omega (arith, a.few)) (own_pair P (i + 1));
      })

  -- a partner is met by its pair
  met-partner : (x : Partner P has p) → ((i : ℕ) → meets i ≡ false) → ⊥
  met-partner x none =
      both_ways x.excluding
      (none-excludes P x.name p (λ k lo hi. not-true (λ q.
      let at : k - 1 + 1 ≡ k = omega arith in
      let few : ltb (k - 1) (pair_count P) ≡ true = omega (tests, lo, hi) in
      pair-cases P x.name p k q
      (λ a c. both_ways (or_left (one_side (other_of P) (one_of P) (k - 1)) (and_both (and_both few (rw (at, a) x.held)) (and_both few (rw at (eq-eqb c))))) (none (k - 1)))
      (λ a c. both_ways (or_right (one_side (one_of P) (other_of P) (k - 1)) (and_both (and_both few (rw (at, c) x.held)) (and_both few (rw at (eq-eqb a))))) (none (k - 1))))))

  module _ {s t : Sides} (M : Marks P has s) (N : Marks P (λ q. eqb q p) t) where
    word-bit : (i : ℕ) → bit_at (bit_or (bit_and s.first t.second) (bit_and s.second t.first)) i ≡ bit (meets i)
    word-bit i =
        let b = ltb i (pair_count P) in
        bit_at_or (bit_and s.first t.second) (bit_and s.second t.first) i
        ∙ rw (bit_at_and s.first t.second i, bit_at_and s.second t.first i, M.firsts i, M.seconds i, N.firsts i, N.seconds i)
        (met (b && has (one_of P (i + 1))) (b && has (other_of P (i + 1))) (b && eqb (one_of P (i + 1)) p) (b && eqb (other_of P (i + 1)) p))

    pub excluding-partnered : excluding s t ≡ partnered P has p (named_count P)
    unfolding excluding
    excluding-partnered =
        let word = bit_or (bit_and s.first t.second) (bit_and s.second t.first) in
        partnered-is P has p
        (λ h.
        let b = some-bit word word (omega arith) (eqb-ne (false_of_not (eqb word 0) h)) in
        partner-met b.at (bit-one (sym (word-bit b.at) ∙ b.one)))
        (λ x. not-to-true (not-true (λ e. met-partner x (λ i. bit-none (sym (word-bit i) ∙ ap (λ (w : ℕ). bit_at w i) (eqb-eq e) ∙ bit_at-zero i)))))
