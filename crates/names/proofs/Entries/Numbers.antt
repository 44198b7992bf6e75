-- Numbers of entries that are moved, and tables of new numbers.
-- Assumes nothing.
use Prim.Native.Nat.{◌+◌, ◌<◌, ◌≤◌, suc, zero, ℕ}
use lib.Dec.{eqb}
use mathlib.Core.Bool.{Bool, ◌&&◌, ◌||◌, false, true}
use mathlib.Core.Path.{◌∙◌, ◌≡◌, sym}
use native.Mathlib.Omega.{arith}
use Rattle.base.proofs.Tests.{and_zero, eq-cases, eq-eqb, eqb-eq, eqb-self, iff-eq, ne_eqb, or-one, tests}
use Rattle.blocks.specs.declared.Entry.{Entry}
use Rattle.names.specs.Unfold.{noted, shifted}

-- ---- moved numbers

-- numbers are moved to the same number only if they are the same
pub shifted-same : (m o i j : ℕ) → o ≤ m → eqb (shifted m o i) (shifted m o j) ≡ eqb i j
shifted-same m o zero zero l = eqb-self o
shifted-same m o zero (suc j) l = let a : eqb o (m + suc j) ≡ false = omega tests in let b : eqb zero (suc j) ≡ false = omega tests in a ∙ sym b
shifted-same m o (suc i) zero l = let a : eqb (m + suc i) o ≡ false = omega tests in let b : eqb (suc i) zero ≡ false = omega tests in a ∙ sym b
shifted-same m o (suc i) (suc j) l =
    eq-cases i j
    (λ q. rw q (eqb-self (m + suc j) ∙ sym (eqb-self (suc j))))
    (λ q. let a : eqb (m + suc i) (m + suc j) ≡ false = omega tests in let b : eqb (suc i) (suc j) ≡ false = omega tests in a ∙ sym b)

-- a number that is not the top's
pub shifted-later : (m o k : ℕ) → 1 ≤ k → shifted m o k ≡ m + k
shifted-later m o zero p = absurd (omega arith)
shifted-later m o (suc k) p = sym (omega arith)

-- no number up to m but o is a moved one
pub shifted-apart : (m o i j : ℕ) → i ≤ m → eqb i o ≡ false → eqb i (shifted m o j) ≡ false
shifted-apart m o i zero l z = z
shifted-apart m o i (suc j) l z = omega tests

-- which number is moved to a later one
pub shifted-is : (m o j k : ℕ) → o ≤ m → 1 ≤ k → eqb (shifted m o j) (m + k) ≡ eqb j k
shifted-is m o zero k l h = let a : eqb o (m + k) ≡ false = omega tests in let b : eqb 0 k ≡ false = omega tests in a ∙ sym b
shifted-is m o (suc j) k l h = iff-eq (λ e. let q : m + suc j ≡ m + k = eqb-eq e in omega tests) (λ e. let q : suc j ≡ k = eqb-eq e in omega tests)

-- ---- owners

-- `own` tells which numbers may own; entry k may too if it is an 'every'
abbrev pub owning : (ℕ → Bool) → ℕ → Entry → ℕ → Bool
owning own k e j = (eqb j k && eqb e.kind 5) || own j

-- what could own before still can
pub owning-before : (own : ℕ → Bool) (k : ℕ) (e : Entry) (j : ℕ) → own j ≡ true → owning own k e j ≡ true
owning-before own k e j h = rw h (or-one (eqb j k && eqb e.kind 5))

-- and nothing else, but entry k
pub owning-other : (own : ℕ → Bool) (k : ℕ) (e : Entry) (j : ℕ) → eqb j k ≡ false → owning own k e j ≡ true → own j ≡ true
owning-other own k e j z h = rw z at h

-- nor that, if it is no 'every'
pub owning-none : (own : ℕ → Bool) (k : ℕ) (e : Entry) (j : ℕ) → eqb e.kind 5 ≡ false → owning own k e j ≡ true → own j ≡ true
owning-none own k e j z h = rw (z, and_zero (eqb j k)) at h

-- the top alone owns
abbrev pub top_owns : ℕ → Bool
top_owns j = eqb j 0

-- ---- new numbers

-- before entry k the owners have new numbers of their own, up to m
pub record Numbering (own : ℕ → Bool) (ν : ℕ → ℕ) (k m : ℕ) : Type 0 where
  pub early : (j : ℕ) → own j ≡ true → j < k
  pub bound : (j : ℕ) → own j ≡ true → ν j ≤ m
  pub apart : (i j : ℕ) → own i ≡ true → own j ≡ true → ν i ≡ ν j → i ≡ j

-- before the first entry
pub numbering-top : Numbering top_owns (λ j. j) 1 0
numbering-top = record { early = λ j h. omega tests; bound = λ j h. omega tests; apart = λ i j h g e. e }

module _ {own : ℕ → Bool} {ν : ℕ → ℕ} {k m : ℕ} (N : Numbering own ν k m) where
  -- after a name, or any entry that is no 'every', n entries are written
  pub numbering-name : (n : ℕ) (e : Entry) → eqb e.kind 5 ≡ false → Numbering (owning own k e) ν (suc k) (m + n)
  numbering-name n e z = record {
    early = λ j h. omega (arith, N.early j (owning-none own k e j z h));
    bound = λ j h. omega (arith, N.bound j (owning-none own k e j z h));
    apart = λ i j h g. N.apart i j (owning-none own k e i z h) (owning-none own k e j z g);
  }

  -- an entry that is taken over is noted
  pub numbering-entry : (e : Entry) → Numbering (owning own k e) (noted ν k (suc m)) (suc k) (suc m)
  numbering-entry e =
      record {
        early = λ j h. eq-cases j k (λ q. omega arith) (λ q. omega (arith, N.early j (owning-other own k e j (ne_eqb q) h)));
        bound = λ j h. eq-cases j k
            (λ q. rw (eq-eqb q) (omega arith))
            (λ q. rw (ne_eqb q) (omega (arith, N.bound j (owning-other own k e j (ne_eqb q) h))));
        apart = λ i j h g d. eq-cases i k
            (λ p. eq-cases j k
            (λ q. p ∙ sym q)
            (λ q. let d' : suc m ≡ ν j = rw (eq-eqb p, ne_eqb q) at d in absurd (omega (arith, N.bound j (owning-other own k e j (ne_eqb q) g)))))
            (λ p. eq-cases j k
            (λ q. let d' : ν i ≡ suc m = rw (ne_eqb p, eq-eqb q) at d in absurd (omega (arith, N.bound i (owning-other own k e i (ne_eqb p) h))))
            (λ q. N.apart i j (owning-other own k e i (ne_eqb p) h) (owning-other own k e j (ne_eqb q) g) (rw (ne_eqb p, ne_eqb q) at d)));
      }

  -- two owners are one exactly if their new numbers are
  pub same-owner : (i j : ℕ) → own i ≡ true → own j ≡ true → eqb (ν i) (ν j) ≡ eqb i j
  same-owner i j h g = iff-eq (λ e. eq-eqb (N.apart i j h g (eqb-eq e))) (λ e. let q : i ≡ j = eqb-eq e in rw q (eqb-self (ν j)))
