-- Lists of keys by their numbers.
-- Assumes nothing.
use Rattle.std.proofs.Common.{◌≡◌, ℕ, zero, suc, ◌<◌, ◌≤◌, ◌≢◌, Some, None, false, List, [], ◌∷◌, ◌++◌, length, refl, arith, eqb, not}
use Rattle.std.specs.Bool.{then_some}
use Rattle.std.specs.Option.{is_some}
use Rattle.base.proofs.ChainLaws.{last-bucket, last-most, last_none}
use Rattle.base.proofs.Tests.{eqb-ne, eq-eqb, ne_eqb, ge-ltb, lt-ltb, and_zero}
use Rattle.base.specs.Chain.{last_where}
use Rattle.base.specs.Keys.{last_number, number_in, numbered, unless_zero, with_key}

-- ---- what a number tells

pub number-none : (n : ℕ) → None ≡ unless_zero n → n ≡ 0
number-none zero e = refl
number-none (suc n) e = cc

pub number-some : (n : ℕ) {k : ℕ} → Some k ≡ unless_zero n → n ≢ 0
number-some zero e = cc
number-some (suc n) e = λ z. omega arith

pub unless-none : {n : ℕ} → n ≡ 0 → None ≡ unless_zero n
unless-none e = rw e

pub unless-some : (n : ℕ) → n ≢ 0 → Some n ≡ unless_zero n
unless-some zero z = absurd (z refl)
unless-some (suc n) z = refl

-- as the code tells it
pub some-unless : (n : ℕ) → then_some (not (eqb n 0)) n ≡ unless_zero n
some-unless zero = refl
some-unless (suc n) = let z : eqb (suc n) 0 ≡ false = ne_eqb (λ q. omega arith) in rw z refl

pub is-unless : (n : ℕ) → is_some (unless_zero n) ≡ not (eqb n 0)
is-unless zero = refl
is-unless (suc n) = let z : eqb (suc n) 0 ≡ false = ne_eqb (λ q. omega arith) in rw z refl

-- of no keys, none has a number
pub number-empty : (x : ℕ) → None ≡ number_in [] x
unfolding last_where
number-empty x = refl

-- a number that is there has the key
pub number-has : (l : List ℕ) (x : ℕ) → last_number l x ≢ 0 → (numbered l (last_number l x) ≡ x) × (last_number l x ≤ length l)
number-has l x z = (last-bucket (numbered l) x (length l) z, last-most (numbered l) x (length l))

-- where there is none, no number has it
pub number-absent : (l : List ℕ) (x : ℕ) → last_number l x ≡ 0 → (k : ℕ) → 1 ≤ k → k ≤ length l → numbered l k ≢ x
number-absent l x z k lo hi = eqb-ne (last_none (numbered l) x (length l) z k lo hi)

-- ---- a key more

pub with-known : (room : ℕ) (l : List ℕ) (x : ℕ) → last_number l x ≢ 0 → l ≡ with_key room l x
unfolding with_key
with-known room l x z = rw (with_key, ne_eqb z) refl

pub with-new : (room : ℕ) (l : List ℕ) (x : ℕ) → last_number l x ≡ 0 → length l < room → l ++ x ∷ [] ≡ with_key room l x
unfolding with_key
with-new room l x z h = rw (with_key, eq-eqb z, lt-ltb h) refl

pub with-full : (room : ℕ) (l : List ℕ) (x : ℕ) → room ≤ length l → l ≡ with_key room l x
unfolding with_key
with-full room l x h = rw (with_key, ge-ltb h, and_zero (eqb (last_number l x) 0)) refl
