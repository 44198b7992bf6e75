-- Truth values as equations: laws of && and ||, case splits that keep their equation, and tests on numbers.
-- Assumes nothing.
use mathlib.Core.Path.{◌≡◌, refl, sym, ◌∙◌}
use mathlib.Core.Bool.{Bool, true, false, not, ◌&&◌, ◌||◌, true≢false, false≢true}
use mathlib.Core.Logic.{◌≢◌}
use Prim.Native.Nat.{ℕ, ◌≤◌, ◌<◌}
use native.Mathlib.Omega.{arith}
use lib.Dec.{leb, ltb, eqb}
use borrow.Author.Tests as tests-of

-- ---- tests on numbers, with the numbers implicit

pub leb-le : {m n : ℕ} → leb m n ≡ true → m ≤ n
leb-le e = tests-of.leb-true _ _ e

pub leb-gt : {m n : ℕ} → leb m n ≡ false → n < m
leb-gt e = tests-of.leb-false _ _ e

pub le-leb : {m n : ℕ} → m ≤ n → leb m n ≡ true
le-leb h = tests-of.le-leb _ _ h

pub gt-leb : {m n : ℕ} → n < m → leb m n ≡ false
gt-leb h = tests-of.lt-leb _ _ h

pub ltb-lt : {m n : ℕ} → ltb m n ≡ true → m < n
ltb-lt e = tests-of.ltb-true _ _ e

pub ltb-ge : {m n : ℕ} → ltb m n ≡ false → n ≤ m
ltb-ge e = tests-of.ltb-false _ _ e

pub lt-ltb : {m n : ℕ} → m < n → ltb m n ≡ true
lt-ltb h = tests-of.lt-ltb _ _ h

pub ge-ltb : {m n : ℕ} → n ≤ m → ltb m n ≡ false
ge-ltb h = tests-of.le-ltb _ _ h

pub eqb-eq : {m n : ℕ} → eqb m n ≡ true → m ≡ n
eqb-eq e = tests-of.eqb-true _ _ e

pub eqb-ne : {m n : ℕ} → eqb m n ≡ false → m ≢ n
eqb-ne e = tests-of.eqb-false _ _ e

pub eq-eqb : {m n : ℕ} → m ≡ n → eqb m n ≡ true
eq-eqb e = tests-of.eq-eqb _ _ e

pub ne_eqb : {m n : ℕ} → m ≢ n → eqb m n ≡ false
ne_eqb h = tests-of.ne_eqb _ _ h

pub eqb-self : (n : ℕ) → eqb n n ≡ true
eqb-self n = tests-of.eq-eqb n n refl

pub leb-self : (n : ℕ) → leb n n ≡ true
leb-self n = tests-of.le-leb n n (omega arith)

-- arithmetic that reads tests: `omega tests`
pub ruleset tests = (arith, leb-le, leb-gt, le-leb, gt-leb, ltb-lt, ltb-ge, lt-ltb, ge-ltb, eqb-eq, eqb-ne, eq-eqb, ne_eqb)

-- ---- case splits

pub bool_cases {ℓ} : {A : Type ℓ} (b : Bool) → (b ≡ true → A) → (b ≡ false → A) → A
bool_cases true f g = f refl
bool_cases false f g = g refl

pub eq-cases {ℓ} : {A : Type ℓ} (m n : ℕ) → (m ≡ n → A) → (m ≢ n → A) → A
eq-cases m n f g = bool_cases (eqb m n) (λ q. f (eqb-eq q)) (λ q. g (eqb-ne q))

pub lt-cases {ℓ} : {A : Type ℓ} (m n : ℕ) → (m < n → A) → (n ≤ m → A) → A
lt-cases m n f g = bool_cases (ltb m n) (λ q. f (ltb-lt q)) (λ q. g (ltb-ge q))

pub and_cases {ℓ} : {A : Type ℓ} (a b : Bool) → (a && b) ≡ false → (a ≡ false → A) → (b ≡ false → A) → A
and_cases true b e f g = g e
and_cases false b e f g = f refl

pub or_cases {ℓ} : {A : Type ℓ} (a b : Bool) → (a || b) ≡ true → (a ≡ true → A) → (b ≡ true → A) → A
or_cases true b e f g = f refl
or_cases false b e f g = g e

pub both_ways {ℓ} : {A : Type ℓ} {b : Bool} → b ≡ true → b ≡ false → A
both_ways p q = absurd (true≢false (sym p ∙ q))

-- a test for equality, the other way round
pub eqb-sym : (m n : ℕ) → eqb m n ≡ eqb n m
eqb-sym m n = eq-cases m n (λ q. rw q) (λ q. let a : eqb m n ≡ false = omega tests in let b : eqb n m ≡ false = omega tests in a ∙ sym b)

-- ---- not, && and ||

pub not-to-true : {b : Bool} → b ≡ false → not b ≡ true
not-to-true e = rw e

pub not-to-false : {b : Bool} → b ≡ true → not b ≡ false
not-to-false e = rw e

pub true_of_not : (b : Bool) → not b ≡ false → b ≡ true
true_of_not b e = tests-of.not-false b e

pub false_of_not : (b : Bool) → not b ≡ true → b ≡ false
false_of_not b e = tests-of.not-true b e

-- what `if !r` says of the test that r is equal to
pub refuted : {r b : Bool} → r ≡ b → not r ≡ true → b ≡ false
refuted {r} e h = sym e ∙ false_of_not r h

pub confirmed : {r b : Bool} → r ≡ b → not r ≡ false → b ≡ true
confirmed {r} e h = sym e ∙ true_of_not r h

-- two tests that pass alike are equal
pub iff-eq : {a b : Bool} → (a ≡ true → b ≡ true) → (b ≡ true → a ≡ true) → a ≡ b
iff-eq {a = true} {b = true} f g = refl
iff-eq {a = true} {b = false} f g = sym (f refl)
iff-eq {a = false} {b = true} f g = g refl
iff-eq {a = false} {b = false} f g = refl

pub and_left : (a b : Bool) → (a && b) ≡ true → a ≡ true
and_left true b e = refl
and_left false b e = absurd (false≢true e)

pub and_right : (a b : Bool) → (a && b) ≡ true → b ≡ true
and_right true b e = e
and_right false b e = absurd (false≢true e)

pub and_both : {a b : Bool} → a ≡ true → b ≡ true → (a && b) ≡ true
and_both p q = rw (p, q)

pub and_zero : (a : Bool) → (a && false) ≡ false
and_zero true = refl
and_zero false = refl

pub and_one : (a : Bool) → (a && true) ≡ a
and_one true = refl
and_one false = refl

-- two tests in the other order, before further ones
pub and-swap : (a b c : Bool) → (a && (b && c)) ≡ (b && (a && c))
and-swap true b c = refl
and-swap false true c = refl
and-swap false false c = refl

pub or_left : {a : Bool} (b : Bool) → a ≡ true → (a || b) ≡ true
or_left b e = rw e

pub or_right : (a : Bool) {b : Bool} → b ≡ true → (a || b) ≡ true
or_right true e = refl
or_right false e = e

pub or-one : (a : Bool) → (a || true) ≡ true
or-one true = refl
or-one false = refl

pub or-none : {a b : Bool} → a ≡ false → b ≡ false → (a || b) ≡ false
or-none p q = rw (p, q)

-- where none of two passes
pub neither_left : (a b : Bool) → (a || b) ≡ false → a ≡ false
neither_left true b e = e
neither_left false b e = refl

pub neither_right : (a b : Bool) → (a || b) ≡ false → b ≡ false
neither_right true b e = absurd (true≢false e)
neither_right false b e = e

-- b passes wherever a does
pub implied : (a b : Bool) → (a && not b) ≡ false → a ≡ true → b ≡ true
implied a b e p = true_of_not b (rw p at e)

-- b passes always
pub never-against : (a : Bool) {b : Bool} → b ≡ true → (a && not b) ≡ false
never-against a e = rw e (and_zero a)
