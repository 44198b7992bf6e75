-- Numbers in decimal: their digits, one after the other, what these mean, and that they are what the library writes.
-- Assumes nothing.
use Prim.Native.Nat.{◌%◌, ◌*◌, ◌+◌, ◌-◌, ◌/◌, ◌<◌, ◌^◌, ◌≤◌, suc, zero, ℕ}
use lib.ListN.{get_or-append, get_or, length, length-append}
use mathlib.Core.List.{List, [], ◌++◌, ◌∷◌}
use mathlib.Core.Path.{◌∙◌, ◌≡◌, ap, refl, sym}
use native.Mathlib.Omega.{arith}
use Rattle.std.proofs.lemmas.Fmt.{decimal_from_appends, length-decimal-le_succ}
use Rattle.std.specs.Fmt as std
use Rattle.base.proofs.Tests.{ge-ltb, lt-cases, lt-ltb}
use Rattle.report.specs.Promise.{AllDigits, Decimal, value_from}
use Rattle.report.specs.Text.{decimal, digits_of}

-- ---- one digit more

few : (most n : ℕ) → n < 10 → digits_of (suc most) n ≡ (48 + n) ∷ []
unfolding digits_of
few most n h = simp (digits_of, lt-ltb h)

many : (most n : ℕ) → 10 ≤ n → digits_of (suc most) n ≡ digits_of most (n / 10) ++ ((48 + n % 10) ∷ [])
unfolding digits_of
many most n h = simp (digits_of, ge-ltb h)

pub decimal-few : (n : ℕ) → n < 10 → decimal n ≡ (48 + n) ∷ []
unfolding decimal
decimal-few n h = few n n h

-- ---- what holds of every number's digits, by their number

by_digits : (P : ℕ → List ℕ → Type 0) → ((n : ℕ) → n < 10 → P n ((48 + n) ∷ []))
    → ((n : ℕ) (t : List ℕ) → 10 ≤ n → P (n / 10) t → P n (t ++ ((48 + n % 10) ∷ [])))
    → (n : ℕ) → P n (decimal n)
unfolding decimal
by_digits P one more n = go (suc n) n (omega arith)
  where
    go : (f n : ℕ) → n < f → P n (digits_of f n)
    go zero n h = absurd (omega arith)
    go (suc f) n h =
        lt-cases n 10
        (λ q. rw (few f n q) (one n q))
        (λ q. rw (many f n q) (more n (digits_of f (n / 10)) q (go f (n / 10) (omega arith))))

-- ---- the digits of a number are its digits

value-append : (v : ℕ) (t u : List ℕ) → value_from v (t ++ u) ≡ value_from (value_from v t) u
value-append v [] u = refl
value-append v (d ∷ t) u = value-append (10 * v + (d - 48)) t u

digits_append : (t u : List ℕ) → AllDigits t → AllDigits u → AllDigits (t ++ u)
digits_append [] u p q = q
digits_append (d ∷ t) u p q = (p.0, p.1, digits_append t u p.2 q)

-- a digit after others: the first one stays the first
first-kept : (t : List ℕ) (d : ℕ) → 1 ≤ length t → get_or (t ++ (d ∷ [])) 0 0 ≡ get_or t 0 0
first-kept t d h = get_or-append t (d ∷ []) 0 0 h

record Read (n : ℕ) (t : List ℕ) : Type 0 where
  digits : AllDigits t
  value : value_from 0 t ≡ n
  some : 1 ≤ length t
  lead : get_or t 0 0 ≡ 48 → n ≡ 0

read : (n : ℕ) → Read n (decimal n)
read = by_digits Read one more
  where
    one : (n : ℕ) → n < 10 → Read n ((48 + n) ∷ [])
    one n h = record { digits = (omega arith, omega arith, tt); value = omega arith; some = omega arith; lead = λ e. omega arith }

    more : (n : ℕ) (t : List ℕ) → 10 ≤ n → Read (n / 10) t → Read n (t ++ ((48 + n % 10) ∷ []))
    more n t h r =
        let d = 48 + n % 10 in
        record {
          digits = digits_append t (d ∷ []) r.digits (omega arith, omega arith, tt);
          value = value-append 0 t (d ∷ []) ∙ (let v = r.value in omega arith);
          some = rw (length-append t (d ∷ [])) (omega arith);
          lead = λ e. let z = r.lead (rw (first-kept t d r.some) at e) in absurd (omega arith);
        }

-- [Q4] fields in decimal
pub decimal-right : (n : ℕ) → Decimal n (decimal n)
decimal-right n =
    let r = read n in
    record {
      digits = r.digits;
      value = r.value;
      some = r.some;
      lead = λ e. let z = r.lead e in ap decimal z ∙ decimal-few 0 (omega arith);
    }

-- ---- they are what the standard library writes

pub decimal_written : (n : ℕ) → n < 2 ^ 64 → std.decimal n ≡ decimal n
unfolding decimal
decimal_written n h = sym (decimal_from_appends digits_of (record { one = few; more = many }) (suc n) n h (omega (arith, length-decimal-le_succ n h)))
