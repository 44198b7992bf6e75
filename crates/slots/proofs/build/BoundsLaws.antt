-- Both bounds of an entry as one number, from its kind's constants.
-- Assumes nothing.
use Prim.Native.Nat.{◌*◌, ◌+◌, ◌<◌, ◌≤◌, ℕ}
use mathlib.Core.Path.{◌∙◌, ◌≡◌, ap}
use native.Mathlib.Omega.{arith}
use Rattle.base.proofs.Tests.{eq-cases, ne_eqb}
use Rattle.slots.proofs.slots.TableLaws.{high-made, low-made}
use Rattle.slots.specs.code.Tables.{bounds_base, bounds_times, high_kind, high_part, low_kind, low_part, no_bound, slot_number}

low_small : (k m : ℕ) → m < 65536 → low_kind k m < 65536
unfolding low_kind
low_small k m s =
    eq-cases k 1 (λ z. rw z (omega arith)) (λ z₁. eq-cases k 2 (λ z. rw z (omega arith)) (λ z₂. eq-cases k 3 (λ z. rw z s) (λ z₃. eq-cases k 4 (λ z. rw z (omega arith))
    (λ z₄. eq-cases k 5 (λ z. rw z (omega arith)) (λ z₅. rw (low_kind, ne_eqb z₁, ne_eqb z₂, ne_eqb z₃, ne_eqb z₄, ne_eqb z₅) (omega arith))))))

high_small : (k m : ℕ) → m < 65536 → high_kind k m ≤ no_bound
unfolding high_kind
high_small k m s =
    eq-cases k 1 (λ z. rw z (omega arith)) (λ z₁. eq-cases k 2 (λ z. rw z (omega arith)) (λ z₂. eq-cases k 3 (λ z. rw z (omega arith)) (λ z₃. eq-cases k 4 (λ z. rw z (omega arith))
    (λ z₄. eq-cases k 5 (λ z. rw z (omega arith)) (λ z₅. rw (high_kind, ne_eqb z₁, ne_eqb z₂, ne_eqb z₃, ne_eqb z₄, ne_eqb z₅) (omega arith))))))

-- kind by kind
bounds-kind : (k m : ℕ) → bounds_times k * m + bounds_base k ≡ slot_number 0 (low_kind k m) (high_kind k m)
unfolding bounds_times bounds_base low_kind high_kind slot_number
bounds-kind k m =
    eq-cases k 1 (λ z. rw z (omega arith)) (λ z₁. eq-cases k 2 (λ z. rw z (omega arith)) (λ z₂. eq-cases k 3 (λ z. rw z (omega arith)) (λ z₃. eq-cases k 4 (λ z. rw z (omega arith))
    (λ z₄. eq-cases k 5 (λ z. rw z (omega arith))
    (λ z₅. rw (bounds_times, bounds_base, low_kind, high_kind, ne_eqb z₁, ne_eqb z₂, ne_eqb z₃, ne_eqb z₄, ne_eqb z₅) (omega arith))))))

module _ (k m : ℕ) (s : m < 65536) {x y : ℕ} (u : x ≡ bounds_times k) (v : y ≡ m) where
  -- the product alone, and with the constant
  pub times-small : x * y < 17179869184
  unfolding slot_number
  times-small = rw (u, v) (omega (arith, bounds-kind k m, low_small k m s, high_small k m s))

  module _ {z : ℕ} (w : z ≡ bounds_base k) where
    bounds-are : x * y + z ≡ slot_number 0 (low_kind k m) (high_kind k m)
    bounds-are = rw (u, v, w) (bounds-kind k m)

    pub bounds-small : x * y + z < 17179869184
    unfolding slot_number
    bounds-small = omega (arith, bounds-are, low_small k m s, high_small k m s)

    pub low-of-kind : low_part (x * y + z) ≡ low_kind k m
    low-of-kind = ap low_part bounds-are ∙ low-made 0 _ _ (omega (arith, low_small k m s)) (omega (arith, high_small k m s))

    pub high-of-kind : high_part (x * y + z) ≡ high_kind k m
    high-of-kind = ap high_part bounds-are ∙ high-made 0 _ _ (omega (arith, low_small k m s)) (omega (arith, high_small k m s))

    pub high-no-bound : high_part (x * y + z) ≤ no_bound
    high-no-bound = rw high-of-kind (high_small k m s)
