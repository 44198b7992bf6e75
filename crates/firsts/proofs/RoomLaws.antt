-- How many keys there is room for.
-- Assumes nothing.
use Rattle.std.proofs.Common.{◌≡◌, ℕ, ◌+◌, ◌-◌, ◌*◌, ◌/◌, ◌<◌, ◌≤◌, ◌||◌, eqb, ltb, min, refl, arith}
use Rattle.base.proofs.Tests.{bool_cases, eqb-ne, ge-ltb, ne_eqb, ltb-ge, neither_left, neither_right}
use Rattle.firsts.specs.code.Held.{room_of}

-- where there is room at all
pub record Roomy (most cells keys : ℕ) : Type 0 where
  pub some : 0 < most
  pub small : cells ≤ 65536
  pub in_keys : room_of most cells keys ≤ keys
  pub in_cells : most + 2 * room_of most cells keys + 2 ≤ cells

pub roomy : (most cells keys : ℕ) → 0 < room_of most cells keys → Roomy most cells keys
unfolding room_of
roomy most cells keys h =
    bool_cases (eqb most 0 || ltb 65536 cells)
    (λ q. let none : 0 < 0 = rw (room_of, q) at h in absurd (omega arith))
    (λ q.
    let some = eqb-ne (neither_left (eqb most 0) (ltb 65536 cells) q) in
    let small = ltb-ge (neither_right (eqb most 0) (ltb 65536 cells) q) in
    let room : room_of most cells keys ≡ min keys ((cells - most - 2) / 2) = rw (room_of, q) in
    record { some = omega arith; small = small; in_keys = omega arith; in_cells = omega arith })

-- where the cells suffice for all keys
pub room-enough : (most cells keys : ℕ) {n : ℕ} → 0 < most → cells ≤ 65536 → most + 2 * keys + 2 ≤ cells → n ≤ keys
    → n ≤ room_of most cells keys
unfolding room_of
room-enough most cells keys some small wide h =
    let room : room_of most cells keys ≡ min keys ((cells - most - 2) / 2) = rw (room_of, ne_eqb {m = most} {n = 0} (omega arith), ge-ltb small) refl in
    omega arith
