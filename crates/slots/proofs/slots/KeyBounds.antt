-- Keys have 30 bits, and their quotients 23: so a search finds the slot of its key, or a free cell.
-- Assumes nothing.
use Rattle.std.proofs.Common.{List, get_or, ◌*◌, ◌/◌, ◌<◌, ◌≤◌, ◌^◌, ℕ, arith}
use native.Mathlib.Nat.{div-add-mod, mul-le-mul_left}
use Rattle.base.proofs.Tests.{eq-cases, eqb-ne}
use Rattle.base.proofs.WayLaws.{ends-at, ends-last, passed-inside}
use Rattle.slots.specs.code.Tables.{Kept, Searchable}

pub quotient-below : {m x : ℕ} → 251 ≤ m → x < 1073741824 → x / m < 2 ^ 23
quotient-below {m} {x} h k =
    let row : (x / m) * 251 ≤ (x / m) * m = mul-le-mul_left (x / m) h in
    omega (arith, div-add-mod x m, row)

pub searchable : {t cells : List ℕ} {most used : ℕ} → Kept t most cells used → Searchable t most cells used
searchable {cells = cells} K = record {
  room = K.room;
  wide = K.wide;
  narrow = K.narrow;
  small = K.small;
  low = λ c. eq-cases (get_or cells c 0) 0 (λ z. omega arith) (λ z. K.planted.known c z);
  inside = λ x turns c P. passed-inside P K.planted;
  last = λ x c small P z. (ends-last K.planted (quotient-below K.wide small) (quotient-below K.wide (K.keys (get_or cells c 0) (omega arith) (K.planted.known c z))) P).found z;
  at = λ x c E. ends-at K.planted (λ i j a b d. eqb-ne (K.apart i j a b d)) E;
  apart = K.apart;
}
