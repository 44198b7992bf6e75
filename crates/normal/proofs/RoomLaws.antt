-- Tables that have room for an input.
-- Assumes nothing.
use Prim.Native.Nat.{◌*◌, ◌+◌, ◌<◌, ◌≤◌, min, ℕ}
use lib.Dec.{ltb}
use lib.ListN.{length, length-replicate, replicate}
use mathlib.Core.Bool.{true}
use mathlib.Core.List.{List}
use mathlib.Core.Path.{◌∙◌, ◌≡◌, refl, sym}
use native.Mathlib.Omega.{arith}
use Rattle.base.proofs.Tests.{lt-ltb}
use Rattle.blocks.proofs.Refusing.Readings.{readings-cases}
use Rattle.blocks.specs.Entries.{entries_of}
use Rattle.blocks.specs.Reading.{reading_of, Reading}
use Rattle.std.specs.Prelude.{Err, Ok}
use Rattle.blocks.specs.Refusals.{refused}
use Rattle.blocks.specs.declared.Refusal.{Refusal}
use Rattle.blocks.specs.declared.Schema.TheVariants.{Description}
use Rattle.normal.specs.code.Formed.{form_reading, form_under}
use Rattle.pairs.specs.Pairs.{pairs_reading, under}
use Rattle.normal.specs.code.Emitted.{Roomy}
use Rattle.slots.proofs.FailingLaws.{accepted-few}
use Rattle.slots.specs.code.Standing.{room_in, slotting_of, slotting_under}
use Rattle.slots.specs.code.Tables.{slots_of}

-- cleared tables of n rows and as many slots
pub roomy-zeros : (d : List ℕ) (n m l : ℕ) → m ≡ n + 1 → l ≡ 2 * m → 1 ≤ n → n ≤ 1008 → ((k : ℕ) → reading_of Description 1 d ≡ Ok k → k ≤ n)
    → Roomy d (replicate m 0) (replicate m 0) (replicate m 0) (replicate l 0) (replicate m 0) (replicate n 0) (replicate n 0) (replicate m 0)
roomy-zeros d n m l e f one few h =
    let rows = length-replicate {A = ℕ} n 0 in
    let slots = length-replicate {A = ℕ} m 0 in
    let lasts = length-replicate {A = ℕ} l 0 in
    let same : length {A = ℕ} (replicate m 0) ≡ length {A = ℕ} (replicate n 0) + 1 = omega (arith, rows, slots, e) in
    record {
      entries = λ k a. omega (arith, rows, h k a);
      slots-room = same;
      bad-room = same;
      full-room = same;
      lent = record {
        cleared = rw lasts refl;
        lasts = omega (arith, lasts, rows, e, f);
        befores = omega (arith, same);
        orders = omega arith;
        some-row = omega (arith, rows, one);
        few-rows = omega (arith, rows, few);
        belows = rw (e, rows) refl;
      };
    }

-- an input has at most 63 entries for each of its blocks, of which it has at most 16
pub entries-few : (d : List ℕ) {n : ℕ} → 63 * min (length d) 8192 ≤ 512 * n → (k : ℕ) → reading_of Description 1 d ≡ Ok k → k ≤ n
entries-few d h k a = omega (arith, h, accepted-few 1 d a)

module _ {d t bad full last before order rows below : List ℕ} (R : Roomy d t bad full last before order rows below) where
  -- other tables of the same lengths have room too
  pub roomy-again : {t' bad' full' : List ℕ} → length t' ≡ length t → length bad' ≡ length bad → length full' ≡ length full
      → Roomy d t' bad' full' last before order rows below
  roomy-again e f g = record { entries = R.entries; slots-room = e ∙ R.slots-room; bad-room = f ∙ R.bad-room; full-room = g ∙ R.full-room; lent = R.lent }

  -- a table of as many rows has room too
  pub roomy-lent : {rows' : List ℕ} → length rows' ≡ length rows → Roomy d t bad full last before order rows' below
  roomy-lent e =
      let l = R.lent in
      record {
        entries = λ n a. omega (arith, R.entries n a, e);
        slots-room = omega (arith, R.slots-room, e);
        bad-room = omega (arith, R.bad-room, e);
        full-room = omega (arith, R.full-room, e);
        lent = record {
          cleared = l.cleared;
          lasts = omega (arith, l.lasts, e);
          befores = omega (arith, l.befores, e);
          orders = omega (arith, l.orders, e);
          some-row = omega (arith, l.some-row, e);
          few-rows = omega (arith, l.few-rows, e);
          belows = rw e l.belows;
        };
      }

  -- where there is room, what is refused is refused by the list or by reading
  pub roomy-refused : (P : List ℕ) {r : Reading} {x : Refusal} → r ≡ slotting_of P (room_in t bad full) d → r ≡ Err x → form_reading P d ≡ Err x
  unfolding slotting_of slotting_under form_reading form_under
  roomy-refused P {r} {x} e f =
      let given : slotting_of P (room_in t bad full) d ≡ Err x = sym e ∙ f in
      readings-cases (pairs_reading P) (reading_of Description 1 d)
      (λ k i p q.
      let s : slotting_of P (room_in t bad full) d ≡ refused k i p = rw (slotting_of, q) in
      let g : form_reading P d ≡ refused k i p = rw (form_reading, q) in
      g ∙ sym s ∙ given)
      (λ n k i p l q.
      let s : slotting_of P (room_in t bad full) d ≡ refused k i p = rw (slotting_of, l, slotting_under, q) in
      let g : form_reading P d ≡ refused k i p = rw (form_reading, l, form_under, q) in
      g ∙ sym s ∙ given)
      (λ n m l q.
      let more : length (entries_of d) < room_in t bad full = omega (arith, R.entries m q, R.slots-room, R.bad-room, R.full-room, (accepted-few 1 d q).0) in
      let there : ltb (length (entries_of d)) (room_in t bad full) ≡ true = lt-ltb more in
      let s : slotting_of P (room_in t bad full) d ≡ Ok (length (slots_of (under P) d)) = rw (slotting_of, l, slotting_under, q, there) in
      let z : ◌≡◌ {A = ℕ} 0 1 = cc in
      absurd (omega arith))
