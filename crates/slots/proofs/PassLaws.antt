-- What each pass hands to the next, and what all of them give.
-- Assumes nothing.
use Prim.Native.Nat.{◌+◌, ◌-◌, ◌/◌, ◌<◌, ◌≤◌, suc, zero, ℕ}
use lib.Dec.{eqb}
use lib.ListN.{get_or, length, length-replicate, replicate}
use mathlib.Core.Bool.{Bool, ◌&&◌, false, true}
use mathlib.Core.List.{List, [], ◌∷◌, map}
use mathlib.Core.Option.{Option}
use mathlib.Core.Path.{◌≡◌, ap, refl}
use native.Mathlib.Omega.{arith}
use Rattle.base.proofs.Lists.{zeros-read}
use Rattle.base.proofs.Tests.{bool_cases, eq-cases}
use Rattle.blocks.proofs.Refusing.Bounds.{AllBounded}
use Rattle.blocks.specs.Entries.{Bounded, entries_of, nth, zero_entry}
use Rattle.blocks.specs.declared.Entry.{Entry}
use Rattle.logic.specs.Background.{Background}
use Rattle.meaning.specs.Description.{row_of}
use Rattle.passes.proofs.CellPlaces.FormSettled.{settled-keys}
use Rattle.passes.proofs.SlotLists.RestrictLaws.{under-early, under-small}
use Rattle.passes.proofs.SlotLists.SameKeys.{same_length}
use Rattle.passes.specs.code.Keys.{SmallRows, SmallSlots, SmallTop}
use Rattle.passes.specs.code.Restrict.{slots_under}
use Rattle.passes.specs.code.Slots.{EarlySlots, Slot, closed, inconsistent, settled, slot}
use Rattle.slots.proofs.slots.TableLaws.{length-slots}
use Rattle.slots.specs.code.Tables.{Blank, Built, Placed, Settled, Settling, Tabled, key_in, low_part, slot_in, slots_from, slots_of}

-- ---- cleared tables

pub blank-zeros : (k n : ℕ) → k < n → Blank k (replicate n 0)
blank-zeros k n h = record { room = rw (length-replicate {A = ℕ} n 0) h; zero' = zeros-read n refl }

pub blank-less : {j k : ℕ} {l : List ℕ} → j ≤ k → Blank k l → Blank j l
blank-less h b = record { room = omega (arith, h, b.room); zero' = b.zero' }

-- ---- slots of a table

pub early-at : (t : List ℕ) (k n : ℕ) → EarlySlots k (slots_from t k n) → (j : ℕ) → k ≤ j → j < k + n → key_in (get_or t j 0) / 131072 < j
unfolding slots_from slot_in
early-at t k zero h j lo hi = absurd (omega arith)
early-at t k (suc n) h j lo hi = eq-cases j k (λ e. rw e h.0) (λ e. early-at t (suc k) n h.1 j (omega arith) (omega arith))

pub low-at : (t : List ℕ) (k n : ℕ) → SmallSlots (slots_from t k n) → (j : ℕ) → k ≤ j → j < k + n → low_part (get_or t j 0) < 65536
unfolding slots_from slot_in
low-at t k zero h j lo hi = absurd (omega arith)
low-at t k (suc n) h j lo hi = eq-cases j k (λ e. rw e h.0.1) (λ e. low-at t (suc k) n h.1 j (omega arith) (omega arith))

small-closed : (b : Bool) (hi : Option ℕ) → SmallTop hi → SmallTop (closed b hi)
small-closed true hi s = omega arith
small-closed false hi s = s

pub small-settled : (k : ℕ) (ss : List Slot) → SmallSlots ss → SmallSlots (settled k ss)
unfolding settled
small-settled k [] s = tt
small-settled k (slot u b n lo hi ∷ ss) s = ((s.0.0, s.0.1, small-closed (b && inconsistent (suc k) ss k) hi s.0.2), small-settled (suc k) ss s.1)

pub length-settled : (k : ℕ) (ss : List Slot) → length (settled k ss) ≡ length ss
length-settled k ss = same_length (settled k ss) ss (settled-keys k ss)

-- ---- the entries

pub rows-small : (es : List Entry) → ((k : ℕ) → k < length es → Bounded (get_or es k zero_entry)) → SmallRows (map row_of es)
unfolding row_of
rows-small [] h = tt
rows-small (e ∷ es) h =
    let b = h 0 (omega arith) in
    let r = rows-small es (λ k l. h (suc k) (omega arith)) in
    bool_cases (eqb e.kind 5) (λ z. rw (row_of, z) (b.name, r)) (λ z. rw (row_of, z) ((b.name, b.number), r))

pub all-bounded : (d : List ℕ) → ((n : ℕ) → 1 ≤ n → n ≤ length (entries_of d) → Bounded (nth (entries_of d) n)) → AllBounded (entries_of d)
unfolding nth
all-bounded d h = record { each = λ k l. h (suc k) (omega arith) (omega arith) }

-- the lower bounds of settled slots in a table
pub settled-low : {b : Background} {d : List ℕ} {used : ℕ} {t : List ℕ} → Tabled b d used t → (j : ℕ) → 1 ≤ j → j ≤ used
    → low_part (get_or t j 0) < 65536
settled-low {b} {d} {used} {t} s j lo hi =
    let rs = map row_of (entries_of d) in
    let small = small-settled 1 (slots_under b rs) (under-small b rs (rows-small (entries_of d) (all-bounded d s.bounded).each)) in
    low-at t 1 used (rw (← s.slotted) at small) j lo (omega arith)

-- ---- the first pass and the second

pub built-placed : {ss : List Slot} {d : List ℕ} {used : ℕ} {o t cells : List ℕ} {most : ℕ} → EarlySlots 1 ss → Built ss d used o t most cells
    → Placed t used
built-placed {used = used} {t = t} e b =
    record { lower = λ j lo hi. early-at t 1 used (rw b.slotted at e) j lo (omega arith) }

-- as many slots stand in a table as the description has
slots-counted : (ss : List Slot) (t : List ℕ) (used : ℕ) → slots_from t 1 used ≡ settled 1 ss → used ≡ length ss
slots-counted ss t used e = omega (arith, length-settled 1 ss, ap length e, length-slots t 1 used)

pub settled-from : {b : Background} {d : List ℕ} {used : ℕ} {o origin cells t bad full : List ℕ} {most : ℕ}
    → Built (slots_of b d) d used o origin most cells → Settling origin used 0 t bad full → length (entries_of d) ≤ 1008
    → Settled b d used t bad full
settled-from {b} {d} {used} {t = t} k s few =
    let z : used - 0 ≡ used = omega arith in
    let e = k.slotted in
    let early : EarlySlots 1 (slots_of b d) = under-early b (map row_of (entries_of d)) in
    let here : slots_from t 1 used ≡ settled 1 (slots_of b d) = rw (z, ← e) at s.above in
    record {
      tabled = record {
        few = omega (arith, k.few, few);
        room = rw s.size k.kept.room;
        counted = slots-counted (slots_of b d) t used here;
        slotted = here;
        apart = λ i j lo l hi. rw (s.keys i, s.keys j) (k.kept.apart i j lo l hi);
        lower = λ j lo hi. rw (s.keys j) ((built-placed early k).lower j lo hi);
        bounded = k.bounded;
      };
      bads = λ v. rw (z, ← e) at (s.bads v);
      fulls = λ v. rw (z, ← e) at (s.fulls v);
    }
