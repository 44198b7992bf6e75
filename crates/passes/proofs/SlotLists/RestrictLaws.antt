-- Slots under a background have the keys, lower bounds and number of the slots; their upper bounds are those of entries still.
-- Assumes nothing.
use Prim.Native.Nat.{◌≤◌, suc, ℕ}
use lib.Dec.{eqb}
use lib.ListN.{length}
use mathlib.Core.Bool.{Bool, false, not, true}
use mathlib.Core.List.{List, [], ◌∷◌}
use mathlib.Core.Option.{Option}
use mathlib.Core.Path.{◌≡◌, refl}
use native.Mathlib.Omega.{arith}
use Rattle.base.proofs.Tests.{and_zero, bool_cases}
use Rattle.logic.specs.Background.{Background}
use Rattle.logic.specs.Normal.{under}
use Rattle.logic.specs.Place.{Atom}
use Rattle.logic.specs.Tree.{Row}
use Rattle.passes.proofs.SlotLists.KeyLaws.{slots_small}
use Rattle.passes.proofs.SlotLists.SameKeys.{SameKeys, same-distinct, same-early, same_length, same-position, same_taken}
use Rattle.passes.proofs.SlotLists.SlotLaws.{slots-distinct, slots-early, slots_length}
use Rattle.passes.specs.code.Keys.{SmallRows, SmallSlots, SmallTop}
use Rattle.passes.specs.code.Restrict.{excluded_at, idle, restrict, restrict_by, restricted_high, slots_under}
use Rattle.passes.specs.code.Slots.{DistinctSlots, EarlySlots, Slot, position, settled, slot, slots, taken}

-- ---- any slots

module _ (b : Background) where
  restricted-keys : (x : ℕ → ℕ → Bool) (ss : List Slot) → SameKeys (restrict_by b x ss) ss
  unfolding restrict_by
  restricted-keys x [] = tt
  restricted-keys x (slot u d n lo hi ∷ ss) = (refl, refl, refl, restricted-keys x ss)

  pub restrict-keys : (ss : List Slot) → SameKeys (restrict b ss) ss
  unfolding restrict
  restrict-keys ss = restricted-keys (excluded_at b ss) ss

  -- the same properties are excluded at each place
  pub excluded-restricted : (x : ℕ → ℕ → Bool) (ss : List Slot) (v p : ℕ)
      → excluded_at b (restrict_by b x ss) v p ≡ excluded_at b ss v p
  unfolding excluded_at restrict_by
  excluded-restricted x [] v p = refl
  excluded-restricted x (slot u d n lo hi ∷ ss) v p = rw (excluded-restricted x ss v p)

  pub excluded-settled : (k : ℕ) (ss : List Slot) (v p : ℕ) → excluded_at b (settled k ss) v p ≡ excluded_at b ss v p
  unfolding excluded_at settled
  excluded-settled k [] v p = refl
  excluded-settled k (slot u d n lo hi ∷ ss) v p = rw (excluded-settled (suc k) ss v p)

  -- and none where no property excludes another
  pub none-excluded : ((p q : ℕ) → b.excludes p q ≡ false) → (ss : List Slot) (v p : ℕ) → excluded_at b ss v p ≡ false
  unfolding excluded_at
  none-excluded f [] v p = refl
  none-excluded f (slot u d n lo hi ∷ ss) v p =
      rw (f n p, none-excluded f ss v p, and_zero (not (eqb lo 0)), and_zero (not d), and_zero (eqb v u))

  -- an upper bound is dropped, or 0, or as it was
  small-high : (d x : Bool) (n lo : ℕ) (hi : Option ℕ) → SmallTop hi → SmallTop (restricted_high b d x n lo hi)
  small-high true x n lo hi s =
      bool_cases (under lo (b.cap n))
      (λ q. rw q (omega arith))
      (λ q. bool_cases (idle (b.cap n) hi) (λ r. rw (q, r) tt) (λ r. rw (q, r) s))
  small-high false true n lo hi s = bool_cases (eqb lo 0) (λ q. rw q tt) (λ q. rw q (omega arith))
  small-high false false n lo hi s = s

  small-restricted : (x : ℕ → ℕ → Bool) (ss : List Slot) → SmallSlots ss → SmallSlots (restrict_by b x ss)
  unfolding restrict_by
  small-restricted x [] s = tt
  small-restricted x (slot u d n lo hi ∷ ss) s =
      ((s.0.0, s.0.1, small-high d (x u n) n lo hi s.0.2), small-restricted x ss s.1)

  pub small-restrict : (ss : List Slot) → SmallSlots ss → SmallSlots (restrict b ss)
  unfolding restrict
  small-restrict ss = small-restricted (excluded_at b ss) ss

-- ---- the slots of a description

module _ (b : Background) (rs : List (Row Atom ℕ)) where
  pub under-keys : SameKeys (slots_under b rs) (slots rs)
  unfolding slots_under
  under-keys = restrict-keys b (slots rs)

  -- a slot's place has a lower number than the slot
  pub under-early : EarlySlots 1 (slots_under b rs)
  under-early = same-early 1 (slots_under b rs) (slots rs) under-keys (slots-early rs)

  -- each place, class and name has one slot
  pub under-distinct : DistinctSlots (slots_under b rs)
  under-distinct = same-distinct (slots_under b rs) (slots rs) under-keys (slots-distinct rs)

  pub under-taken : (v : ℕ) (d : Bool) (n : ℕ) → taken (slots_under b rs) v d n ≡ taken (slots rs) v d n
  under-taken = same_taken (slots_under b rs) (slots rs) under-keys

  pub under-position : (k v : ℕ) (d : Bool) (n : ℕ) → position k (slots_under b rs) v d n ≡ position k (slots rs) v d n
  under-position k = same-position k (slots_under b rs) (slots rs) under-keys

  pub under-count : length (slots_under b rs) ≡ length (slots rs)
  under-count = same_length (slots_under b rs) (slots rs) under-keys

  -- there are no more slots than rows
  pub under-length : length (slots_under b rs) ≤ length rs
  under-length = omega (arith, under-count, slots_length rs)

  -- names and bounds of slots are names and numbers of entries
  pub under-small : SmallRows rs → SmallSlots (slots_under b rs)
  unfolding slots_under
  under-small o = small-restrict b (slots rs) (slots_small rs o)
