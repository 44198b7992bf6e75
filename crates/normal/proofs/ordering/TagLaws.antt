-- The tags of the slots of a table, each with its place.
-- Assumes nothing.
use Prim.Native.Nat.{◌%◌, ◌+◌, ◌/◌, ◌<◌, ◌≤◌, suc, zero, ℕ}
use lib.Dec.{eqb}
use lib.ListN.{get_or}
use mathlib.Core.List.Memᴰ
use mathlib.Core.List.{List, Memᴰ, [], ◌∷◌}
use mathlib.Core.Logic.{⊎_elim}
use mathlib.Core.Path.{◌∙◌, ◌≡◌, ap, refl, sym}
use native.Mathlib.Omega.{arith}
use Rattle.base.proofs.Tests.{eq-cases}
use Rattle.passes.specs.code.Pipeline.{Tag, tag, tags}
use Rattle.passes.specs.code.Slots.{Cell, Slot, cell, settled, slot}
use Rattle.slots.specs.code.Tables.{high_in, high_part, key_in, low_part, slot_in, slots_from}

-- the cell of slot j, and its tag
abbrev pub slot_cell : List ℕ → ℕ → Cell
slot_cell t j =
    cell j (eqb (key_in (get_or t j 0) / 65536 % 2) 1) (key_in (get_or t j 0) % 65536) (low_part (get_or t j 0)) (high_in (high_part (get_or t j 0)))

abbrev pub slot_tag : List ℕ → ℕ → Tag
slot_tag t j = tag (key_in (get_or t j 0) / 131072) (slot_cell t j)

-- ---- the tags of settled slots

-- the tags of slots that count from k
unfoldable pub plain_tags : ℕ → List Slot → List Tag
plain_tags k [] = []
plain_tags k (slot u b n lo hi ∷ ss) = tag u (cell k b n lo hi) ∷ plain_tags (suc k) ss

-- the tags are those of the settled slots
tags-settled : (k : ℕ) (ss : List Slot) → tags k ss ≡ plain_tags k (settled k ss)
unfolding tags plain_tags settled
tags-settled k [] = refl
tags-settled k (slot u b n lo hi ∷ ss) = rw (tags-settled (suc k) ss)

-- a table of settled slots has the tags of the slots
pub tags-table : (t : List ℕ) (used : ℕ) (ss : List Slot) → slots_from t 1 used ≡ settled 1 ss → tags 1 ss ≡ plain_tags 1 (slots_from t 1 used)
tags-table t used ss e = tags-settled 1 ss ∙ ap (plain_tags 1) (sym e)

-- ---- which they are

-- one slot more
tags-step : (t : List ℕ) (i n : ℕ) → plain_tags i (slots_from t i (suc n)) ≡ slot_tag t i ∷ plain_tags (suc i) (slots_from t (suc i) n)
unfolding plain_tags slots_from slot_in
tags-step t i n = refl

-- the tag of each slot is there
pub tag-there : (t : List ℕ) (i n j : ℕ) → i ≤ j → j < i + n → Memᴰ (slot_tag t j) (plain_tags i (slots_from t i n))
tag-there t i zero j lo hi = absurd (omega arith)
tag-there t i (suc n) j lo hi =
    rw (tags-step t i n)
    (eq-cases j i
    (λ e. Memᴰ.head (rw e refl))
    (λ e. Memᴰ.tail (tag-there t (suc i) n j (omega arith) (omega arith))))

-- x is the tag of one of n slots from slot i on
pub record SlotOf (t : List ℕ) (i n : ℕ) (x : Tag) : Type 0 where
  pub at : ℕ
  pub from : i ≤ at
  pub to : at < i + n
  pub is : x ≡ slot_tag t at

-- and there are no others
pub slot_of : (t : List ℕ) (i n : ℕ) (x : Tag) → Memᴰ x (plain_tags i (slots_from t i n)) → SlotOf t i n x
unfolding plain_tags slots_from
slot_of t i zero x m = absurd (Memᴰ.not-nil m)
slot_of t i (suc n) x m =
    ⊎_elim
    (λ e. record { at = i; from = omega arith; to = omega arith; is = e })
    (λ k. later (slot_of t (suc i) n x k))
    (Memᴰ.cases_cons (rw (tags-step t i n) at m))
  where
    later : SlotOf t (suc i) n x → SlotOf t i (suc n) x
    later r = record { at = r.at; from = omega (arith, r.from); to = omega (arith, r.to); is = r.is }
