-- Slots by their numbers: the slot of a key, and what a place lists of it.
-- Assumes nothing.
use Prim.Native.Nat.{◌+◌, ◌<◌, suc, ℕ}
use lib.Dec.{eqb}
use lib.ListN.{length}
use mathlib.Core.Bool.{Bool, ◌&&◌, cond, false, false≢true, true}
use mathlib.Core.List.{List, [], ◌∷◌}
use mathlib.Core.Option.{Option, none, some}
use mathlib.Core.Path.{◌∙◌, ◌≡◌, ap, refl}
use native.Mathlib.Omega.{arith}
use Rattle.base.proofs.Tests.{bool_cases, eqb-self, eqb-sym, tests}
use Rattle.logic.specs.Background.{Background}
use Rattle.logic.specs.Normal.{at_most, find, sub}
use Rattle.logic.specs.Place.{Atom, Kind}
use Rattle.logic.specs.Tree.{Row, end}
use Rattle.passes.proofs.CellPlaces.FormLists.{form-find, form-sub}
use Rattle.passes.proofs.Cells.WrittenLists.{value_none}
use Rattle.passes.proofs.SlotLists.SlotLaws.{key-name, key-place, name-class, name-eq, position_from}
use Rattle.passes.specs.code.Forms.{form}
use Rattle.passes.specs.code.Restrict.{slots_under}
use Rattle.passes.specs.code.Slots.{Cell, Slot, cell, cells, closed, inconsistent, is_link, lookup, position, same_key, same_name, settled, slot, slot_at, slot_high, slot_low, taken, value}

-- the slots of one key are among them
pub position-range : (k : ℕ) (ss : List Slot) (v : ℕ) (b : Bool) (n : ℕ) → taken ss v b n ≡ true → position k ss v b n < k + length ss
unfolding taken position
position-range k [] v b n e = absurd (false≢true e)
position-range k (slot u b' n' lo hi ∷ ss) v b n e =
    bool_cases (same_key u b' n' v b n)
    (λ q. rw q (omega arith))
    (λ q. rw q (omega (arith, position-range (suc k) ss v b n (rw q at e))))

-- the cell of a name is the settled slot of the key
pub lookup-number : (k : ℕ) (ss : List Slot) (v : ℕ) (b : Bool) (n : ℕ) → lookup (cells k ss v) b n
    ≡ cond (taken ss v b n)
    (some (cell (position k ss v b n) b n (slot_low (slot_at k (settled k ss) (position k ss v b n))) (slot_high (slot_at k (settled k ss) (position k ss v b n)))))
    none
unfolding lookup cells taken position slot_at settled
lookup-number k [] v b n = refl
lookup-number k (slot u b' n' lo hi ∷ ss) v b n =
    bool_cases (same_key u b' n' v b n)
    (λ q.
    let iu : u ≡ v = key-place u b' n' v b n q in
    let s : same_name b' n' b n ≡ true = key-name u b' n' v b n q in
    let z : eqb v u ≡ true = omega tests in
    rw (q, z, s, eqb-self k) (ap (λ (c : Cell). some c) (renamed k lo (closed (b' && inconsistent (suc k) ss k) hi) (name-class b' n' b n s) (name-eq b' n' b n s))))
    (λ q.
    let p : eqb (position (suc k) ss v b n) k ≡ false = omega (tests, position_from (suc k) ss v b n) in
    rw (q, p) (bool_cases (eqb v u)
    (λ z.
    let y : eqb u v ≡ true = eqb-sym u v ∙ z in
    let s : same_name b' n' b n ≡ false = rw y at q in
    rw (z, s) (lookup-number (suc k) ss v b n))
    (λ z. rw z (lookup-number (suc k) ss v b n))))
  where
    renamed : (k lo : ℕ) (hi : Option ℕ) {b₁ b₂ : Bool} {n₁ n₂ : ℕ} → b₁ ≡ b₂ → n₁ ≡ n₂ → cell k b₁ n₁ lo hi ≡ cell k b₂ n₂ lo hi
    renamed k lo hi i j = cc

-- ---- what a place of a description's slots under a background lists, by the settled slots

module _ (b : Background) (rs : List (Row Atom ℕ)) where
  -- the settled slot of a number
  abbrev pub settled_at : ℕ → Slot
  settled_at j = slot_at 1 (settled 1 (slots_under b rs)) j

  -- of a name that has no slot nothing is listed
  pub no_slot : (v : ℕ) (a : Kind) (n : ℕ) → taken (slots_under b rs) v (is_link a) n ≡ false
      → find a n (form (slots_under b rs) v) ≡ none
  no_slot v a n e = form-find b rs v a n ∙ rw (lookup-number 1 (slots_under b rs) v (is_link a) n, e) (value_none a)

  -- of a name that has one, what its bounds say
  pub slot-lists : (v : ℕ) (a : Kind) (n : ℕ) → taken (slots_under b rs) v (is_link a) n ≡ true
      → find a n (form (slots_under b rs) v)
      ≡ value a (slot_low (settled_at (position 1 (slots_under b rs) v (is_link a) n)))
      (slot_high (settled_at (position 1 (slots_under b rs) v (is_link a) n)))
  slot-lists v a n e = form-find b rs v a n ∙ rw (lookup-number 1 (slots_under b rs) v (is_link a) n, e)

  -- a link that has no slot owns nothing
  pub no-link-slot : (v l : ℕ) → taken (slots_under b rs) v true l ≡ false → sub l (form (slots_under b rs) v) ≡ end
  no-link-slot v l e = form-sub b rs v l ∙ rw (lookup-number 1 (slots_under b rs) v true l, e)

  -- a link that has one, and not at most 0, owns the place of its number
  pub slot_owns : (v l : ℕ) → taken (slots_under b rs) v true l ≡ true
      → sub l (form (slots_under b rs) v)
      ≡ cond (at_most 0 (slot_high (settled_at (position 1 (slots_under b rs) v true l)))) end
      (form (slots_under b rs) (position 1 (slots_under b rs) v true l))
  slot_owns v l e = form-sub b rs v l ∙ rw (lookup-number 1 (slots_under b rs) v true l, e)
