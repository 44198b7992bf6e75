-- The place that is written from the cells of a place, kind by kind, and its order.
-- Assumes nothing.
use Prim.Native.Nat.{◌<◌, ℕ}
use mathlib.Core.Bool.{Bool, ◌&&◌, not, true}
use mathlib.Core.List.{List, Memᴰ, [], ◌∷◌}
use mathlib.Core.Option.{Option, none, some}
use mathlib.Core.Path.{◌∙◌, ◌≡◌, ap, refl, sym}
use native.Mathlib.Omega.{arith}
use Rattle.base.proofs.Tests.{and_left, and_right, bool_cases, false_of_not}
use Rattle.base.specs.Ascending.{AllAfter, Sorted}
use Rattle.base.specs.Range.{bit}
use Rattle.logic.proofs.PlaceTrees.Order.{before-cases, before-eq, before-lt}
use Rattle.logic.specs.Canonical.{Above, Ascending}
use Rattle.logic.specs.Normal.{at_most, before, is_end, rank}
use Rattle.logic.specs.Place.{Kind, Place, atom, has, lacks, least, most}
use Rattle.logic.specs.Tree.{end, leaf, node}
use Rattle.passes.proofs.SlotLists.SlotLaws.{class-eq}
use Rattle.passes.specs.code.Forms.{kept, leaf_if, of_every, of_kind, written}
use Rattle.passes.specs.code.Pipeline.{before_cell}
use Rattle.passes.specs.code.Slots.{Cell, cell, is_link, same_class, value}

-- only the places below the cells matter
every-agree : (T T' : ℕ → Place) (q : List Cell) → ((j : ℕ) (b : Bool) (n lo : ℕ) (hi : Option ℕ) → Memᴰ (cell j b n lo hi) q → T j ≡ T' j)
    → of_every T q ≡ of_every T' q
unfolding of_every
every-agree T T' [] h = refl
every-agree T T' (cell j b n lo hi ∷ q) h =
    rw (h j b n lo hi (Memᴰ.head refl), every-agree T T' q (λ j' b' n' lo' hi' m. h j' b' n' lo' hi' (Memᴰ.tail m)))

pub written-agree : (T T' : ℕ → Place) (q : List Cell) → ((j : ℕ) (b : Bool) (n lo : ℕ) (hi : Option ℕ) → Memᴰ (cell j b n lo hi) q → T j ≡ T' j)
    → written T q ≡ written T' q
unfolding written
written-agree T T' q h = rw (every-agree T T' q h)

-- ---- its order

-- all entries of a place are of a higher kind
abbrev Over : ℕ → Place → Type 0
Over a end = Unit {0}
Over a (leaf (atom k n m) r) = (a < rank k) × Over a r
Over a (node l s r) = (a < 5) × Over a r

over-above : (a n : ℕ) (t : Place) → Over a t → Above a n t
over-above a n end h = tt
over-above a n (leaf (atom k n' m) r) h = (before-lt a n (rank k) n' h.0, over-above a n r h.1)
over-above a n (node l s r) h = (before-lt a n 5 l h.0, over-above a n r h.1)

over-leaf_if : (a : ℕ) (d : Kind) (n : ℕ) (o : Option ℕ) (r : Place) → a < rank d → Over a r → Over a (leaf_if d n o r)
over-leaf_if a d n none r i h = h
over-leaf_if a d n (some m) r i h = (i, h)

over-kind : (a : ℕ) (d : Kind) (q : List Cell) (r : Place) → a < rank d → Over a r → Over a (of_kind d q r)
unfolding of_kind
over-kind a d [] r i h = h
over-kind a d (cell j b n lo hi ∷ q) r i h =
    bool_cases (same_class b (is_link d)) (λ z. rw z (over-leaf_if a d n (value d lo hi) (of_kind d q r) i (over-kind a d q r i h))) (λ z. rw z (over-kind a d q r i h))

over-every : (a : ℕ) (T : ℕ → Place) (q : List Cell) → a < 5 → Over a (of_every T q)
unfolding of_every
over-every a T [] i = tt
over-every a T (cell j b n lo hi ∷ q) i = bool_cases (kept T j b hi) (λ z. rw z (i, over-every a T q i)) (λ z. rw z (over-every a T q i))

-- names of one class ascend under each kind
same_class_lem : (b : Bool) (n n' a : ℕ) → before (bit b) n (bit b) n' ≡ true → before a n a n' ≡ true
same_class_lem b n n' a e = before-cases (bit b) n (bit b) n' e (λ h. absurd (omega arith)) (λ i h. before-eq a n a n' refl h)

above-leaf_if : (a c : ℕ) (d : Kind) (n : ℕ) (o : Option ℕ) (r : Place) → before a c (rank d) n ≡ true → Above a c r → Above a c (leaf_if d n o r)
above-leaf_if a c d n none r i h = h
above-leaf_if a c d n (some m) r i h = (i, h)

above-kind : (a : Kind) (j : ℕ) (b : Bool) (n lo : ℕ) (hi : Option ℕ) (q : List Cell) (r : Place) → b ≡ is_link a
    → AllAfter before_cell (cell j b n lo hi) q → Over (rank a) r → Above (rank a) n (of_kind a q r)
unfolding of_kind
above-kind a j b n lo hi [] r i h o = over-above (rank a) n r o
above-kind a j b n lo hi (cell j' b' n' lo' hi' ∷ q) r i h o =
    let ih : Above (rank a) n (of_kind a q r) = above-kind a j b n lo hi q r i h.1 o in
    bool_cases (same_class b' (is_link a))
    (λ z.
    let ib : b ≡ b' = i ∙ sym (class-eq b' (is_link a) z) in
    let e : before (bit b) n (bit b) n' ≡ true = ap (λ (x : Bool). before (bit b) n (bit x) n') ib ∙ h.0 in
    rw z (above-leaf_if (rank a) n a n' (value a lo' hi') (of_kind a q r) (same_class_lem b n n' (rank a) e) ih))
    (λ z. rw z ih)

ascending-leaf_if : (a : Kind) (n : ℕ) (o : Option ℕ) (r : Place) → Above (rank a) n r → Ascending r → Ascending (leaf_if a n o r)
ascending-leaf_if a n none r h g = g
ascending-leaf_if a n (some m) r h g = (h, g)

ascending-kind : (a : Kind) (q : List Cell) (r : Place) → Sorted before_cell q → Over (rank a) r → Ascending r → Ascending (of_kind a q r)
unfolding of_kind
ascending-kind a [] r s o g = g
ascending-kind a (cell j b n lo hi ∷ q) r s o g =
    let ih : Ascending (of_kind a q r) = ascending-kind a q r s.1 o g in
    bool_cases (same_class b (is_link a))
    (λ z. rw z (ascending-leaf_if a n (value a lo hi) (of_kind a q r) (above-kind a j b n lo hi q r (class-eq b (is_link a) z) s.0 o) ih))
    (λ z. rw z ih)

above-every : (T : ℕ → Place) (j : ℕ) (b : Bool) (l lo : ℕ) (hi : Option ℕ) (q : List Cell) → b ≡ true
    → AllAfter before_cell (cell j b l lo hi) q → Above 5 l (of_every T q)
unfolding of_every
above-every T j b l lo hi [] i h = tt
above-every T j b l lo hi (cell j' b' n' lo' hi' ∷ q) i h =
    let ih : Above 5 l (of_every T q) = above-every T j b l lo hi q i h.1 in
    bool_cases (kept T j' b' hi')
    (λ z.
    let ib : b ≡ b' = i ∙ sym (and_left b' (not (is_end (T j')) && not (at_most 0 hi')) z) in
    let e : before (bit b) l (bit b) n' ≡ true = ap (λ (x : Bool). before (bit b) l (bit x) n') ib ∙ h.0 in
    rw z (same_class_lem b l n' 5 e, ih))
    (λ z. rw z ih)

ascending-every : (T : ℕ → Place) (q : List Cell) → Sorted before_cell q → Ascending (of_every T q)
unfolding of_every
ascending-every T [] s = tt
ascending-every T (cell j b n lo hi ∷ q) s =
    let ih : Ascending (of_every T q) = ascending-every T q s.1 in
    bool_cases (kept T j b hi)
    (λ z.
    let w : not (is_end (T j)) ≡ true = and_left (not (is_end (T j))) (not (at_most 0 hi)) (and_right b (not (is_end (T j)) && not (at_most 0 hi)) z) in
    rw z (above-every T j b n lo hi q (and_left b (not (is_end (T j)) && not (at_most 0 hi)) z) s.0, false_of_not (is_end (T j)) w, ih))
    (λ z. rw z ih)

-- from sorted cells, entries that ascend
pub written-ascending : (T : ℕ → Place) (q : List Cell) → Sorted before_cell q → Ascending (written T q)
unfolding written
written-ascending T q s =
    ascending-kind has q _ s (over-kind 1 lacks q _ (omega arith) (over-kind 1 least q _ (omega arith) (over-kind 1 most q _ (omega arith) (over-every 1 T q (omega arith)))))
    (ascending-kind lacks q _ s (over-kind 2 least q _ (omega arith) (over-kind 2 most q _ (omega arith) (over-every 2 T q (omega arith))))
    (ascending-kind least q _ s (over-kind 3 most q _ (omega arith) (over-every 3 T q (omega arith)))
    (ascending-kind most q _ s (over-every 4 T q (omega arith)) (ascending-every T q s))))
