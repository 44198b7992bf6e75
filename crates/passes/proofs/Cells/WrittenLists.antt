-- What a place that is written from sorted cells lists: what its cells say of each name.
-- Assumes nothing.
use Prim.Native.Nat.{ℕ}
use lib.Dec.{eqb}
use mathlib.Core.Bool.{Bool, ◌&&◌, cond, false, not, true}
use mathlib.Core.List.{List, [], ◌∷◌}
use mathlib.Core.Option.{Option, none, some}
use mathlib.Core.Path.{◌∙◌, ◌≡◌, refl, sym}
use native.Mathlib.Omega.{arith}
use Rattle.base.proofs.Tests.{and_zero, bool_cases, eqb-eq, eqb-sym, tests}
use Rattle.base.specs.Ascending.{AllAfter, Sorted}
use Rattle.base.specs.Range.{bit}
use Rattle.logic.proofs.PlaceTrees.Lookup.{is-end, same_self}
use Rattle.logic.proofs.PlaceTrees.Order.{before-cases}
use Rattle.logic.specs.Normal.{at_most, before, find, is_end, rank, same, sub}
use Rattle.logic.specs.Place.{Kind, Place, has, lacks, least, most, nothing}
use Rattle.logic.specs.Tree.{end}
use Rattle.passes.proofs.SlotLists.SlotLaws.{class-eq}
use Rattle.passes.specs.code.Forms.{kept, leaf_if, of_every, of_kind, written}
use Rattle.passes.specs.code.Pipeline.{before_cell}
use Rattle.passes.specs.code.Slots.{Cell, cell, high_of, is_link, lookup, low_of, same_class, same_name, value}

-- the place below a cell; nothing is owned where there is none, or where the link is at most 0
abbrev pub below : (ℕ → Place) → Option Cell → Place
below T none = end
below T (some (cell j b n lo hi)) = cond (at_most 0 hi) end (T j)

-- no slot lists nothing
pub value_none : (a : Kind) → value a 0 none ≡ none
value_none has = refl
value_none lacks = refl
value_none least = refl
value_none most = refl
value_none nothing = refl

before-other : (b : Bool) (n : ℕ) (b' : Bool) (n' : ℕ) → before (bit b) n (bit b') n' ≡ true → same_name b' n' b n ≡ false
before-other true n true n' e = before-cases 1 n 1 n' e (λ h. absurd (omega arith)) (λ i h. omega tests)
before-other true n false n' e = refl
before-other false n true n' e = refl
before-other false n false n' e = before-cases 0 n 0 n' e (λ h. absurd (omega arith)) (λ i h. omega tests)

-- cells after another have other names
pub after-lookup : (j : ℕ) (b : Bool) (n lo : ℕ) (hi : Option ℕ) (q : List Cell) → AllAfter before_cell (cell j b n lo hi) q → lookup q b n ≡ none
unfolding lookup
after-lookup j b n lo hi [] h = refl
after-lookup j b n lo hi (cell j' b' n' lo' hi' ∷ q) h = rw (before-other b n b' n' h.0) (after-lookup j b n lo hi q h.1)

-- ---- atoms

find-leaf_if-other : (a : Kind) (n : ℕ) (a' : Kind) (n' : ℕ) (o : Option ℕ) (r : Place) → same a n a' n' ≡ false → find a n (leaf_if a' n' o r) ≡ find a n r
unfolding find
find-leaf_if-other a n a' n' none r e = refl
find-leaf_if-other a n a' n' (some m) r e = rw e

find-leaf_if-same : (a : Kind) (n : ℕ) (o : Option ℕ) (r : Place) → find a n r ≡ none → find a n (leaf_if a n o r) ≡ o
unfolding find
find-leaf_if-same a n none r e = e
find-leaf_if-same a n (some m) r e = rw (same_self a n)

find-other-kind : (a : Kind) (n : ℕ) (a' : Kind) (q : List Cell) (r : Place) → eqb (rank a) (rank a') ≡ false → find a n (of_kind a' q r) ≡ find a n r
unfolding of_kind
find-other-kind a n a' [] r e = refl
find-other-kind a n a' (cell j b n' lo hi ∷ q) r e =
    let ih : find a n (of_kind a' q r) ≡ find a n r = find-other-kind a n a' q r e in
    bool_cases (same_class b (is_link a')) (λ z. rw z (find-leaf_if-other a n a' n' (value a' lo hi) (of_kind a' q r) (rw e) ∙ ih)) (λ z. rw z ih)

-- the number that the cell of a name, if any, lists with a kind
abbrev pub listed : Kind → Option Cell → Option ℕ
listed a c = value a (low_of c) (high_of c)

find-kind : (a : Kind) (n : ℕ) (q : List Cell) (r : Place) → Sorted before_cell q → find a n r ≡ none → find a n (of_kind a q r) ≡ listed a (lookup q (is_link a) n)
unfolding of_kind lookup
find-kind a n [] r s e = e ∙ sym (value_none a)
find-kind a n (cell j b n' lo hi ∷ q) r s e =
    let ih : find a n (of_kind a q r) ≡ listed a (lookup q (is_link a) n) = find-kind a n q r s.1 e in
    bool_cases (same_class b (is_link a))
    (λ z. rw z (bool_cases (eqb n' n)
    (λ y.
    let i : n' ≡ n = eqb-eq y in
    let ib : b ≡ is_link a = class-eq b (is_link a) z in
    let free : lookup q (is_link a) n ≡ none = rw (← ib, ← i) (after-lookup j b n' lo hi q s.0) in
    let no : find a n (of_kind a q r) ≡ none = ih ∙ rw free (value_none a) in
    rw (y, i) (find-leaf_if-same a n (value a lo hi) (of_kind a q r) no))
    (λ y. rw y (find-leaf_if-other a n a n' (value a lo hi) (of_kind a q r) (rw (eqb-sym n n', y) (and_zero (eqb (rank a) (rank a)))) ∙ ih))))
    (λ z. rw z ih)

find-every : (T : ℕ → Place) (a : Kind) (n : ℕ) (q : List Cell) → find a n (of_every T q) ≡ none
unfolding of_every find
find-every T a n [] = refl
find-every T a n (cell j b n' lo hi ∷ q) = bool_cases (kept T j b hi) (λ z. rw z (find-every T a n q)) (λ z. rw z (find-every T a n q))

-- ---- places below

sub-leaf_if : (l : ℕ) (a : Kind) (n : ℕ) (o : Option ℕ) (r : Place) → sub l (leaf_if a n o r) ≡ sub l r
unfolding sub
sub-leaf_if l a n none r = refl
sub-leaf_if l a n (some m) r = refl

sub-kind : (l : ℕ) (a : Kind) (q : List Cell) (r : Place) → sub l (of_kind a q r) ≡ sub l r
unfolding of_kind
sub-kind l a [] r = refl
sub-kind l a (cell j b n lo hi ∷ q) r =
    bool_cases (same_class b (is_link a)) (λ z. rw z (sub-leaf_if l a n (value a lo hi) (of_kind a q r) ∙ sub-kind l a q r)) (λ z. rw z (sub-kind l a q r))

sub-every : (T : ℕ → Place) (l : ℕ) (q : List Cell) → Sorted before_cell q → sub l (of_every T q) ≡ below T (lookup q true l)
unfolding of_every lookup sub
sub-every T l [] s = refl
sub-every T l (cell j true n lo hi ∷ q) s =
    let ih : sub l (of_every T q) ≡ below T (lookup q true l) = sub-every T l q s.1 in
    bool_cases (eqb n l)
    (λ y.
    let i : n ≡ l = eqb-eq y in
    let free : lookup q true l ≡ none = rw (← i) (after-lookup j true n lo hi q s.0) in
    let no : sub l (of_every T q) ≡ end = ih ∙ rw free in
    rw y (bool_cases (at_most 0 hi)
    (λ x. rw x (bool_cases (is_end (T j)) (λ w. rw w no) (λ w. rw w no)))
    (λ x. rw x (bool_cases (is_end (T j)) (λ w. rw w (no ∙ sym (is-end (T j) w))) (λ w. rw (w, eqb-sym l n, y))))))
    (λ y. rw y (bool_cases (not (is_end (T j)) && not (at_most 0 hi)) (λ x. rw (x, eqb-sym l n, y) ih) (λ x. rw x ih)))
sub-every T l (cell j false n lo hi ∷ q) s = sub-every T l q s.1

-- ---- the whole

module _ (T : ℕ → Place) (q : List Cell) (s : Sorted before_cell q) where
  pub written-find : (a : Kind) (n : ℕ) → find a n (written T q) ≡ listed a (lookup q (is_link a) n)
  unfolding written
  written-find has n =
      find-kind has n q _ s (find-other-kind has n lacks q _ refl ∙ find-other-kind has n least q _ refl ∙ find-other-kind has n most q _ refl ∙ find-every T has n q)
  written-find lacks n =
      find-other-kind lacks n has q _ refl
      ∙ find-kind lacks n q _ s (find-other-kind lacks n least q _ refl ∙ find-other-kind lacks n most q _ refl ∙ find-every T lacks n q)
  written-find least n =
      find-other-kind least n has q _ refl ∙ find-other-kind least n lacks q _ refl
      ∙ find-kind least n q _ s (find-other-kind least n most q _ refl ∙ find-every T least n q)
  written-find most n =
      find-other-kind most n has q _ refl ∙ find-other-kind most n lacks q _ refl ∙ find-other-kind most n least q _ refl
      ∙ find-kind most n q _ s (find-every T most n q)
  written-find nothing n =
      find-other-kind nothing n has q _ refl ∙ find-other-kind nothing n lacks q _ refl ∙ find-other-kind nothing n least q _ refl
      ∙ find-other-kind nothing n most q _ refl ∙ find-every T nothing n q

  pub written-sub : (l : ℕ) → sub l (written T q) ≡ below T (lookup q true l)
  unfolding written
  written-sub l = sub-kind l has q _ ∙ sub-kind l lacks q _ ∙ sub-kind l least q _ ∙ sub-kind l most q _ ∙ sub-every T l q s
