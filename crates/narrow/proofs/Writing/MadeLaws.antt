-- The joined place is what is written kind by kind along the entries of the first place, whatever finds the lacks and
-- the links.
-- Assumes nothing.
use Prim.Native.Nat.{◌<◌, ◌≤◌, suc, ℕ}
use lib.Dec.{eqb}
use mathlib.Core.Bool.{cond, false, true}
use mathlib.Core.List.{List, [], ◌∷◌}
use mathlib.Core.Option.{Option, none, some}
use mathlib.Core.Path.{◌∙◌, ◌≡◌, ap, refl, sym}
use native.Mathlib.Omega.{arith}
use Rattle.base.proofs.Missing.{opt_cases, some-none}
use Rattle.base.proofs.Tests.{bool_cases, eq-cases, eqb-eq, eqb-self, eqb-sym, lt-cases, tests}
use Rattle.base.specs.Ascending.{AllAfter, Sorted}
use Rattle.base.specs.Range.{bit}
use Rattle.logic.proofs.PlaceTrees.Lookup.{same_rank}
use Rattle.logic.proofs.PlaceTrees.Order.{above-find, before-cases}
use Rattle.logic.specs.Canonical.{Above, Ascending}
use Rattle.logic.specs.Normal.{before, find, rank}
use Rattle.logic.specs.Place.{Kind, Place, atom}
use Rattle.logic.specs.Tree.{end, leaf, node}
use Rattle.logic.proofs.SpecimenTrees.IncreasingNames.{Increasing}
use Rattle.logic.specs.Witness.{member}
use Rattle.narrow.specs.code.Made.{Listing, bare, from_first, item, item_if, leaves_of, nil}
use Rattle.passes.proofs.Cells.WrittenLists.{after-lookup, listed, value_none}
use Rattle.passes.proofs.SlotLists.SlotLaws.{class-eq}
use Rattle.passes.specs.code.Forms.{of_kind}
use Rattle.passes.specs.code.Pipeline.{before_cell}
use Rattle.passes.specs.code.Slots.{Cell, cell, is_link, lookup, same_class, value}

-- ---- listings that ascend

unfoldable pub assoc : ℕ → Listing → Option ℕ
assoc n nil = none
assoc n (item n' m q) = cond (eqb n n') (some m) (assoc n q)

abbrev pub Rising : ℕ → Listing → Type 0
Rising b nil = Unit {0}
Rising b (item n m q) = (b ≤ n) × Rising (suc n) q

rising-absent : (x b : ℕ) (q : Listing) → x < b → Rising b q → assoc x q ≡ none
unfolding assoc
rising-absent x b nil h r = refl
rising-absent x b (item n m q) h r =
    let z : eqb x n ≡ false = omega (tests, r.0) in rw z (rising-absent x (suc n) q (omega (arith, r.0)) r.1)

rising-lower : (a b : ℕ) (q : Listing) → a ≤ b → Rising b q → Rising a q
rising-lower a b nil h r = tt
rising-lower a b (item n m q) h r = (omega (arith, r.0), r.1)

assoc-head : (n m : ℕ) (q : Listing) → assoc n (item n m q) ≡ some m
unfolding assoc
assoc-head n m q = rw (eqb-self n)

assoc-other : (x n m : ℕ) (q : Listing) → eqb x n ≡ false → assoc x (item n m q) ≡ assoc x q
unfolding assoc
assoc-other x n m q e = rw e

assoc-nil : (n : ℕ) → assoc n nil ≡ none
unfolding assoc
assoc-nil n = refl

-- listings that ascend and say the same of each name are one
pub rising-one : (b c : ℕ) (x y : Listing) → Rising b x → Rising c y → ((n : ℕ) → assoc n x ≡ assoc n y) → x ≡ y
rising-one b c nil nil r s f = refl
rising-one b c nil (item n m q) r s f = some-none (f n ∙ assoc-head n m q) (assoc-nil n)
rising-one b c (item n m q) nil r s f = some-none (assoc-head n m q) (f n ∙ assoc-nil n)
rising-one b c (item n m q) (item n' m' q') r s f =
    lt-cases n n'
    (λ h. some-none (assoc-head n m q) (f n ∙ rising-absent n n' (item n' m' q') h (omega arith, s.1)))
    (λ h. eq-cases n n'
    (λ e.
    let v : some m ≡ some m' = sym (assoc-head n m q) ∙ f n ∙ ap (λ (x : ℕ). assoc x (item n' m' q')) e ∙ assoc-head n' m' q' in
    let i : m ≡ m' = cc in
    let rest : q ≡ q' = rising-one (suc n) (suc n') q q' r.1 s.1
    (λ x. eq-cases x n
    (λ z. rising-absent x (suc n) q (omega arith) r.1 ∙ sym (rising-absent x (suc n') q' (omega arith) s.1))
    (λ z.
    let p : eqb x n ≡ false = omega tests in
    let p' : eqb x n' ≡ false = omega tests in
    sym (assoc-other x n m q p) ∙ f x ∙ assoc-other x n' m' q' p')) in
    cc)
    (λ e. some-none (assoc-head n' m' q') (sym (f n') ∙ rising-absent n' n (item n m q) (omega arith) (omega arith, r.1))))

-- ---- the cells of one kind, as a listing

unfoldable listing_of : Kind → List Cell → Listing
listing_of a [] = nil
listing_of a (cell j b n lo hi ∷ q) = cond (same_class b (is_link a)) (item_if n (value a lo hi) (listing_of a q)) (listing_of a q)

kind-listing : (a : Kind) (q : List Cell) (r : Place) → of_kind a q r ≡ leaves_of a (listing_of a q) r
unfolding of_kind leaves_of listing_of
kind-listing a [] r = refl
kind-listing a (cell j b n lo hi ∷ q) r =
    bool_cases (same_class b (is_link a))
    (λ z. rw z (opt_cases (value a lo hi) (λ v. rw v (kind-listing a q r)) (λ m v. rw v (ap (λ (x : Place). leaf (atom a n m) x) (kind-listing a q r)))))
    (λ z. rw z (kind-listing a q r))

-- cells after one of this class and name have higher names in its class
listing-after : (a : Kind) (j n lo : ℕ) (hi : Option ℕ) (q : List Cell) → AllAfter before_cell (cell j (is_link a) n lo hi) q → Sorted before_cell q
    → Rising (suc n) (listing_of a q)
unfolding listing_of
listing-after a j n lo hi [] h s = tt
listing-after a j n lo hi (cell j' b n' lo' hi' ∷ q) h s =
    bool_cases (same_class b (is_link a))
    (λ z.
    let i : b ≡ is_link a = class-eq b (is_link a) z in
    let h0 : before (bit (is_link a)) n (bit (is_link a)) n' ≡ true = rw i at h.0 in
    let up : n < n' = before-cases (bit (is_link a)) n (bit (is_link a)) n' h0 (λ w. absurd (omega arith)) (λ e w. w) in
    let s0 : AllAfter before_cell (cell j' (is_link a) n' lo' hi') q = rw i at s.0 in
    let rest : Rising (suc n') (listing_of a q) = listing-after a j' n' lo' hi' q s0 s.1 in
    rw z (opt_cases (value a lo' hi') (λ v. rw v (rising-lower (suc n) (suc n') (listing_of a q) (omega arith) rest)) (λ m v. rw v (omega arith, rest))))
    (λ z. rw z (listing-after a j n lo hi q h.1 s.1))

listing-rising : (a : Kind) (q : List Cell) → Sorted before_cell q → Rising 0 (listing_of a q)
unfolding listing_of
listing-rising a [] s = tt
listing-rising a (cell j b n lo hi ∷ q) s =
    bool_cases (same_class b (is_link a))
    (λ z.
    let i : b ≡ is_link a = class-eq b (is_link a) z in
    let s0 : AllAfter before_cell (cell j (is_link a) n lo hi) q = rw i at s.0 in
    let rest : Rising (suc n) (listing_of a q) = listing-after a j n lo hi q s0 s.1 in
    rw z (opt_cases (value a lo hi) (λ v. rw v (rising-lower 0 (suc n) (listing_of a q) (omega arith) rest)) (λ m v. rw v (omega arith, rest))))
    (λ z. rw z (listing-rising a q s.1))

assoc-item_if : (n n' : ℕ) (o : Option ℕ) (q : Listing) → eqb n n' ≡ false → assoc n (item_if n' o q) ≡ assoc n q
unfolding assoc
assoc-item_if n n' none q e = refl
assoc-item_if n n' (some m) q e = rw e

assoc-item_here : (n : ℕ) (o : Option ℕ) (q : Listing) → assoc n q ≡ none → assoc n (item_if n o q) ≡ o
unfolding assoc
assoc-item_here n none q e = e
assoc-item_here n (some m) q e = rw (eqb-self n)

assoc-listing : (a : Kind) (n : ℕ) (q : List Cell) → Sorted before_cell q → assoc n (listing_of a q) ≡ listed a (lookup q (is_link a) n)
unfolding listing_of lookup
assoc-listing a n [] s = assoc-nil n ∙ sym (value_none a)
assoc-listing a n (cell j b n' lo hi ∷ q) s =
    let ih : assoc n (listing_of a q) ≡ listed a (lookup q (is_link a) n) = assoc-listing a n q s.1 in
    bool_cases (same_class b (is_link a))
    (λ z. rw z (bool_cases (eqb n' n)
    (λ y.
    let i : n' ≡ n = eqb-eq y in
    let ib : b ≡ is_link a = class-eq b (is_link a) z in
    let free : lookup q (is_link a) n ≡ none = rw (← ib, ← i) (after-lookup j b n' lo hi q s.0) in
    let no : assoc n (listing_of a q) ≡ none = ih ∙ rw free (value_none a) in
    rw (y, i) (assoc-item_here n (value a lo hi) (listing_of a q) no))
    (λ y. let w : eqb n n' ≡ false = eqb-sym n n' ∙ y in rw y (assoc-item_if n n' (value a lo hi) (listing_of a q) w ∙ ih))))
    (λ z. rw z ih)

-- ---- what is made along a place's entries

abbrev pub bind : (ℕ → Option ℕ) → Option ℕ → Option ℕ
bind f none = none
bind f (some m) = f m

module _ (g : ℕ → ℕ → Option ℕ) (a : Kind) where
  first-after : (n : ℕ) (t : Place) → Ascending t → Above (rank a) n t → Rising (suc n) (from_first g a t)
  unfolding from_first
  first-after n end s h = tt
  first-after n (leaf (atom k n' m) r) s h =
      bool_cases (eqb (rank a) (rank k))
      (λ q.
      let i : a ≡ k = same_rank a k q in
      let e : before (rank a) n (rank a) n' ≡ true = rw (← i) at h.0 in
      let up : n < n' = before-cases (rank a) n (rank a) n' e (λ w. absurd (omega arith)) (λ e w. w) in
      let s0 : Above (rank a) n' r = rw (← i) at s.0 in
      let rest : Rising (suc n') (from_first g a r) = first-after n' r s.1 s0 in
      rw q (opt_cases (g n' m) (λ v. rw v (rising-lower (suc n) (suc n') (from_first g a r) (omega arith) rest)) (λ x v. rw v (omega arith, rest))))
      (λ q. rw q (first-after n r s.1 h.1))
  first-after n (node l s' r) s h = first-after n r s.2 h.1

  first-rising : (t : Place) → Ascending t → Rising 0 (from_first g a t)
  unfolding from_first
  first-rising end s = tt
  first-rising (leaf (atom k n m) r) s =
      bool_cases (eqb (rank a) (rank k))
      (λ q.
      let i : a ≡ k = same_rank a k q in
      let s0 : Above (rank a) n r = rw (← i) at s.0 in
      let rest : Rising (suc n) (from_first g a r) = first-after n r s.1 s0 in
      rw q (opt_cases (g n m) (λ v. rw v (rising-lower 0 (suc n) (from_first g a r) (omega arith) rest)) (λ x v. rw v (omega arith, rest))))
      (λ q. rw q (first-rising r s.1))
  first-rising (node l s' r) s = first-rising r s.2

  assoc-first : (n : ℕ) (t : Place) → Ascending t → assoc n (from_first g a t) ≡ bind (g n) (find a n t)
  unfolding from_first find
  assoc-first n end s = assoc-nil n
  assoc-first n (leaf (atom k n' m) r) s =
      let ih : assoc n (from_first g a r) ≡ bind (g n) (find a n r) = assoc-first n r s.1 in
      bool_cases (eqb (rank a) (rank k))
      (λ q. rw q (bool_cases (eqb n n')
      (λ y.
      let i : a ≡ k = same_rank a k q in
      let e : n ≡ n' = eqb-eq y in
      let free : find a n r ≡ none = rw (i, e) (above-find k n' r s.0) in
      let no : assoc n (from_first g a r) ≡ none = ih ∙ rw free in
      rw (y, ← e) (assoc-item_here n (g n m) (from_first g a r) no))
      (λ y. rw y (assoc-item_if n n' (g n' m) (from_first g a r) y ∙ ih))))
      (λ q. rw q ih)
  assoc-first n (node l s' r) s = assoc-first n r s.2

  -- what is listed of a kind, if each name of the first place says it
  pub kind-first : (t : Place) (q : List Cell) → Ascending t → Sorted before_cell q
      → ((n : ℕ) → listed a (lookup q (is_link a) n) ≡ bind (g n) (find a n t)) → (r : Place) → of_kind a q r ≡ leaves_of a (from_first g a t) r
  kind-first t q s c f r =
      kind-listing a q r ∙ ap (λ (x : Listing). leaves_of a x r)
      (rising-one 0 0 (listing_of a q) (from_first g a t) (listing-rising a q c) (first-rising t s)
      (λ n. assoc-listing a n q c ∙ f n ∙ sym (assoc-first n t s)))

-- ---- names without numbers

bare-rising : (b : ℕ) (ns : List ℕ) → Increasing b ns → Rising b (bare ns)
unfolding bare
bare-rising b [] h = tt
bare-rising b (n ∷ ns) h = (h.0, bare-rising (suc n) ns h.1)

assoc-bare : (n : ℕ) (ns : List ℕ) → assoc n (bare ns) ≡ cond (member n ns) (some 0) none
unfolding bare assoc member
assoc-bare n [] = refl
assoc-bare n (x ∷ ns) = bool_cases (eqb n x) (λ q. rw q) (λ q. rw q (assoc-bare n ns))

-- what is listed of a kind with no numbers, if it has these names
pub kind-list : (a : Kind) (q : List Cell) → Sorted before_cell q → (ns : List ℕ) → Increasing 0 ns
    → ((n : ℕ) → listed a (lookup q (is_link a) n) ≡ cond (member n ns) (some 0) none) → (r : Place) → of_kind a q r ≡ leaves_of a (bare ns) r
kind-list a q c ns i f r =
    kind-listing a q r ∙ ap (λ (x : Listing). leaves_of a x r)
    (rising-one 0 0 (listing_of a q) (bare ns) (listing-rising a q c) (bare-rising 0 ns i) (λ n. assoc-listing a n q c ∙ f n ∙ sym (assoc-bare n ns)))
