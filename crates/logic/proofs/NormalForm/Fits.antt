-- What the passes over a place mean: which items fit the result.
-- Assumes nothing.
use Prim.Native.Nat.{◌<◌, suc, zero, ℕ}
use lib.Dec.{eqb}
use mathlib.Core.Bool.{Bool, ◌&&◌, ◌||◌, false, false≢true, not, or-true, true}
use mathlib.Core.Option.{some}
use mathlib.Core.Path.{◌∙◌, ◌≡◌, refl, sym}
use native.Mathlib.Omega.{arith}
use Rattle.base.proofs.Missing.{not-true, some-none}
use Rattle.base.proofs.Tests.{and_both, and_left, and_right, and-swap, bool_cases, eq-cases, eqb-eq, iff-eq, or_cases, or_right, tests}
use Rattle.logic.proofs.PlaceTrees.Lookup.{same_kind, same_name, same_rank}
use Rattle.logic.proofs.Records.Counting.{every-at, every_of}
use Rattle.logic.specs.Normal.{before, find, is_bottom, is_end, put, put_every, rank, remove, remove_every, same, sub}
use Rattle.logic.specs.Place.{Kind, Place, atom, most, nothing}
use Rattle.logic.specs.Record.{Record, count, each_linked, fits, meets, successors}
use Rattle.logic.specs.Tree.{end, leaf, node}

-- ---- counting

-- none passes: the count is 0
zero-count : (p : ℕ → Bool) (n : ℕ) → ((y : ℕ) → y < n → p y ≡ false) → count p n ≡ 0
unfolding count
zero-count p zero f = refl
zero-count p (suc n) f = rw (f n (omega arith)) (omega (arith, zero-count p n (λ y h. f y (omega arith))))

-- one that passes is counted
count-some : (p : ℕ → Bool) (n y : ℕ) → y < n → p y ≡ true → 0 < count p n
unfolding count
count-some p zero y h e = absurd (omega arith)
count-some p (suc n) y h e =
    eq-cases y n
    (λ q. rw (← q, e) (omega arith))
    (λ q. omega (arith, count-some p n y (omega arith) e))

-- ---- fitting

module _ (c : Record) where
  -- an entry of a place that is fitted is met
  pub find-sound : (k : Kind) (n : ℕ) (t : Place) (m x : ℕ) → find k n t ≡ some m → fits c t x ≡ true → meets c (atom k n m) x ≡ true
  unfolding find fits
  find-sound k n end m x e h = some-none e refl
  find-sound k n (leaf (atom k' n' m') r) m x e h =
      bool_cases (same k n k' n')
      (λ q.
      let em : some m' ≡ some m = rw q at e in
      cc (same_kind k n k' n' q, same_name k n k' n' q, em, and_left (meets c (atom k' n' m') x) (fits c r x) h))
      (λ q. find-sound k n r m x (rw q at e) (and_right (meets c (atom k' n' m') x) (fits c r x) h))
  find-sound k n (node l s r) m x e h = find-sound k n r m x e (and_right (each_linked c l x (λ y. fits c s y)) (fits c r x) h)

  -- an atom put in is met besides
  pub put-sound : (k : Kind) (n m : ℕ) (t : Place) (x : ℕ) → fits c (put k n m t) x ≡ meets c (atom k n m) x && fits c t x
  unfolding put fits
  put-sound k n m end x = refl
  put-sound k n m (leaf (atom k' n' m') r) x =
      bool_cases (before (rank k) n (rank k') n')
      (λ q. rw q)
      (λ q. rw (q, put-sound k n m r x) (and-swap (meets c (atom k' n' m') x) (meets c (atom k n m) x) (fits c r x)))
  put-sound k n m (node l s r) x =
      bool_cases (before (rank k) n 5 l)
      (λ q. rw q)
      (λ q. rw (q, put-sound k n m r x) (and-swap (each_linked c l x (λ y. fits c s y)) (meets c (atom k n m) x) (fits c r x)))

  -- an 'every' put in is met besides
  pub put_every-sound : (l : ℕ) (s t : Place) (x : ℕ) → fits c (put_every l s t) x ≡ each_linked c l x (λ y. fits c s y) && fits c t x
  unfolding put_every fits
  put_every-sound l s end x = refl
  put_every-sound l s (leaf (atom k n m) r) x =
      bool_cases (before 5 l (rank k) n)
      (λ q. rw q)
      (λ q. rw (q, put_every-sound l s r x) (and-swap (meets c (atom k n m) x) (each_linked c l x (λ y. fits c s y)) (fits c r x)))
  put_every-sound l s (node l' s' r) x =
      bool_cases (before 5 l 5 l')
      (λ q. rw q)
      (λ q. rw (q, put_every-sound l s r x)
      (and-swap (each_linked c l' x (λ y. fits c s' y)) (each_linked c l x (λ y. fits c s y)) (fits c r x)))

  -- an entry that is met anyway may go
  pub remove-sound : (k : Kind) (n : ℕ) (t : Place) (x : ℕ) → ((m : ℕ) → find k n t ≡ some m → meets c (atom k n m) x ≡ true)
      → fits c (remove k n t) x ≡ fits c t x
  unfolding remove find fits
  remove-sound k n end x f = refl
  remove-sound k n (leaf (atom k' n' m) r) x f =
      bool_cases (same k n k' n')
      (λ q.
      let g : meets c (atom k n m) x ≡ true = f m (rw q) in
      let g' : meets c (atom k' n' m) x ≡ true = cc (same_kind k n k' n' q, same_name k n k' n' q, g) in
      rw (q, g'))
      (λ q. rw (q, remove-sound k n r x (λ m e. f m (rw q e))))
  remove-sound k n (node l s r) x f = rw (remove-sound k n r x f)

  -- the 'every' of a link taken out
  pub sub-sound : (l : ℕ) (t : Place) (x : ℕ) → fits c t x ≡ each_linked c l x (λ y. fits c (sub l t) y) && fits c (remove_every l t) x
  unfolding sub remove_every fits
  sub-sound l end x = sym (and_both (every_of _ _ (λ y h. or-true (not (c.link l x y)))) refl)
  sub-sound l (leaf a r) x =
      rw (sub-sound l r x) (and-swap (meets c a x) (each_linked c l x (λ y. fits c (sub l r) y)) (fits c (remove_every l r) x))
  sub-sound l (node l' s r) x =
      bool_cases (eqb l l')
      (λ q. let e : l ≡ l' = eqb-eq q in rw (q, e))
      (λ q. rw (q, sub-sound l r x)
      (and-swap (each_linked c l' x (λ y. fits c s y)) (each_linked c l x (λ y. fits c (sub l r) y)) (fits c (remove_every l r) x)))

  -- what follows at the items below the size follows at those linked to
  pub linked-follows : (l x : ℕ) (p q : ℕ → Bool) → ((y : ℕ) → y < c.size → p y ≡ true → q y ≡ true) → each_linked c l x p ≡ true
      → each_linked c l x q ≡ true
  linked-follows l x p q f e =
      every_of _ _
      (λ y h. or_cases (not (c.link l x y)) (p y) (every-at _ _ e y h) (λ g. rw g) (λ g. or_right (not (c.link l x y)) (f y h g)))

  -- the items that x is linked to fit what the place says of them
  pub fits_sub : (l : ℕ) (t : Place) (x : ℕ) → fits c t x ≡ true → each_linked c l x (λ y. fits c (sub l t) y) ≡ true
  fits_sub l t x h = and_left _ (fits c (remove_every l t) x) (sym (sub-sound l t x) ∙ h)

  -- no item by the link: 'every' asks nothing
  pub linked-none : (l x : ℕ) (p : ℕ → Bool) → successors c l x ≡ 0 → each_linked c l x p ≡ true
  linked-none l x p e =
      every_of _ _ (λ y h.
      let z : c.link l x y ≡ false = not-true (λ q. omega (arith, count-some (λ y. c.link l x y) c.size y h q)) in
      rw z)

  -- an 'every' whose place nothing fits: at most 0
  pub linked-bottom : (l x : ℕ) (p : ℕ → Bool) → ((y : ℕ) → p y ≡ false) → each_linked c l x p ≡ meets c (atom most l 0) x
  linked-bottom l x p f =
      iff-eq
      (λ e.
      let none-linked : (y : ℕ) → y < c.size → c.link l x y ≡ false
      = λ y h. not-true (λ q. let w : (not (c.link l x y) || p y) ≡ true = every-at _ _ e y h in false≢true (rw (q, f y) at w)) in
      let z : successors c l x ≡ 0 = zero-count _ _ none-linked in
      omega tests)
      (λ e. linked-none l x p (omega tests))

  -- nothing fits a place that is bottom
  pub bottom-sound : (t : Place) (x : ℕ) → is_bottom t ≡ true → fits c t x ≡ false
  unfolding is_bottom fits
  bottom-sound end x e = cc
  bottom-sound (leaf (atom k n m) r) x e = let i : nothing ≡ k = same_rank nothing k e in rw (← i)
  bottom-sound (node l s r) x e = cc

  -- all items fit an empty place
  pub end-sound : (s : Place) (y : ℕ) → is_end s ≡ true → fits c s y ≡ true
  unfolding fits
  end-sound end y e = refl
  end-sound (leaf a r) y e = cc
  end-sound (node l s r) y e = cc
