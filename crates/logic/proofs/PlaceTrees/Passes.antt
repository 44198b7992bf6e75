-- What the passes over a place list.
-- Assumes nothing.
use Prim.Native.Nat.{ℕ}
use lib.Dec.{eqb}
use mathlib.Core.Bool.{Bool, ◌&&◌, cond, false}
use mathlib.Core.Option.{none, some}
use mathlib.Core.Path.{◌∙◌, ◌≡◌, ap₂, refl, sym}
use Rattle.base.proofs.Missing.{some-none}
use Rattle.base.proofs.Tests.{bool_cases, both_ways, eqb-eq, eqb-self, tests}
use Rattle.logic.proofs.PlaceTrees.Lookup.{same_kind, same_name}
use Rattle.logic.proofs.PlaceTrees.Order.{above-find, above-sub}
use Rattle.logic.specs.Background.{Background}
use Rattle.logic.specs.Canonical.{Ascending}
use Rattle.logic.specs.Normal.{before, find, put, put_every, rank, remove, remove_every, remove_lacks, same, sub}
use Rattle.logic.specs.Place.{Kind, Place, atom, lacks}
use Rattle.logic.specs.Tree.{end, leaf, node}

-- ---- an atom put in

-- the atom that was put in
pub find-put-same : (k : Kind) (n m : ℕ) (t : Place) → find k n t ≡ none → find k n (put k n m t) ≡ some m
unfolding find put
find-put-same k n m end e = rw (eqb-self (rank k), eqb-self n)
find-put-same k n m (leaf (atom k' n' m') r) e =
    bool_cases (before (rank k) n (rank k') n')
    (λ q. rw (q, eqb-self (rank k), eqb-self n))
    (λ q. rw q (bool_cases (same k n k' n')
    (λ h. let z : some m' ≡ none = rw h at e in some-none refl z)
    (λ h. rw h (find-put-same k n m r (rw h at e)))))
find-put-same k n m (node l s r) e =
    bool_cases (before (rank k) n 5 l)
    (λ q. rw (q, eqb-self (rank k), eqb-self n))
    (λ q. rw q (find-put-same k n m r e))

-- the others are listed as before
pub find-put-other : (k : Kind) (n m : ℕ) (k' : Kind) (n' : ℕ) (t : Place) → same k' n' k n ≡ false
    → find k' n' (put k n m t) ≡ find k' n' t
unfolding find put
find-put-other k n m k' n' end e = rw e
find-put-other k n m k' n' (leaf (atom k'' n'' m'') r) e =
    bool_cases (before (rank k) n (rank k'') n'')
    (λ q. rw (q, e))
    (λ q. rw (q, find-put-other k n m k' n' r e))
find-put-other k n m k' n' (node l s r) e =
    bool_cases (before (rank k) n 5 l)
    (λ q. rw (q, e))
    (λ q. rw (q, find-put-other k n m k' n' r e))

pub sub-put : (k : Kind) (n m l : ℕ) (t : Place) → sub l (put k n m t) ≡ sub l t
unfolding sub put
sub-put k n m l end = refl
sub-put k n m l (leaf (atom k' n' m') r) =
    bool_cases (before (rank k) n (rank k') n') (λ q. rw q) (λ q. rw (q, sub-put k n m l r))
sub-put k n m l (node l' s r) =
    bool_cases (before (rank k) n 5 l') (λ q. rw q) (λ q. rw (q, sub-put k n m l r))

-- ---- an atom taken out

-- the atom that was taken out, if each stands once
pub find-remove-same : (k : Kind) (n : ℕ) (t : Place) → Ascending t → find k n (remove k n t) ≡ none
unfolding find remove
find-remove-same k n end h = refl
find-remove-same k n (leaf (atom k' n' m) r) h =
    bool_cases (same k n k' n')
    (λ q. rw (q, same_kind k n k' n' q, same_name k n k' n' q) (above-find k' n' r h.0))
    (λ q. rw (q, q) (find-remove-same k n r h.1))
find-remove-same k n (node l s r) h = find-remove-same k n r h.2

-- ---- an 'every' taken out

pub find-remove_every : (k : Kind) (n l : ℕ) (t : Place) → find k n (remove_every l t) ≡ find k n t
unfolding find remove_every
find-remove_every k n l end = refl
find-remove_every k n l (leaf (atom k' n' m) r) = rw (find-remove_every k n l r)
find-remove_every k n l (node l' s r) = bool_cases (eqb l l') (λ q. rw q) (λ q. rw (q, find-remove_every k n l r))

-- the 'every' that was taken out, if each stands once
pub sub-remove_every-same : (l : ℕ) (t : Place) → Ascending t → sub l (remove_every l t) ≡ end
unfolding sub remove_every
sub-remove_every-same l end h = refl
sub-remove_every-same l (leaf (atom k n m) r) h = sub-remove_every-same l r h.1
sub-remove_every-same l (node l' s r) h =
    bool_cases (eqb l l')
    (λ q. let e : l ≡ l' = eqb-eq q in rw (q, e) (above-sub l' r h.0))
    (λ q. rw (q, q) (sub-remove_every-same l r h.2))

-- the others stay
pub sub-remove_every-other : (l l' : ℕ) (t : Place) → eqb l' l ≡ false → sub l' (remove_every l t) ≡ sub l' t
unfolding sub remove_every
sub-remove_every-other l l' end e = refl
sub-remove_every-other l l' (leaf (atom k n m) r) e = sub-remove_every-other l l' r e
sub-remove_every-other l l' (node l'' s r) e =
    bool_cases (eqb l l'')
    (λ q. let z : eqb l' l'' ≡ false = omega tests in rw (q, z))
    (λ q. rw (q, sub-remove_every-other l l' r e))

-- ---- an 'every' put in

pub find-put_every : (k : Kind) (n l : ℕ) (s t : Place) → find k n (put_every l s t) ≡ find k n t
unfolding find put_every
find-put_every k n l s end = refl
find-put_every k n l s (leaf (atom k' n' m) r) =
    bool_cases (before 5 l (rank k') n') (λ q. rw q) (λ q. rw (q, find-put_every k n l s r))
find-put_every k n l s (node l' s' r) =
    bool_cases (before 5 l 5 l') (λ q. rw q) (λ q. rw (q, find-put_every k n l s r))

pub sub-put_every-other : (l : ℕ) (s : Place) (l' : ℕ) (t : Place) → eqb l' l ≡ false → sub l' (put_every l s t) ≡ sub l' t
unfolding sub put_every
sub-put_every-other l s l' end e = rw e
sub-put_every-other l s l' (leaf (atom k n m) r) e =
    bool_cases (before 5 l (rank k) n) (λ q. rw (q, e)) (λ q. rw (q, sub-put_every-other l s l' r e))
sub-put_every-other l s l' (node l'' s'' r) e =
    bool_cases (before 5 l 5 l'') (λ q. rw (q, e)) (λ q. rw (q, sub-put_every-other l s l' r e))

-- the 'every' that was put in, if there was none
pub sub-put_every-same : (l : ℕ) (s t : Place) → Ascending t → sub l t ≡ end → sub l (put_every l s t) ≡ s
unfolding sub put_every
sub-put_every-same l s end h e = rw (eqb-self l)
sub-put_every-same l s (leaf (atom k n m) r) h e =
    bool_cases (before 5 l (rank k) n) (λ q. rw (q, eqb-self l)) (λ q. rw q (sub-put_every-same l s r h.1 e))
sub-put_every-same l s (node l' s' r) h e =
    bool_cases (before 5 l 5 l')
    (λ q. rw (q, eqb-self l))
    (λ q. rw q (bool_cases (eqb l l')
    (λ z. let y : s' ≡ end = rw z at e in both_ways (rw y) h.1)
    (λ z. rw z (sub-put_every-same l s r h.2 (rw z at e)))))

-- ---- implied lacks taken out

-- a kind and name that removing the lacks that p implies takes out
abbrev pub implied_by : Background → ℕ → Kind → ℕ → Bool
implied_by b p k n = eqb (rank lacks) (rank k) && b.excludes p n

-- they are gone, and the others stay
pub find-remove_lacks : (b : Background) (p : ℕ) (k : Kind) (n : ℕ) (t : Place)
    → find k n (remove_lacks b p t) ≡ cond (implied_by b p k n) none (find k n t)
unfolding find remove_lacks
find-remove_lacks b p k n end = bool_cases (implied_by b p k n) (λ z. rw z) (λ z. rw z)
find-remove_lacks b p k n (leaf (atom k' n' m) r) =
    bool_cases (same k n k' n')
    (λ y.
    let i : implied_by b p k' n' ≡ implied_by b p k n
    = ap₂ (λ (a : Kind) (d : ℕ). implied_by b p a d) (sym (same_kind k n k' n' y)) (sym (same_name k n k' n' y)) in
    bool_cases (implied_by b p k n)
    (λ z. rw (i, z) (find-remove_lacks b p k n r ∙ rw z))
    (λ z. rw (i, z, y)))
    (λ y. bool_cases (implied_by b p k' n')
    (λ z. rw (z, y) (find-remove_lacks b p k n r))
    (λ z. rw (z, y) (find-remove_lacks b p k n r)))
find-remove_lacks b p k n (node l s r) = find-remove_lacks b p k n r
