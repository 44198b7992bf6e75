-- Places with entries left out: they ascend as before, and list no more.
-- Assumes nothing.
use Prim.Native.Nat.{ℕ}
use lib.Dec.{eqb}
use mathlib.Core.Bool.{false}
use mathlib.Core.Option.{some}
use mathlib.Core.Path.{◌∙◌, ◌≡◌, refl, sym}
use Rattle.base.proofs.Tests.{bool_cases}
use Rattle.logic.proofs.PlaceTrees.Order.{find-rest, sub-rest}
use Rattle.logic.proofs.PlaceTrees.Passes.{implied_by}
use Rattle.logic.specs.Background.{Background}
use Rattle.logic.specs.Canonical.{Above, Ascending}
use Rattle.logic.specs.Normal.{clear, find, is_end, rank, remove, remove_every, remove_lacks, same, sub}
use Rattle.logic.specs.Place.{Atom, Kind, Place, atom, has, lacks, least, most, nothing}
use Rattle.logic.specs.Tree.{end, leaf, node}

-- u is t with entries left out
pub data Thinner : Place → Place → Type 0 where
  done : Thinner end end
  keep_atom : {k : Kind} {n m : ℕ} {u t : Place} → Thinner u t → Thinner (leaf (atom k n m) u) (leaf (atom k n m) t)
  drop_atom : {k : Kind} {n m : ℕ} {u t : Place} → Thinner u t → Thinner u (leaf (atom k n m) t)
  keep_every : {l : ℕ} {s u t : Place} → Thinner u t → Thinner (node l s u) (node l s t)
  drop_every : {l : ℕ} {s u t : Place} → Thinner u t → Thinner u (node l s t)

-- ---- the passes that leave entries out

thinner-self : (t : Place) → Thinner t t
thinner-self end = done
thinner-self (leaf (atom k n m) r) = keep_atom (thinner-self r)
thinner-self (node l s r) = keep_every (thinner-self r)

pub thinner-remove : (k : Kind) (n : ℕ) (t : Place) → Thinner (remove k n t) t
unfolding remove
thinner-remove k n end = done
thinner-remove k n (leaf (atom k' n' m) r) =
    bool_cases (same k n k' n') (λ q. rw q (drop_atom (thinner-self r))) (λ q. rw q (keep_atom (thinner-remove k n r)))
thinner-remove k n (node l s r) = keep_every (thinner-remove k n r)

pub thinner-remove_every : (l : ℕ) (t : Place) → Thinner (remove_every l t) t
unfolding remove_every
thinner-remove_every l end = done
thinner-remove_every l (leaf (atom k n m) r) = keep_atom (thinner-remove_every l r)
thinner-remove_every l (node l' s r) =
    bool_cases (eqb l l') (λ q. rw q (drop_every (thinner-self r))) (λ q. rw q (keep_every (thinner-remove_every l r)))

thinner-remove_lacks : (b : Background) (p : ℕ) (t : Place) → Thinner (remove_lacks b p t) t
unfolding remove_lacks
thinner-remove_lacks b p end = done
thinner-remove_lacks b p (leaf (atom k n m) r) =
    bool_cases (implied_by b p k n) (λ q. rw q (drop_atom (thinner-remove_lacks b p r))) (λ q. rw q (keep_atom (thinner-remove_lacks b p r)))
thinner-remove_lacks b p (node l s r) = keep_every (thinner-remove_lacks b p r)

-- a place without what an atom makes idle
pub thinner-clear : (b : Background) (a : Atom) (t : Place) → Thinner (clear b a t) t
thinner-clear b (atom has p m) t = thinner-remove_lacks b p t
thinner-clear b (atom lacks p m) t = thinner-self t
thinner-clear b (atom least l m) t = thinner-self t
thinner-clear b (atom most l m) t = bool_cases (eqb m 0) (λ q. rw q (thinner-remove_every l t)) (λ q. rw q (thinner-self t))
thinner-clear b (atom nothing n m) t = thinner-self t

-- ---- order

above-thinner : {u t : Place} (a n : ℕ) → Thinner u t → Above a n t → Above a n u
above-thinner a n done h = tt
above-thinner a n (keep_atom i) h = (h.0, above-thinner a n i h.1)
above-thinner a n (drop_atom i) h = above-thinner a n i h.1
above-thinner a n (keep_every i) h = (h.0, above-thinner a n i h.1)
above-thinner a n (drop_every i) h = above-thinner a n i h.1

pub ascending-thinner : {u t : Place} → Thinner u t → Ascending t → Ascending u
ascending-thinner done h = tt
ascending-thinner (keep_atom {k} {n} i) h = (above-thinner (rank k) n i h.0, ascending-thinner i h.1)
ascending-thinner (drop_atom i) h = ascending-thinner i h.1
ascending-thinner (keep_every {l} i) h = (above-thinner 5 l i h.0, h.1, ascending-thinner i h.2)
ascending-thinner (drop_every i) h = ascending-thinner i h.2

-- ---- look-ups

-- what is listed was listed
pub listed-thinner : {u t : Place} → Thinner u t → Ascending t → (k : Kind) (n m : ℕ) → find k n u ≡ some m → find k n t ≡ some m
unfolding find
listed-thinner done h k n m e = e
listed-thinner (keep_atom {k = k'} {n = n'} i) h k n m e =
    bool_cases (same k n k' n') (λ q. rw q (rw q at e)) (λ q. rw q (listed-thinner i h.1 k n m (rw q at e)))
listed-thinner (drop_atom {k = k'} {n = n'} {m = m'} {t = t} i) h k n m e = find-rest k' n' m' t h.0 k n m (listed-thinner i h.1 k n m e)
listed-thinner (keep_every i) h k n m e = listed-thinner i h.2 k n m e
listed-thinner (drop_every i) h k n m e = listed-thinner i h.2 k n m e

-- what is owned was owned
pub owned-thinner : {u t : Place} → Thinner u t → Ascending t → (l : ℕ) → is_end (sub l u) ≡ false → sub l u ≡ sub l t
unfolding sub
owned-thinner done h l e = refl
owned-thinner (keep_atom i) h l e = owned-thinner i h.1 l e
owned-thinner (drop_atom i) h l e = owned-thinner i h.1 l e
owned-thinner (keep_every {l = l'} i) h l e =
    bool_cases (eqb l l') (λ q. rw q) (λ q. rw q (owned-thinner i h.2 l (rw q at e)))
owned-thinner (drop_every {l = l'} {s = s} {t = t} i) h l e =
    let z = owned-thinner i h.2 l e in z ∙ sym (sub-rest l' s t h.0 l (rw z at e))
