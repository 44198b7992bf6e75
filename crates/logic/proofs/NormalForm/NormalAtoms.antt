-- What a normal form lists, atom by atom: what holds of each atom of the description as it is stored, and of the one that nothing fits,
-- holds of each atom of its normal form.
-- Assumes nothing.
use Prim.Native.Nat.{ℕ}
use lib.Dec.{eqb}
use mathlib.Core.Bool.{◌||◌, false}
use mathlib.Core.Path.{◌≡◌}
use Rattle.base.proofs.Tests.{bool_cases}
use Rattle.logic.proofs.PlaceTrees.Thinner.{Thinner, done, drop_atom, drop_every, keep_atom, keep_every, thinner-clear, thinner-remove, thinner-remove_every}
use Rattle.logic.proofs.TreeRows.AllEntries.{AllEntries}
use Rattle.logic.specs.Background.{Background}
use Rattle.logic.specs.Normal.{add, before, clash, clear, fill, insert, is_bottom, is_end, nf, put, put_every, rank, remove, remove_every, stored, sub, supports, within}
use Rattle.logic.specs.Place.{Atom, Kind, Place, atom, most, nothing}
use Rattle.logic.specs.Tree.{end, leaf, node}

module _ (P : Atom → Type 0) (Q : ℕ → Type 0) where
  abbrev All : Place → Type 0
  All t = AllEntries P Q t

  -- ---- the passes

  thinner-all : {u t : Place} → Thinner u t → All t → All u
  thinner-all done h = tt
  thinner-all (keep_atom i) h = (h.0, thinner-all i h.1)
  thinner-all (drop_atom i) h = thinner-all i h.1
  thinner-all (keep_every i) h = (h.0, h.1, thinner-all i h.2)
  thinner-all (drop_every i) h = thinner-all i h.2

  put_all : (k : Kind) (n m : ℕ) (t : Place) → P (atom k n m) → All t → All (put k n m t)
  unfolding put
  put_all k n m end a h = (a, tt)
  put_all k n m (leaf (atom k' n' m') r) a h =
      bool_cases (before (rank k) n (rank k') n') (λ q. rw q (a, h)) (λ q. rw q (h.0, put_all k n m r a h.1))
  put_all k n m (node l s r) a h =
      bool_cases (before (rank k) n 5 l) (λ q. rw q (a, h)) (λ q. rw q (h.0, h.1, put_all k n m r a h.2))

  put_every-all : (l : ℕ) (s t : Place) → Q l → All s → All t → All (put_every l s t)
  unfolding put_every
  put_every-all l s end a e h = (a, e, tt)
  put_every-all l s (leaf (atom k n m) r) a e h =
      bool_cases (before 5 l (rank k) n) (λ q. rw q (a, e, h)) (λ q. rw q (h.0, put_every-all l s r a e h.1))
  put_every-all l s (node l' s' r) a e h =
      bool_cases (before 5 l 5 l') (λ q. rw q (a, e, h)) (λ q. rw q (h.0, h.1, put_every-all l s r a e h.2))

  sub-all : (l : ℕ) (t : Place) → All t → All (sub l t)
  unfolding sub
  sub-all l end h = tt
  sub-all l (leaf a r) h = sub-all l r h.1
  sub-all l (node l' s r) h = bool_cases (eqb l l') (λ q. rw q h.1) (λ q. rw q (sub-all l r h.2))

  -- ---- adding

  -- S of the description's atoms gives P of what is stored of those that the place does not rule out
  module _ (b : Background) (S : Atom → Type 0) (bottom-holds : P (atom nothing 0 0)) (zero-holds : (l : ℕ) → Q l → S (atom most l 0))
      (store : (t : Place) (k : Kind) (n m : ℕ) → S (atom k n m) → clash b t (atom k n m) ≡ false → P (atom k n (stored k m))) where
    insert_all : (a : Atom) (t : Place) → S a → All t → All (insert b a t)
    unfolding insert
    insert_all (atom k n m) t a h =
        bool_cases (is_bottom t || supports b t (atom k n m))
        (λ q. rw q h)
        (λ q. bool_cases (clash b t (atom k n m))
        (λ z. rw (q, z) (bottom-holds, tt))
        (λ z. rw (q, z)
        (put_all k n (stored k m) (remove k n (clear b (atom k n m) t)) (store t k n m a z)
        (thinner-all (thinner-remove k n (clear b (atom k n m) t)) (thinner-all (thinner-clear b (atom k n m) t) h)))))

    within_all : (l : ℕ) (f : Place → Place) → ((u : Place) → All u → All (f u)) → (t : Place) → Q l → All t → All (within b l f t)
    unfolding within fill
    within_all l f g t a h =
        let below : All (f (sub l t)) = g (sub l t) (sub-all l t h) in
        bool_cases (is_bottom t || supports b t (atom most l 0))
        (λ q. rw q h)
        (λ q. bool_cases (is_bottom (f (sub l t)))
        (λ z. rw (q, z) (insert_all (atom most l 0) t (zero-holds l a) h))
        (λ z. bool_cases (is_end (f (sub l t)))
        (λ y. rw (q, z, y) h)
        (λ y. rw (q, z, y) (put_every-all l (f (sub l t)) (remove_every l t) a below (thinner-all (thinner-remove_every l t) h)))))

    add-all : (d t : Place) → AllEntries S Q d → All t → All (add b d t)
    unfolding add
    add-all end t e h = h
    add-all (leaf a r) t e h = insert_all a (add b r t) e.0 (add-all r t e.1 h)
    add-all (node l s r) t e h = within_all l (λ u. add b s u) (λ u i. add-all s u e.1 i) (add b r t) e.0 (add-all r t e.2 h)

    -- the atoms of a normal form
    pub nf-all : (d : Place) → AllEntries S Q d → All (nf b d)
    unfolding nf
    nf-all d e = add-all d end e tt
