-- The passes over a place keep its entries ascending.
-- Assumes nothing.
use Prim.Native.Nat.{ℕ}
use lib.Dec.{eqb}
use mathlib.Core.Bool.{false, true}
use mathlib.Core.Option.{none, some}
use mathlib.Core.Path.{◌≡◌, refl}
use Rattle.base.proofs.Missing.{some-none}
use Rattle.base.proofs.Tests.{bool_cases, both_ways}
use Rattle.logic.proofs.PlaceTrees.Order.{above-trans, before-total, five-rank, rank-five}
use Rattle.logic.specs.Canonical.{Above, Ascending}
use Rattle.logic.specs.Normal.{before, find, is_end, put, put_every, rank, same, sub}
use Rattle.logic.specs.Place.{Kind, Place, atom}
use Rattle.logic.specs.Tree.{end, leaf, node}

-- ---- after a given kind and name

-- an atom put in stands after what it and the others stand after
above-put : (a b : ℕ) (k : Kind) (n m : ℕ) (t : Place) → before a b (rank k) n ≡ true → Above a b t → Above a b (put k n m t)
unfolding put
above-put a b k n m end e h = (e, tt)
above-put a b k n m (leaf (atom k' n' m') r) e h =
    bool_cases (before (rank k) n (rank k') n') (λ q. rw q (e, h)) (λ q. rw q (h.0, above-put a b k n m r e h.1))
above-put a b k n m (node l s r) e h =
    bool_cases (before (rank k) n 5 l) (λ q. rw q (e, h)) (λ q. rw q (h.0, above-put a b k n m r e h.1))

above-put_every : (a b l : ℕ) (s t : Place) → before a b 5 l ≡ true → Above a b t → Above a b (put_every l s t)
unfolding put_every
above-put_every a b l s end e h = (e, tt)
above-put_every a b l s (leaf (atom k n m) r) e h =
    bool_cases (before 5 l (rank k) n) (λ q. rw q (e, h)) (λ q. rw q (h.0, above-put_every a b l s r e h.1))
above-put_every a b l s (node l' s' r) e h =
    bool_cases (before 5 l 5 l') (λ q. rw q (e, h)) (λ q. rw q (h.0, above-put_every a b l s r e h.1))

-- ---- ascending

-- an atom of a kind and name that is not listed may be put in
pub ascending-put : (k : Kind) (n m : ℕ) (t : Place) → Ascending t → find k n t ≡ none → Ascending (put k n m t)
unfolding put find
ascending-put k n m end h e = (tt, tt)
ascending-put k n m (leaf (atom k' n' m') r) h e =
    bool_cases (before (rank k) n (rank k') n')
    (λ q. rw q ((q, above-trans (rank k) n (rank k') n' r q h.0), h))
    (λ q. rw q (bool_cases (same k n k' n')
    (λ z. let y : some m' ≡ none = rw z at e in some-none refl y)
    (λ z. (above-put (rank k') n' k n m r (before-total (rank k) n (rank k') n' q z) h.0, ascending-put k n m r h.1 (rw z at e)))))
ascending-put k n m (node l s r) h e =
    bool_cases (before (rank k) n 5 l)
    (λ q. rw q ((q, above-trans (rank k) n 5 l r q h.0), h))
    (λ q. rw q (above-put 5 l k n m r (before-total (rank k) n 5 l q (rank-five k n l)) h.0, h.1, ascending-put k n m r h.2 e))

-- an 'every' of a link that has none may be put in, if it owns something
pub ascending-put_every : (l : ℕ) (s t : Place) → Ascending t → sub l t ≡ end → is_end s ≡ false → Ascending (put_every l s t)
unfolding put_every sub
ascending-put_every l s end h e i = (tt, i, tt)
ascending-put_every l s (leaf (atom k n m) r) h e i =
    bool_cases (before 5 l (rank k) n)
    (λ q. rw q ((q, above-trans 5 l (rank k) n r q h.0), i, h))
    (λ q. rw q (above-put_every (rank k) n l s r (before-total 5 l (rank k) n q (five-rank k n l)) h.0, ascending-put_every l s r h.1 e i))
ascending-put_every l s (node l' s' r) h e i =
    bool_cases (before 5 l 5 l')
    (λ q. rw q ((q, above-trans 5 l 5 l' r q h.0), i, h))
    (λ q. rw q (bool_cases (eqb l l')
    (λ z. let y : s' ≡ end = rw z at e in both_ways (rw y) h.1)
    (λ z. (above-put_every 5 l' l s r (before-total 5 l 5 l' q z) h.0, h.1, ascending-put_every l s r h.2 (rw z at e) i))))
