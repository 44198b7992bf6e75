-- A normal form has no more entries than its description, and no more levels.
-- Assumes nothing.
use Prim.Native.Nat.{◌+◌, ◌≤◌, max, suc, ℕ}
use lib.Dec.{eqb}
use mathlib.Core.Bool.{◌||◌}
use mathlib.Core.Path.{◌≡◌, refl}
use native.Mathlib.Omega.{arith}
use Rattle.base.proofs.Tests.{bool_cases}
use Rattle.logic.proofs.PlaceTrees.Thinner.{Thinner, done, drop_atom, drop_every, keep_atom, keep_every, thinner-clear, thinner-remove}
use Rattle.logic.specs.Background.{Background}
use Rattle.logic.specs.Normal.{add, before, clash, clear, fill, insert, is_bottom, is_end, nf, put, put_every, rank, remove_every, sub, supports, within}
use Rattle.logic.specs.Place.{Atom, Kind, Place, atom, most}
use Rattle.logic.specs.Size.{levels, measure, nodes}
use Rattle.logic.specs.Tree.{end, leaf, node}

-- what adding up and taking the larger have in common
record Joining (join : ℕ → ℕ → ℕ) : Type 0 where
  pub zero_right : (a : ℕ) → join a 0 ≡ a
  pub assoc : (a b c : ℕ) → join a (join b c) ≡ join (join a b) c
  pub swap : (a b c : ℕ) → join a (join b c) ≡ join b (join a c)
  pub mono : (a b c d : ℕ) → a ≤ c → b ≤ d → join a b ≤ join c d
  pub grows : (a b : ℕ) → b ≤ join a b
  -- of what stands below a link, a part that is added there counts once
  pub merge : (a b x y : ℕ) → join (suc a) x ≤ join 1 y → join (suc (join b a)) x ≤ join (suc b) y

joining-sum : Joining (λ m n. m + n)
joining-sum =
    record {
      zero_right = λ a. omega arith;
      assoc = λ a b c. omega arith;
      swap = λ a b c. omega arith;
      mono = λ a b c d h i. omega arith;
      grows = λ a b. omega arith;
      merge = λ a b x y h. omega arith;
    }

joining-max : Joining (λ m n. max m n)
joining-max =
    record {
      zero_right = λ a. omega arith;
      assoc = λ a b c. omega arith;
      swap = λ a b c. omega arith;
      mono = λ a b c d h i. omega arith;
      grows = λ a b. omega arith;
      merge = λ a b x y h. omega arith;
    }

module _ {join : ℕ → ℕ → ℕ} (j : Joining join) where
  abbrev size : Place → ℕ
  size t = measure join t

  -- a place with an entry put in before the rest
  grow : (a : ℕ) {m n : ℕ} → m ≤ n → join a m ≤ join a n
  grow a {m} {n} h = j.mono a m a n (omega arith) h

  -- an atom put in counts 1
  put-size : (k : Kind) (n m : ℕ) (t : Place) → size (put k n m t) ≡ join 1 (size t)
  unfolding measure put
  put-size k n m end = refl
  put-size k n m (leaf (atom k' n' m') r) = bool_cases (before (rank k) n (rank k') n') (λ q. rw q) (λ q. rw (q, put-size k n m r))
  put-size k n m (node l s r) =
      bool_cases (before (rank k) n 5 l) (λ q. rw q) (λ q. rw (q, put-size k n m r) (j.swap (suc (size s)) 1 (size r)))

  -- an 'every' put in counts 1 more than what it owns
  put_every-size : (l : ℕ) (s t : Place) → size (put_every l s t) ≡ join (suc (size s)) (size t)
  unfolding measure put_every
  put_every-size l s end = refl
  put_every-size l s (leaf (atom k n m) r) =
      bool_cases (before 5 l (rank k) n) (λ q. rw q) (λ q. rw (q, put_every-size l s r) (j.swap 1 (suc (size s)) (size r)))
  put_every-size l s (node l' s' r) =
      bool_cases (before 5 l 5 l') (λ q. rw q) (λ q. rw (q, put_every-size l s r) (j.swap (suc (size s')) (suc (size s)) (size r)))

  -- entries left out
  thinner-size : {u t : Place} → Thinner u t → size u ≤ size t
  unfolding measure
  thinner-size done = omega arith
  thinner-size (keep_atom i) = grow 1 (thinner-size i)
  thinner-size (drop_atom {t = t} i) = omega (arith, thinner-size i, j.grows 1 (size t))
  thinner-size (keep_every {s = s} i) = grow (suc (size s)) (thinner-size i)
  thinner-size (drop_every {s = s} {t = t} i) = omega (arith, thinner-size i, j.grows (suc (size s)) (size t))

  -- an 'every' taken out counts once
  split-size : (l : ℕ) (t : Place) → join (suc (size (sub l t))) (size (remove_every l t)) ≤ join 1 (size t)
  unfolding measure sub remove_every
  split-size l end = omega arith
  split-size l (leaf a r) = rw (j.swap (suc (size (sub l r))) 1 (size (remove_every l r))) (grow 1 (split-size l r))
  split-size l (node l' s r) =
      bool_cases (eqb l l')
      (λ q. rw q (j.grows 1 (join (suc (size s)) (size r))))
      (λ q. rw (q, j.swap (suc (size (sub l r))) (suc (size s)) (size (remove_every l r)), j.swap 1 (suc (size s)) (size r))
      (grow (suc (size s)) (split-size l r)))

  -- an atom that is added counts 1 at most
  insert-size : (b : Background) (a : Atom) (t : Place) → size (insert b a t) ≤ join 1 (size t)
  unfolding insert
  insert-size b (atom k n m) t =
      bool_cases (is_bottom t || supports b t (atom k n m))
      (λ q. rw q (j.grows 1 (size t)))
      (λ q. bool_cases (clash b t (atom k n m))
      (λ z. rw (q, z) (unfold measure in grow 1 (omega arith)))
      (λ z. rw (q, z, put-size)
      (grow 1 (omega (arith, thinner-size (thinner-remove k n (clear b (atom k n m) t)), thinner-size (thinner-clear b (atom k n m) t))))))

  -- what is added under a link counts 1 more at most
  within-size : (b : Background) (l : ℕ) (f : Place → Place) (n : ℕ) → ((u : Place) → size (f u) ≤ join n (size u)) → (t : Place)
      → size (within b l f t) ≤ join (suc n) (size t)
  unfolding within fill
  within-size b l f n h t =
      let kept = j.grows (suc n) (size t) in
      let rest : ℕ = size (remove_every l t) in
      bool_cases (is_bottom t || supports b t (atom most l 0))
      (λ q. rw q kept)
      (λ q. bool_cases (is_bottom (f (sub l t)))
      (λ z. rw (q, z) (omega (arith, insert-size b (atom most l 0) t, j.mono 1 (size t) (suc n) (size t) (omega arith) (omega arith))))
      (λ z. bool_cases (is_end (f (sub l t)))
      (λ y. rw (q, z, y) kept)
      (λ y. rw (q, z, y, put_every-size)
      (omega (
        arith,
        j.mono (suc (size (f (sub l t)))) rest (suc (join n (size (sub l t)))) rest (omega (arith, h (sub l t))) (omega arith),
        j.merge (size (sub l t)) n rest (size t) (split-size l t),
      )))))

  -- what is added counts at most what it has
  add-size : (b : Background) (d t : Place) → size (add b d t) ≤ join (size d) (size t)
  unfolding add measure
  add-size b end t = j.grows 0 (size t)
  add-size b (leaf a r) t = rw (← j.assoc 1 (size r) (size t)) (omega (arith, insert-size b a (add b r t), grow 1 (add-size b r t)))
  add-size b (node l s r) t =
      rw (← j.assoc (suc (size s)) (size r) (size t))
      (omega (arith, within-size b l (λ u. add b s u) (size s) (λ u. add-size b s u) (add b r t), grow (suc (size s)) (add-size b r t)))

  nf-size : (b : Background) (d : Place) → size (nf b d) ≤ size d
  unfolding nf measure
  nf-size b d = rw (j.zero_right (size d)) at (add-size b d end)

-- a normal form has no more entries than its description
pub nf-nodes : (b : Background) (d : Place) → nodes (nf b d) ≤ nodes d
nf-nodes b d = nf-size joining-sum b d

-- and is no deeper
pub nf-levels : (b : Background) (d : Place) → levels (nf b d) ≤ levels d
nf-levels b d = nf-size joining-max b d
