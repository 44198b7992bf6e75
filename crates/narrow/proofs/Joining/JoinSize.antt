-- Where no properties exclude each other, the joined place has no more entries than both.
-- Assumes nothing.
use Prim.Native.Nat.{◌+◌, ◌≤◌, min, suc, ℕ}
use lib.Dec.{eqb, leb}
use mathlib.Core.Bool.{cond, false, false≢true, not, true}
use mathlib.Core.List.{List}
use mathlib.Core.Option.{Option, none, some}
use mathlib.Core.Path.{◌∙◌, ◌≡◌, ap, refl, sym}
use native.Mathlib.Omega.{arith}
use Rattle.base.proofs.Missing.{opt_cases}
use Rattle.base.proofs.Tests.{and_left, bool_cases, both_ways, eqb-eq, false_of_not, leb-self, or_cases, tests}
use Rattle.logic.proofs.NormalForm.IsNormal.{canonical-sub}
use Rattle.logic.proofs.PlaceTrees.Lookup.{excluder, is-end, same_kind, same_name, same_self, sub-head}
use Rattle.logic.proofs.PlaceTrees.Order.{above-find, above-sub, find-rest, sub-rest}
use Rattle.logic.proofs.PlaceTrees.Passes.{find-remove_every, sub-remove_every-other}
use Rattle.logic.proofs.SpecimenTrees.IncreasingNames.{Increasing}
use Rattle.logic.specs.Background.{Background, LawfulBackground}
use Rattle.logic.specs.Canonical.{Ascending, Canonical, canonical}
use Rattle.logic.specs.Normal.{enough, excluded, find, found, is_end, remove, remove_every, same, sub, supports}
use Rattle.logic.specs.Place.{Kind, Place, atom, has, lacks, least, most, nothing}
use Rattle.logic.specs.Size.{measure, nodes}
use Rattle.logic.specs.Tree.{end, leaf, node}
use Rattle.logic.specs.Witness.{member, or_zero}
use Rattle.narrow.proofs.Joining.JoinEntries.{made-below}
use Rattle.narrow.proofs.Joining.JoinMeans.{below-joined, canonical-joined, enough-joined, find-joined, has-joined, lacks-joined, most-joined}
use Rattle.narrow.specs.Join.{implied, joined_place, larger}

-- ---- entries taken out

find-taken : (k : Kind) (n : ℕ) (k' : Kind) (n' : ℕ) (t : Place) → same k' n' k n ≡ false → find k' n' (remove k n t) ≡ find k' n' t
unfolding find remove
find-taken k n k' n' end e = refl
find-taken k n k' n' (leaf (atom a x m) r) e =
    bool_cases (same k n a x)
    (λ q.
    let i : k ≡ a = same_kind k n a x q in
    let h : n ≡ x = same_name k n a x q in
    let z : same k' n' a x ≡ false = rw (← i, ← h) e in
    rw (q, z))
    (λ q. rw (q, find-taken k n k' n' r e))
find-taken k n k' n' (node l s r) e = find-taken k n k' n' r e

sub-taken : (k : Kind) (n l : ℕ) (t : Place) → sub l (remove k n t) ≡ sub l t
unfolding sub remove
sub-taken k n l end = refl
sub-taken k n l (leaf (atom a x m) r) = bool_cases (same k n a x) (λ q. rw q) (λ q. rw (q, sub-taken k n l r))
sub-taken k n l (node l' s r) = rw (sub-taken k n l r)

taken-size : (k : Kind) (n : ℕ) (t : Place) → found (find k n t) ≡ true → suc (nodes (remove k n t)) ≤ nodes t
unfolding find remove measure
taken-size k n end e = absurd (false≢true e)
taken-size k n (leaf (atom a x m) r) e =
    bool_cases (same k n a x) (λ q. rw q (omega arith)) (λ q. rw q (omega (arith, taken-size k n r (rw q at e))))
taken-size k n (node l s r) e = omega (arith, taken-size k n r e)

-- what an 'every' of link l counts, if there is one
abbrev share : ℕ → Place → ℕ
share l t = cond (is_end (sub l t)) 0 (suc (nodes (sub l t)))

share-size : (l : ℕ) (t : Place) → share l t + nodes (remove_every l t) ≤ nodes t
unfolding sub remove_every measure
share-size l end = omega arith
share-size l (leaf a r) = omega (arith, share-size l r)
share-size l (node l' s r) =
    bool_cases (eqb l l')
    (λ q. rw q (bool_cases (is_end s) (λ z. rw z (omega arith)) (λ z. rw z (omega arith))))
    (λ q. rw q (omega (arith, share-size l r)))

-- a place each of whose entries is one of t's, or stands for one of either's
charge : (j t u : Place) → Ascending j → ((k : Kind) (n : ℕ) → found (find k n j) ≡ true → found (find k n t) ≡ true)
    → ((l : ℕ) → is_end (sub l j) ≡ false → suc (nodes (sub l j)) ≤ share l t + share l u) → nodes j ≤ nodes t + nodes u
unfolding measure
charge end t u a f g = omega arith
charge (leaf (atom k n m) r) t u a f g =
    let here : found (find k n t) ≡ true = f k n (unfold find in rw (same-self k n)) in
    let ih = charge r (remove k n t) u a.1
    (λ k' n' e. bool_cases (same k' n' k n)
    (λ q.
    let z : found (find k n r) ≡ true = rw (same_kind k' n' k n q, same_name k' n' k n q) at e in
    both_ways z (rw (above-find k n r a.0)))
    (λ q. rw (find-taken k n k' n' t q) (f k' n' (listed-rest k' n' e))))
    (λ l e. rw (sub-taken k n l t) (unfold sub in g l e)) in
    omega (arith, ih, taken-size k n t here)
  where
    same-self : (k : Kind) (n : ℕ) → same k n k n ≡ true
    same-self k n = same_self k n

    listed-rest : (k' : Kind) (n' : ℕ) → found (find k' n' r) ≡ true → found (find k' n' (leaf (atom k n m) r)) ≡ true
    listed-rest k' n' e = opt_cases (find k' n' r) (λ z. both_ways e (rw z)) (λ m' z. rw (find-rest k n m r a.0 k' n' m' z))
charge (node l s r) t u a f g =
    let mine : suc (nodes s) ≤ share l t + share l u = rw (sub-head l s r) at (g l (rw (sub-head l s r) a.1)) in
    let ih = charge r (remove_every l t) (remove_every l u) a.2
    (λ k n e. rw (find-remove_every k n l t) (f k n (unfold find in e)))
    (λ l' e. bool_cases (eqb l' l)
    (λ q. let i : l' ≡ l = eqb-eq q in let z : is_end (sub l r) ≡ false = rw i at e in both_ways (rw (above-sub l r a.0)) z)
    (λ q. rw (sub-remove_every-other l l' t q, sub-remove_every-other l l' u q)
    (rw (sub-rest l s r a.0 l' e) at (g l' (rw (sub-rest l s r a.0 l' e) e))))) in
    omega (arith, ih, mine, share-size l t, share-size l u)

-- ---- the joined place

module _ {b : Background} (law : LawfulBackground b) (ps : List ℕ) (inc : Increasing 0 ps)
    (none-excluded : (p q : ℕ) → b.excludes p q ≡ false) where
  all-named : (p q : ℕ) → b.excludes q p ≡ true → member p ps ≡ true
  all-named p q e = both_ways e (none-excluded q p)

  ascending-of : {v : Place} → Canonical b v → Ascending v
  ascending-of (canonical a c d f) = a

  module _ (t u : Place) (ht : Canonical b t) (hu : Canonical b u) where
    abbrev J : Place
    J = joined_place b ps t u

    some-zero : (o : Option ℕ) → 1 ≤ or_zero o → found o ≡ true
    some-zero none h = absurd (omega arith)
    some-zero (some q) h = refl

    both-larger : (x y : Option ℕ) → found (larger x y) ≡ true → found x ≡ true
    both-larger none y e = e
    both-larger (some x) y e = refl

    listed-first : (k : Kind) (n : ℕ) → found (find k n J) ≡ true → found (find k n t) ≡ true
    listed-first has p e = and_left (found (find has p t)) (found (find has p u)) (sym (has-joined law ps inc all-named t u p) ∙ e)
    listed-first lacks p e =
        let x = sym (lacks-joined law ps inc all-named t u p) ∙ e in
        or_cases (found (find lacks p t)) (excluded b p t)
        (and_left (supports b t (atom lacks p 0)) (supports b u (atom lacks p 0)) (and_left _ (not (implied b p t u)) x))
        (λ z. z)
        (λ z. let y = excluder b p t z in both_ways y.against (none-excluded y.name p))
    listed-first least l e = first-least (canonical-joined law ps inc all-named t u ht hu)
      where
        first-least : Canonical b J → found (find least l t) ≡ true
        first-least (canonical a c d f) =
            opt_cases (find least l J)
            (λ z. both_ways e (rw z))
            (λ m z.
            let y : eqb m 0 ≡ false = false_of_not (eqb m 0) (c least l m z).1 in
            let x : enough m (find least l J) ≡ true = rw z (leb-self m) in
            let w : leb m (min (or_zero (find least l t)) (or_zero (find least l u))) ≡ true = sym (enough-joined law ps inc all-named t u m l) ∙ x in
            some-zero (find least l t) (omega tests))
    listed-first most l e = both-larger (find most l t) (find most l u) (sym (ap found (most-joined law ps inc all-named t u l)) ∙ e)
    listed-first nothing n e = both_ways e (rw (find-joined law ps inc all-named t u nothing n))

  -- where no properties exclude each other, the result has no more entries than both together
  pub nodes-joined : (t u : Place) → Canonical b t → Canonical b u → nodes (joined_place b ps t u) ≤ nodes t + nodes u
  nodes-joined t u (canonical a c d f) hu =
      let ht : Canonical b t = canonical a c d f in
      charge (joined_place b ps t u) t u (ascending-of (canonical-joined law ps inc all-named t u ht hu)) (listed-first t u ht hu)
      (λ l e.
      rw (below-joined law ps inc all-named t u ht hu l)
      (made-below law ps (λ l s. suc (nodes s) ≤ share l t + share l u) t u a l
      (λ z. rw z (omega arith))
      (λ z. rw z (omega arith))
      (λ z. rw z (bool_cases (is_end (sub l u))
      (λ y.
      let i : sub l u ≡ end = is-end (sub l u) y in
      let w = nodes-joined (sub l t) (sub l u) (f l z) (canonical-sub law l u hu) in
      let v : nodes (sub l u) ≡ 0 = rw i (unfold measure in refl) in
      rw y (omega (arith, w, v)))
      (λ y. rw y (omega (arith, nodes-joined (sub l t) (sub l u) (f l z) (canonical-sub law l u hu))))))
      (rw (below-joined law ps inc all-named t u ht hu l) at e)))
