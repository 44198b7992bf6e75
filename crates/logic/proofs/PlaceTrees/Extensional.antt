-- A place whose entries ascend is what it lists.
-- Assumes nothing.
use Prim.Native.Nat.{ℕ}
use lib.Dec.{eqb}
use mathlib.Core.Bool.{false, true}
use mathlib.Core.Option.{some}
use mathlib.Core.Path.{◌∙◌, ◌≡◌, ap, ap₂, refl, sym}
use Rattle.base.proofs.Missing.{some-none}
use Rattle.base.proofs.Tests.{bool_cases, both_ways, eqb-eq}
use Rattle.logic.proofs.PlaceTrees.Lookup.{find_head, same_kind, same_name, sub-head}
use Rattle.logic.proofs.PlaceTrees.Order.{above-find, above-sub, above-trans, before-total, five-rank, rank-five}
use Rattle.logic.specs.Canonical.{Above, Ascending}
use Rattle.logic.specs.Normal.{before, find, is_end, rank, same, sub}
use Rattle.logic.specs.Place.{Kind, Place, atom}
use Rattle.logic.specs.Tree.{end, leaf, node}

-- a place that owns something is not empty
not_end : {A : Type 0} {s : Place} → s ≡ end → is_end s ≡ false → A
not_end e h = both_ways (rw e) h

-- places with one first atom list the same in the rest
tail-find : (k : Kind) (n m m' : ℕ) (r r' : Place) → Above (rank k) n r → Above (rank k) n r'
    → ((k' : Kind) (n' : ℕ) → find k' n' (leaf (atom k n m) r) ≡ find k' n' (leaf (atom k n m') r')) → (k' : Kind) (n' : ℕ) → find k' n' r ≡ find k' n' r'
unfolding find
tail-find k n m m' r r' a a' f k' n' =
    bool_cases (same k' n' k n)
    (λ q. rw (same_kind k' n' k n q, same_name k' n' k n q) (above-find k n r a ∙ sym (above-find k n r' a')))
    (λ q. rw q at (f k' n'))

-- places with one first link own the same in the rest
tail-sub : (l : ℕ) (s s' r r' : Place) → Above 5 l r → Above 5 l r' → ((l' : ℕ) → sub l' (node l s r) ≡ sub l' (node l s' r'))
    → (l' : ℕ) → sub l' r ≡ sub l' r'
unfolding sub
tail-sub l s s' r r' a a' f l' =
    bool_cases (eqb l' l)
    (λ q. let i : l' ≡ l = eqb-eq q in rw i (above-sub l r a ∙ sym (above-sub l r' a')))
    (λ q. rw q at (f l'))

-- a place whose entries ascend is what it lists
pub extensional : (t u : Place) → Ascending t → Ascending u → ((k : Kind) (n : ℕ) → find k n t ≡ find k n u)
    → ((l : ℕ) → sub l t ≡ sub l u) → t ≡ u
extensional end end a b f g = refl
extensional end (leaf (atom k n m) r) a b f g = some-none (find_head k n m r) (sym (f k n) ∙ (unfold find in refl))
extensional end (node l s r) a b f g = not_end (sym (sub-head l s r) ∙ sym (g l) ∙ (unfold sub in refl)) b.1
extensional (leaf (atom k n m) r) end a b f g = some-none (find_head k n m r) (f k n ∙ (unfold find in refl))
extensional (leaf (atom k n m) r) (leaf (atom k' n' m') r') a b f g =
    bool_cases (before (rank k) n (rank k') n')
    (λ q. some-none (find_head k n m r) (f k n ∙ above-find k n (leaf (atom k' n' m') r') (q, above-trans (rank k) n (rank k') n' r' q b.0)))
    (λ q. bool_cases (same k n k' n')
    (λ z.
    let ik : k ≡ k' = same_kind k n k' n' z in
    let in' : n ≡ n' = same_name k n k' n' z in
    let em : some m ≡ some m' = sym (find_head k n m r) ∙ f k n ∙ rw (ik, in') (find_head k' n' m' r') in
    let b0 : Above (rank k) n r' = rw (ik, in') b.0 in
    let er : r ≡ r' = extensional r r' a.1 b.1
    (tail-find k n m m' r r' a.0 b0 (λ k'' n''. f k'' n'' ∙ ap₂ (λ (x : Kind) (y : ℕ). find k'' n'' (leaf (atom x y m') r')) (sym ik) (sym in')))
    (unfold sub in (λ l. g l)) in
    cc)
    (λ z. some-none (find_head k' n' m' r') (sym (f k' n') ∙ above-find k' n' (leaf (atom k n m) r)
    (before-total (rank k) n (rank k') n' q z, above-trans (rank k') n' (rank k) n r (before-total (rank k) n (rank k') n' q z) a.0))))
extensional (leaf (atom k n m) r) (node l s r') a b f g =
    bool_cases (before (rank k) n 5 l)
    (λ q. some-none (find_head k n m r) (f k n ∙ above-find k n (node l s r') (q, above-trans (rank k) n 5 l r' q b.0)))
    (λ q.
    let z : before 5 l (rank k) n ≡ true = before-total (rank k) n 5 l q (rank-five k n l) in
    not_end (sym (sub-head l s r') ∙ sym (g l) ∙ above-sub l (leaf (atom k n m) r) (z, above-trans 5 l (rank k) n r z a.0)) b.1)
extensional (node l s r) end a b f g = not_end (sym (sub-head l s r) ∙ g l ∙ (unfold sub in refl)) a.1
extensional (node l s r) (leaf (atom k n m) r') a b f g =
    bool_cases (before 5 l (rank k) n)
    (λ q. not_end (sym (sub-head l s r) ∙ g l ∙ above-sub l (leaf (atom k n m) r') (q, above-trans 5 l (rank k) n r' q b.0)) a.1)
    (λ q.
    let z : before (rank k) n 5 l ≡ true = before-total 5 l (rank k) n q (five-rank k n l) in
    some-none (find_head k n m r') (sym (f k n) ∙ above-find k n (node l s r) (z, above-trans (rank k) n 5 l r z a.0)))
extensional (node l s r) (node l' s' r') a b f g =
    bool_cases (before 5 l 5 l')
    (λ q. not_end (sym (sub-head l s r) ∙ g l ∙ above-sub l (node l' s' r') (q, above-trans 5 l 5 l' r' q b.0)) a.1)
    (λ q. bool_cases (eqb l l')
    (λ z.
    let il : l ≡ l' = eqb-eq z in
    let es : s ≡ s' = sym (sub-head l s r) ∙ g l ∙ rw il (sub-head l' s' r') in
    let b0 : Above 5 l r' = rw il b.0 in
    let er : r ≡ r' = extensional r r' a.2 b.2 (unfold find in (λ k n. f k n))
    (tail-sub l s s' r r' a.0 b0 (λ l''. g l'' ∙ ap (λ (x : ℕ). sub l'' (node x s' r')) (sym il))) in
    cc)
    (λ z.
    let y : before 5 l' 5 l ≡ true = before-total 5 l 5 l' q z in
    not_end (sym (sub-head l' s' r') ∙ sym (g l') ∙ above-sub l' (node l s r) (y, above-trans 5 l' 5 l r y a.0)) b.1))
