-- Looking up entries of a place.
-- Assumes nothing.
use Prim.Native.Nat.{suc, zero, ℕ}
use lib.Dec.{eqb}
use mathlib.Core.Bool.{◌&&◌, false≢true, true}
use mathlib.Core.Option.{some}
use mathlib.Core.Path.{◌∙◌, ◌≡◌, ap, refl, sym}
use Rattle.base.proofs.Missing.{some-none}
use Rattle.base.proofs.Tests.{and_both, and_left, and_right, bool_cases, eqb-eq, eqb-self, or_cases, or_left, or_right}
use Rattle.logic.specs.Background.{Background}
use Rattle.logic.specs.Normal.{excluded, find, is_end, rank, same, sub}
use Rattle.logic.specs.Place.{Kind, Place, atom, has, lacks, least, most, nothing}
use Rattle.logic.specs.Tree.{end, leaf, node}

-- ---- kinds

unrank : ℕ → Kind
unrank zero = nothing
unrank (suc zero) = has
unrank (suc (suc zero)) = lacks
unrank (suc (suc (suc zero))) = least
unrank (suc (suc (suc (suc zero)))) = most
unrank (suc (suc (suc (suc (suc n))))) = nothing

unrank-rank : (k : Kind) → unrank (rank k) ≡ k
unfolding unrank
unrank-rank has = refl
unrank-rank lacks = refl
unrank-rank least = refl
unrank-rank most = refl
unrank-rank nothing = refl

-- kinds with one number are one
pub same_rank : (k k' : Kind) → eqb (rank k) (rank k') ≡ true → k ≡ k'
same_rank k k' e = sym (unrank-rank k) ∙ ap unrank (eqb-eq e) ∙ unrank-rank k'

-- entries of one kind and name have one kind
pub same_kind : (k : Kind) (n : ℕ) (k' : Kind) (n' : ℕ) → same k n k' n' ≡ true → k ≡ k'
same_kind k n k' n' e = same_rank k k' (and_left (eqb (rank k) (rank k')) (eqb n n') e)

-- and one name
pub same_name : (k : Kind) (n : ℕ) (k' : Kind) (n' : ℕ) → same k n k' n' ≡ true → n ≡ n'
same_name k n k' n' e = eqb-eq (and_right (eqb (rank k) (rank k')) (eqb n n') e)

pub same_self : (k : Kind) (n : ℕ) → same k n k n ≡ true
same_self k n = and_both (eqb-self (rank k)) (eqb-self n)

-- ---- the head of a place

-- the first entry of a place is listed
pub find_head : (k : Kind) (n m : ℕ) (r : Place) → find k n (leaf (atom k n m) r) ≡ some m
unfolding find
find_head k n m r = rw (same_self k n)

pub sub-head : (l : ℕ) (s r : Place) → sub l (node l s r) ≡ s
unfolding sub
sub-head l s r = rw (eqb-self l)

-- a place with no entries is empty
pub is-end : (t : Place) → is_end t ≡ true → t ≡ end
is-end end e = refl
is-end (leaf a r) e = cc
is-end (node l s r) e = cc

-- what the rest lists, the place lists, perhaps with another number
found-rest : (k : Kind) (n m : ℕ) (k' : Kind) (n' m' : ℕ) (r : Place) → find k n r ≡ some m
    → (q : ℕ) × (find k n (leaf (atom k' n' m') r) ≡ some q)
unfolding find
found-rest k n m k' n' m' r e = bool_cases (same k n k' n') (λ z. (m', rw z)) (λ z. (m, rw z e))

-- ---- properties that are listed

module _ (b : Background) (p : ℕ) where
  -- a listed property that excludes p
  pub record Excluder (t : Place) : Type 0 where
    pub name : ℕ
    pub number : ℕ
    pub listed : find has name t ≡ some number
    pub against : b.excludes name p ≡ true

  -- one that is excluded has an excluder
  pub excluder : (t : Place) → excluded b p t ≡ true → Excluder t
  unfolding excluded find
  excluder end e = absurd (false≢true e)
  excluder (leaf (atom k q m) r) e =
      or_cases (eqb (rank has) (rank k) && b.excludes q p) (excluded b p r) e
      (λ z.
      let i : has ≡ k = same_rank has k (and_left (eqb (rank has) (rank k)) (b.excludes q p) z) in
      record { name = q; number = m; listed = rw (← i) (find_head has q m r); against = and_right (eqb (rank has) (rank k)) (b.excludes q p) z })
      (λ z.
      let x = excluder r z in
      let f = found-rest has x.name x.number k q m r x.listed in
      record { name = x.name; number = f.0; listed = f.1; against = x.against })
  excluder (node l s r) e =
      let x = excluder r e in
      record { name = x.name; number = x.number; listed = x.listed; against = x.against }

  -- one that has an excluder is excluded
  pub is-excluded : (t : Place) → Excluder t → excluded b p t ≡ true
  unfolding excluded find
  is-excluded end x = some-none x.listed refl
  is-excluded (leaf (atom k q m) r) x =
      bool_cases (same has x.name k q)
      (λ z.
      let i : eqb (rank has) (rank k) ≡ true = and_left (eqb (rank has) (rank k)) (eqb x.name q) z in
      let j : x.name ≡ q = same_name has x.name k q z in
      or_left (excluded b p r) (and_both i (rw j at x.against)))
      (λ z.
      or_right (eqb (rank has) (rank k) && b.excludes q p)
      (is-excluded r (record { name = x.name; number = x.number; listed = rw z at x.listed; against = x.against })))
  is-excluded (node l s r) x =
      is-excluded r (record { name = x.name; number = x.number; listed = x.listed; against = x.against })
