-- What is made of the descriptions of a dictionary in turn is made of each by all the values: it names only earlier ones.
-- Assumes nothing.
use Prim.Native.Nat.{◌-◌, ◌≤◌, suc, ℕ}
use lib.Dec.{eqb, leb, ltb}
use mathlib.Core.Bool.{◌&&◌, false, true}
use mathlib.Core.List.{List, [], ◌∷◌}
use mathlib.Core.Path.{◌∙◌, ◌≡◌}
use Rattle.base.proofs.Tests.{and_left, and_right, bool_cases, leb-le, tests}
use Rattle.blocks.specs.Entries.{is_named, name_given}
use Rattle.blocks.specs.declared.Entry.{Entry}
use Rattle.names.proofs.Entries.EachEntry.{EachEntry, each-of-numbers}
use Rattle.names.specs.Promise.{Each, EachAfter, LegalNamed}
use Rattle.names.specs.Unfold.{described, in_turn, noted}

-- ---- names that are given

-- each name is one of the first k
abbrev pub Given : ℕ → List Entry → Type 0
Given k es = EachEntry (λ e. name_given k e ≡ true) es

pub given-name : (k : ℕ) (e : Entry) → name_given k e ≡ true → is_named e ≡ true → e.name ≤ k
unfolding name_given
given-name k e h q =
    let g : (ltb 0 e.name && leb e.name k) ≡ true = rw q at h in
    leb-le (and_right (ltb 0 e.name) (leb e.name k) g)

given-more : (k : ℕ) (e : Entry) → name_given k e ≡ true → name_given (suc k) e ≡ true
unfolding name_given
given-more k e h =
    bool_cases (is_named e)
    (λ q.
    let g : (ltb 0 e.name && leb e.name k) ≡ true = rw q at h in
    let a : ltb 0 e.name ≡ true = and_left (ltb 0 e.name) (leb e.name k) g in
    let b : leb e.name k ≡ true = and_right (ltb 0 e.name) (leb e.name k) g in
    let c : leb e.name (suc k) ≡ true = omega tests in
    rw (q, a, c))
    (λ q. rw q)

pub each-given-more : (k : ℕ) (es : List Entry) → Given k es → Given (suc k) es
each-given-more k [] h = tt
each-given-more k (e ∷ es) h = (given-more k e h.0, each-given-more k es h.1)

-- [D4] names go to earlier descriptions only: the n-th names those before it
given-from : (k : ℕ) (raw : ℕ → List Entry) (K : List (List Entry)) → EachAfter LegalNamed k K → ((n : ℕ) → Given (n - 1) (raw n))
    → (n : ℕ) → Given (n - 1) (in_turn (λ made d. d) raw (suc k) K n)
unfolding in_turn
given-from k raw [] each h = h
given-from k raw (d ∷ K) each h =
    given-from (suc k) (noted raw (suc k) d) K each.1
    (λ n. bool_cases (eqb n (suc k))
    (λ q. let e : n - 1 ≡ k = omega tests in rw (q, e) (each-of-numbers (λ e. name_given k e ≡ true) d each.0.name))
    (λ q. rw q (h n)))

pub described-given : (K : List (List Entry)) → Each LegalNamed K → (n : ℕ) → Given (n - 1) (described K n)
unfolding described
described-given K each = given-from 0 (λ n. []) K each (λ n. tt)

-- ---- by all values

-- f goes by the values of the names that are given
abbrev pub ByGiven : {A : Type 0} → ((ℕ → A) → List Entry → A) → Type 0
ByGiven {A} f = (s t : ℕ → A) (k : ℕ) → ((n : ℕ) → n ≤ k → s n ≡ t n) → (d : List Entry) → Given k d → f s d ≡ f t d

module _ {A : Type 0} (f : (ℕ → A) → List Entry → A) (same : ByGiven f) where
  -- what is made of the first k descriptions: their names are given, and f makes each from all that is made
  record Made (k : ℕ) (raw : ℕ → List Entry) (made : ℕ → A) : Type 0 where
    given : (n : ℕ) → Given k (raw n)
    value : (n : ℕ) → made n ≡ f made (raw n)

  made_more : (k : ℕ) (raw : ℕ → List Entry) (made : ℕ → A) (d : List Entry) → Given k d → Made k raw made
      → Made (suc k) (noted raw (suc k) d) (noted made (suc k) (f made d))
  made_more k raw made d g M =
      let more : ℕ → A = noted made (suc k) (f made d) in
      let agree : (n : ℕ) → n ≤ k → made n ≡ more n = λ n l. let z : eqb n (suc k) ≡ false = omega tests in rw z in
      record {
        given = λ n. bool_cases (eqb n (suc k)) (λ q. rw q (each-given-more k d g)) (λ q. rw q (each-given-more k (raw n) (M.given n)));
        value = λ n. bool_cases (eqb n (suc k))
            (λ q. rw q (same made more k agree d g))
            (λ q. rw q (M.value n ∙ same made more k agree (raw n) (M.given n)));
      }

  made_all : (k : ℕ) (raw : ℕ → List Entry) (made : ℕ → A) (K : List (List Entry)) → EachAfter LegalNamed k K → Made k raw made
      → (n : ℕ) → in_turn f made (suc k) K n ≡ f (in_turn f made (suc k) K) (in_turn (λ made d. d) raw (suc k) K n)
  unfolding in_turn
  made_all k raw made [] each M = M.value
  made_all k raw made (d ∷ K) each M =
      made_all (suc k) (noted raw (suc k) d) (noted made (suc k) (f made d)) K each.1
      (made_more k raw made d (each-of-numbers (λ e. name_given k e ≡ true) d each.0.name) M)

  -- where f makes of no entries what there is before the first description
  pub in-turn-all : (none : A) → none ≡ f (λ n. none) [] → (K : List (List Entry)) → Each LegalNamed K
      → (n : ℕ) → in_turn f (λ n. none) 1 K n ≡ f (in_turn f (λ n. none) 1 K) (described K n)
  unfolding described
  in-turn-all none e K each = made_all 0 (λ n. []) (λ n. none) K each (record { given = λ n. tt; value = λ n. e })
