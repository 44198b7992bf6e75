-- Looking entries up by owner, kind and name: what a place lists, and the place below a link, by the first entry that matches.
-- Assumes nothing.
use Prim.Native.Nat.{◌+◌, ◌-◌, ◌<◌, ◌≤◌, suc, zero, ℕ}
use lib.Dec.{eqb}
use lib.ListN.{get_or, length}
use mathlib.Core.Bool.{Bool, ◌&&◌, cond, false, true}
use mathlib.Core.List.{List, [], ◌∷◌, map}
use mathlib.Core.Logic.{◌≢◌}
use mathlib.Core.Option.{Option, none, some}
use mathlib.Core.Path.{◌∙◌, ◌≡◌, refl, sym}
use native.Mathlib.Omega.{arith}
use Rattle.base.proofs.Tests.{and_both, and_left, and_right, and_zero, bool_cases, eq-cases, eq-eqb, eqb-eq, ne_eqb, tests}
use Rattle.blocks.proofs.Refusing.Legal.{form-kind, owner-earlier}
use Rattle.blocks.specs.Entries.{form_ok, nth, zero_entry}
use Rattle.blocks.specs.Owners.{owner_of}
use Rattle.blocks.specs.Promise.{Legal}
use Rattle.blocks.specs.declared.Entry.{Entry}
use Rattle.blocks.specs.declared.Schema.TheVariants.{Description}
use Rattle.logic.specs.Normal.{find, rank, sub}
use Rattle.logic.specs.Place.{Kind, has, kind_of, lacks, least, most, nothing}
use Rattle.logic.specs.Tree.{Early, end, tree}
use Rattle.meaning.proofs.Descriptions.Places.{early-rows, tree-skip}
use Rattle.meaning.specs.Description.{place_of, row_of}
use Rattle.meaning.specs.Lookup.{entry_for, first_match}

-- ---- the first entry that matches

-- the entry has that owner, kind and name
abbrev fits : ℕ → ℕ → ℕ → Entry → Bool
fits v k n e = eqb v e.owner && (eqb k e.kind && eqb n e.name)

-- where one is found, it is among the entries
match-range : (i v k n : ℕ) (es : List Entry) {j : ℕ} → first_match i v k n es ≡ j → j ≢ 0 → (i ≤ j) × (j < i + length es)
unfolding first_match
match-range i v k n [] e z = absurd (z (sym e))
match-range i v k n (x ∷ es) {j} e z =
    bool_cases (fits v k n x)
    (λ q. let h : i ≡ j = rw q at e in (omega arith, omega arith))
    (λ q. let r = match-range (suc i) v k n es (rw q at e) z in (omega (arith, r.0), omega (arith, r.1)))

-- and it matches
match-at : (i v k n : ℕ) (es : List Entry) {j : ℕ} → first_match i v k n es ≡ j → j ≢ 0 → fits v k n (get_or es (j - i) zero_entry) ≡ true
unfolding first_match
match-at i v k n [] e z = absurd (z (sym e))
match-at i v k n (x ∷ es) {j} e z =
    bool_cases (fits v k n x)
    (λ q. let h : i ≡ j = rw q at e in let s : j - i ≡ 0 = omega arith in rw s q)
    (λ q.
    let r = match-range (suc i) v k n es (rw q at e) z in
    let s : j - i ≡ suc (j - suc i) = omega (arith, r.0) in
    rw s (match-at (suc i) v k n es (rw q at e) z))

-- the first that matches is found
match-found : (i v k n : ℕ) (es : List Entry) (p : ℕ) → 1 ≤ i → p < length es → fits v k n (get_or es p zero_entry) ≡ true
    → ((m : ℕ) → m < p → fits v k n (get_or es m zero_entry) ≡ false) → first_match i v k n es ≡ i + p
unfolding first_match
match-found i v k n [] p pos l q h = absurd (omega arith)
match-found i v k n (x ∷ es) zero pos l q h = rw q (omega arith)
match-found i v k n (x ∷ es) (suc p) pos l q h =
    rw (h 0 (omega arith)) (match-found (suc i) v k n es p (omega arith) (omega arith) q (λ m b. h (suc m) (omega arith)) ∙ omega arith)

-- none is found where none matches
match_none : (i v k n : ℕ) (es : List Entry) → ((p : ℕ) → p < length es → fits v k n (get_or es p zero_entry) ≡ false) → first_match i v k n es ≡ 0
unfolding first_match
match_none i v k n [] h = refl
match_none i v k n (x ∷ es) h = rw (h 0 (omega arith)) (match_none (suc i) v k n es (λ p l. h (suc p) (omega arith)))

-- ---- by number

nth-at : (es : List Entry) (j : ℕ) → 1 ≤ j → nth es j ≡ get_or es (j - 1) zero_entry
unfolding nth
nth-at es zero l = absurd (omega arith)
nth-at es (suc j) l = let s : suc j - 1 ≡ j = omega arith in rw s

pub match-within : (es : List Entry) (v k n : ℕ) → entry_for es v k n ≤ length es
match-within es v k n =
    eq-cases (entry_for es v k n) 0 (λ z. omega arith) (λ z. let r = match-range 1 v k n es refl z in omega (arith, r.1))

pub match-fields : (es : List Entry) (v k n : ℕ) {j : ℕ} → entry_for es v k n ≡ j → j ≢ 0 → ((nth es j).owner ≡ v) × ((nth es j).kind ≡ k) × ((nth es j).name ≡ n)
match-fields es v k n {j} e z =
    let x : Entry = get_or es (j - 1) zero_entry in
    let q : fits v k n x ≡ true = match-at 1 v k n es e z in
    let a : eqb v x.owner ≡ true = and_left (eqb v x.owner) (eqb k x.kind && eqb n x.name) q in
    let b : (eqb k x.kind && eqb n x.name) ≡ true = and_right (eqb v x.owner) (eqb k x.kind && eqb n x.name) q in
    let r = match-range 1 v k n es e z in
    rw (nth-at es j r.0) (sym (eqb-eq a), sym (eqb-eq (and_left (eqb k x.kind) (eqb n x.name) b)), sym (eqb-eq (and_right (eqb k x.kind) (eqb n x.name) b)))

-- an entry matches if its fields are those
fields_fit : {v k n : ℕ} (x : Entry) → x.owner ≡ v → x.kind ≡ k → x.name ≡ n → fits v k n x ≡ true
fields_fit x a b c = and_both (eq-eqb (sym a)) (and_both (eq-eqb (sym b)) (eq-eqb (sym c)))

fit-fields : (v k n : ℕ) (x : Entry) {A : Type 0} → (x.owner ≡ v → x.kind ≡ k → x.name ≡ n → A) → (fits v k n x ≡ false → A) → A
fit-fields v k n x f g =
    bool_cases (fits v k n x)
    (λ q.
    let b : (eqb k x.kind && eqb n x.name) ≡ true = and_right (eqb v x.owner) (eqb k x.kind && eqb n x.name) q in
    f (sym (eqb-eq (and_left (eqb v x.owner) (eqb k x.kind && eqb n x.name) q))) (sym (eqb-eq (and_left (eqb k x.kind) (eqb n x.name) b)))
    (sym (eqb-eq (and_right (eqb k x.kind) (eqb n x.name) b))))
    g

-- entry j is found by its fields, if no earlier one has them
pub match-first : (es : List Entry) (v k n j : ℕ) → 1 ≤ j → j ≤ length es → (nth es j).owner ≡ v → (nth es j).kind ≡ k → (nth es j).name ≡ n
    → ((i : ℕ) → 1 ≤ i → i < j → (nth es i).owner ≡ v → (nth es i).kind ≡ k → (nth es i).name ≡ n → ⊥) → entry_for es v k n ≡ j
unfolding nth
match-first es v k n zero lo hi a b c h = absurd (omega arith)
match-first es v k n (suc j) lo hi a b c h =
    match-found 1 v k n es j (omega arith) (omega arith) (fields_fit (get_or es j zero_entry) a b c)
    (λ m l. fit-fields v k n (get_or es m zero_entry) (λ x y z. absurd (h (suc m) (omega arith) (omega arith) x y z)) (λ q. q))
    ∙ omega arith

-- none is found where no entry has those fields
pub match-missing : (es : List Entry) (v k n : ℕ)
    → ((i : ℕ) → 1 ≤ i → i ≤ length es → (nth es i).owner ≡ v → (nth es i).kind ≡ k → (nth es i).name ≡ n → ⊥) → entry_for es v k n ≡ 0
unfolding nth
match-missing es v k n h =
    match_none 1 v k n es (λ p l. fit-fields v k n (get_or es p zero_entry) (λ x y z. absurd (h (suc p) (omega arith) (omega arith) x y z)) (λ q. q))

-- ---- what a place lists

-- the number of the first entry that matches
unfoldable number_for : ℕ → ℕ → ℕ → List Entry → Option ℕ
number_for v k n [] = none
number_for v k n (e ∷ es) = cond (fits v k n e) (some e.number) (number_for v k n es)

number-none : (i v k n : ℕ) (es : List Entry) → 1 ≤ i → first_match i v k n es ≡ 0 → number_for v k n es ≡ none
unfolding first_match number_for
number-none i v k n [] pos e = refl
number-none i v k n (x ∷ es) pos e =
    bool_cases (fits v k n x)
    (λ q. let h : i ≡ 0 = rw q at e in absurd (omega arith))
    (λ q. rw q (number-none (suc i) v k n es (omega arith) (rw q at e)))

number-some : (i v k n : ℕ) (es : List Entry) {j : ℕ} → first_match i v k n es ≡ j → j ≢ 0 → number_for v k n es ≡ some (get_or es (j - i) zero_entry).number
unfolding first_match number_for
number-some i v k n [] e z = absurd (z (sym e))
number-some i v k n (x ∷ es) {j} e z =
    bool_cases (fits v k n x)
    (λ q. let h : i ≡ j = rw q at e in let s : j - i ≡ 0 = omega arith in rw (q, s))
    (λ q.
    let r = match-range (suc i) v k n es (rw q at e) z in
    let s : j - i ≡ suc (j - suc i) = omega (arith, r.0) in
    rw (q, s) (number-some (suc i) v k n es (rw q at e) z))

-- the kinds of a description's entries
abbrev Kinds : List Entry → Type 0
Kinds [] = Unit {0}
Kinds (e ∷ es) = (1 ≤ e.kind) × (e.kind ≤ 6) × Kinds es

-- no atom is an 'every'
pub rank-other : (a : Kind) → eqb (rank a) 5 ≡ false
rank-other has = refl
rank-other lacks = refl
rank-other least = refl
rank-other most = refl
rank-other nothing = refl

-- the kind of a kind number has that number
pub rank-kind : (k : ℕ) → 1 ≤ k → k ≤ 6 → k ≢ 5 → rank (kind_of k) ≡ k
unfolding kind_of
rank-kind k lo hi z =
    eq-cases k 1 (λ e. rw e) (λ z₁. eq-cases k 2 (λ e. rw e) (λ z₂. eq-cases k 3 (λ e. rw e) (λ z₃. eq-cases k 4 (λ e. rw e)
    (λ z₄. let e : k ≡ 6 = omega arith in rw e))))

find-number : (i : ℕ) (es : List Entry) (v : ℕ) (a : Kind) (n : ℕ) → Kinds es → find a n (tree i (map row_of es) v) ≡ number_for v (rank a) n es
unfolding find tree row_of number_for
find-number i [] v a n h = refl
find-number i (e ∷ es) v a n h =
    let ih = find-number (suc i) es v a n h.2 in
    eq-cases e.kind 5
    (λ q. rw (eq-eqb q, q, rank-other a) (bool_cases (eqb v e.owner) (λ y. rw (y, ih)) (λ y. rw (y, ih))))
    (λ q. rw (ne_eqb q) (bool_cases (eqb v e.owner) (λ y. rw (y, rank-kind e.kind h.0 h.1 q, ih)) (λ y. rw (y, ih))))

-- ---- the place below a link

-- what the first 'every' of link l owns
sub-list : (i : ℕ) (es : List Entry) (v l : ℕ) → 1 ≤ i → Early i (map row_of es)
    → sub l (tree i (map row_of es) v) ≡ cond (eqb (first_match i v 5 l es) 0) end (tree i (map row_of es) (first_match i v 5 l es))
unfolding sub tree row_of first_match
sub-list i [] v l pos h = refl
sub-list i (e ∷ es) v l pos h =
    let ih = sub-list (suc i) es v l (omega arith) h.1 in
    let later : (j : ℕ) → first_match (suc i) v 5 l es ≡ j
    → cond (eqb j 0) end (tree (suc i) (map row_of es) j) ≡ cond (eqb j 0) end (tree i (row_of e ∷ map row_of es) j)
    = λ j f. eq-cases j 0 (λ z. rw (eq-eqb z)) (λ z. rw (ne_eqb z) (tree-skip (row_of e) i (map row_of es) j h.0 (let r = match-range (suc i) v 5 l es f z in omega (arith, r.0)))) in
    let past : sub l (tree (suc i) (map row_of es) v) ≡ cond (eqb (first_match (suc i) v 5 l es) 0) end (tree i (row_of e ∷ map row_of es) (first_match (suc i) v 5 l es))
    = ih ∙ later (first_match (suc i) v 5 l es) refl in
    let z : eqb i 0 ≡ false = omega tests in
    let own : tree (suc i) (map row_of es) i ≡ tree i (row_of e ∷ map row_of es) i = tree-skip (row_of e) i (map row_of es) i h.0 (omega arith) in
    eq-cases e.kind 5
    (λ q.
    let f : eqb e.kind 5 ≡ true = eq-eqb q in
    bool_cases (eqb v e.owner)
    (λ y. bool_cases (eqb l e.name) (λ x. rw (f, y, q, x, z) (rw f at own)) (λ x. rw (f, y, q, x) (rw f at past)))
    (λ y. rw (f, y) (rw f at past)))
    (λ q.
    let f : eqb e.kind 5 ≡ false = ne_eqb q in
    let k : eqb 5 e.kind ≡ false = ne_eqb (λ y. q (sym y)) in
    rw (f, k, and_zero (eqb v e.owner)) (bool_cases (eqb v e.owner) (λ y. rw y (rw f at past)) (λ y. rw y (rw f at past))))

-- a number that no entry has as its owner owns nothing
pub tree-none : (i : ℕ) (es : List Entry) (v : ℕ) → ((p : ℕ) → p < length es → (get_or es p zero_entry).owner ≢ v) → tree i (map row_of es) v ≡ end
unfolding tree row_of
tree-none i [] v h = refl
tree-none i (e ∷ es) v h =
    let z : eqb v e.owner ≡ false = ne_eqb (λ y. h 0 (omega arith) (sym y)) in
    let ih = tree-none (suc i) es v (λ p l. h (suc p) (omega arith)) in
    bool_cases (eqb e.kind 5) (λ q. rw (q, z, ih)) (λ q. rw (q, z, ih))

-- ---- a description

kinds-of : (es : List Entry) → ((p : ℕ) → p < length es → form_ok Description (get_or es p zero_entry) ≡ true) → Kinds es
kinds-of [] h = tt
kinds-of (e ∷ es) h = let k = form-kind e (h 0 (omega arith)) in (k.0, k.1, kinds-of es (λ p l. h (suc p) (omega arith)))

module _ (es : List Entry) (legal : Legal Description es) where
  pub kind-range : (n : ℕ) → 1 ≤ n → n ≤ length es → (1 ≤ (nth es n).kind) × ((nth es n).kind ≤ 6)
  kind-range n lo hi = form-kind (nth es n) (legal.form n lo hi)

  kinds : Kinds es
  unfolding nth
  kinds = kinds-of es (λ p l. legal.form (suc p) (omega arith) (omega arith))

  early : Early 1 (map row_of es)
  early = early-rows 1 es (λ i l. let z = owner-earlier legal (suc i) (omega arith) (omega arith) in unfold owner_of nth in omega arith)

  -- a kind and name that no entry of the place has is not listed
  pub find_none : (v : ℕ) (a : Kind) (n : ℕ) → entry_for es v (rank a) n ≡ 0 → find a n (place_of es v) ≡ none
  unfolding place_of
  find_none v a n e = find-number 1 es v a n kinds ∙ number-none 1 v (rank a) n es (omega arith) e

  -- the first entry that has them is
  pub find-some : (v : ℕ) (a : Kind) (n : ℕ) {j : ℕ} → entry_for es v (rank a) n ≡ j → j ≢ 0 → find a n (place_of es v) ≡ some (nth es j).number
  unfolding place_of
  find-some v a n {j} e z =
      let r = match-range 1 v (rank a) n es e z in
      find-number 1 es v a n kinds ∙ number-some 1 v (rank a) n es e z ∙ rw (nth-at es j r.0)

  -- a link without an 'every' leads to nothing
  pub sub-none : (v l : ℕ) → entry_for es v 5 l ≡ 0 → sub l (place_of es v) ≡ end
  unfolding place_of
  sub-none v l e = sub-list 1 es v l (omega arith) early ∙ rw (eq-eqb e)

  -- a link with one leads to what its first owns
  pub sub-some : (v l : ℕ) {j : ℕ} → entry_for es v 5 l ≡ j → j ≢ 0 → sub l (place_of es v) ≡ place_of es j
  unfolding place_of
  sub-some v l e z = sub-list 1 es v l (omega arith) early ∙ rw (e, ne_eqb z)

  -- a number past the last entry owns nothing
  pub place_end : (v : ℕ) → length es < v → place_of es v ≡ end
  unfolding place_of
  place_end v l =
      tree-none 1 es v (λ p b q. let o = owner-earlier legal (suc p) (omega arith) (omega arith) in let o' : (get_or es p zero_entry).owner < suc p = (unfold owner_of nth in o) in omega arith)
