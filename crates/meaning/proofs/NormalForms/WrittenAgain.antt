-- A legal list of entries that ascends is the breadth-first layout of its own tree: what is written from the tree are its rows. So where
-- no rule applies to it, the entries of its normal form are its own.
-- Assumes nothing.
use Prim.Native.Nat.{◌+◌, ◌<◌, ◌≤◌, suc, zero, ℕ}
use lib.Dec.{eqb, ltb}
use lib.ListN.{get_or, length}
use mathlib.Core.Bool.{◌&&◌, false, true}
use mathlib.Core.List.{List, [], ◌++◌, ◌∷◌, map}
use mathlib.Core.Logic.{◌⊎◌, inl, inr}
use mathlib.Core.Path.{◌∙◌, ◌≡◌, ap, refl, sym}
use native.Mathlib.Omega.{arith}
use Rattle.base.proofs.Tests.{and_left, bool_cases, eq-cases, eq-eqb, eqb-eq, ne_eqb, or_cases, tests}
use Rattle.base.specs.Ascending.{AllAfter, Sorted}
use Rattle.blocks.proofs.Refusing.Legal.{form-kind, owner-earlier, owner-kind}
use Rattle.blocks.specs.Entries.{form_ok, nth, number_ok, zero_entry}
use Rattle.blocks.specs.Owners.{owner_of}
use Rattle.blocks.specs.Promise.{Legal}
use Rattle.blocks.specs.declared.Entry.{Entry}
use Rattle.blocks.specs.declared.Schema.TheVariants.{Description}
use Rattle.logic.proofs.TreeRows.LayoutLaws.{load, load-later, weight-pos}
use Rattle.logic.specs.Background.{Background, LawfulBackground}
use Rattle.logic.specs.Layout.{Queue, done, job, later, lay, weight, write}
use Rattle.logic.specs.Normal.{before}
use Rattle.logic.specs.Place.{Place}
use Rattle.logic.specs.Tree.{Row, Tree, end, leaf_row, node_row, row_owner, tree}
use Rattle.meaning.proofs.Descriptions.Lookups.{rank-kind}
use Rattle.meaning.proofs.NormalForms.Irreducible.{irreducible-fixed, itself, no_number, no-reserved, number_ok_lem}
use Rattle.meaning.specs.Description.{place_of, row_of}
use Rattle.meaning.specs.NormalEntries.{normal_entries}
use Rattle.meaning.specs.RowEntries.{entry_before, row_entry}
use Rattle.meaning.specs.Rules.{Applies}

-- x is one of the numbers
abbrev Among : ℕ → List ℕ → Type 0
Among x [] = ⊥
Among x (o ∷ os) = (x ≡ o) ⊎ Among x os

among-last : (k : ℕ) (os : List ℕ) → Among k (os ++ (k ∷ []))
among-last k [] = inl refl
among-last k (o ∷ os) = inr (among-last k os)

among-more : (x k : ℕ) (os : List ℕ) → Among x os → Among x (os ++ (k ∷ []))
among-more x k [] h = absurd h
among-more x k (o ∷ os) (inl e) = inl e
among-more x k (o ∷ os) (inr h) = inr (among-more x k os h)

-- the owners that wait ascend from `lo` on and stand before number k
abbrev Waiting : ℕ → ℕ → List ℕ → Type 0
Waiting k lo [] = Unit {0}
Waiting k lo (o ∷ os) = (lo ≤ o) × (o < k) × Waiting k (suc o) os

waiting-more : (k lo : ℕ) (os : List ℕ) → Waiting k lo os → Waiting (suc k) lo os
waiting-more k lo [] h = tt
waiting-more k lo (o ∷ os) h = (h.0, omega (arith, h.1), waiting-more k (suc o) os h.2)

waiting-last : (k lo : ℕ) (os : List ℕ) → lo ≤ k → Waiting k lo os → Waiting (suc k) lo (os ++ (k ∷ []))
waiting-last k lo [] i h = (i, omega arith, tt)
waiting-last k lo (o ∷ os) i h = (h.0, omega (arith, h.1), waiting-last k (suc o) os (omega (arith, h.1)) h.2)

-- one that stands after the first is among the others
among-skip : (x o : ℕ) (os : List ℕ) → o < x → Among x (o ∷ os) → Among x os
among-skip x o os i (inl e) = absurd (omega arith)
among-skip x o os i (inr h) = h

waiting-over : (x o lo k : ℕ) (os : List ℕ) → o < lo → Waiting k lo os → Among x os → o < x
waiting-over x o lo k [] i h m = absurd m
waiting-over x o lo k (p ∷ os) i h (inl e) = omega (arith, h.0)
waiting-over x o lo k (p ∷ os) i h (inr m) = waiting-over x o (suc p) k os (omega (arith, h.0)) h.2 m

-- one that waits and is not the first stands after it
first_under : (x o k : ℕ) (os : List ℕ) → Waiting k (suc o) os → Among x (o ∷ os) → eqb o x ≡ false → o < x
first_under x o k os h (inl e) z = absurd (omega tests)
first_under x o k os h (inr m) z = waiting-over x o (suc o) k os (omega arith) h m

-- ---- rows

module _ {A B : Type 0} where
  -- the owners that wait, each with what it owns
  unfoldable jobs : (ℕ → Tree A B) → List ℕ → Queue (Tree A B)
  jobs g [] = done
  jobs g (o ∷ os) = job o (g o) (jobs g os)

  jobs-later : (g : ℕ → Tree A B) (k : ℕ) (os : List ℕ) → jobs g (os ++ (k ∷ [])) ≡ later (jobs g os) k (g k)
  unfolding jobs later
  jobs-later g k [] = refl
  jobs-later g k (o ∷ os) = rw (jobs-later g k os)

  -- the owners of the rows ascend from `lo` on
  abbrev From : ℕ → List (Row A B) → Type 0
  From lo [] = Unit {0}
  From lo (r ∷ rs) = (lo ≤ row_owner r) × From (row_owner r) rs

  -- after a row that may own others its number waits too
  abbrev grown : Row A B → ℕ → List ℕ → List ℕ
  grown (leaf_row o a) k os = os
  grown (node_row o b) k os = os ++ (k ∷ [])

  -- each row's owner waits
  abbrev Owned : ℕ → List ℕ → List (Row A B) → Type 0
  Owned k os [] = Unit {0}
  Owned k os (r ∷ rs) = Among (row_owner r) os × Owned (suc k) (grown r k os) rs

  -- the first that waits owns nothing more
  owned-skip : (k o lo : ℕ) (os : List ℕ) (rs : List (Row A B)) → o < lo → From lo rs → Owned k (o ∷ os) rs → Owned k os rs
  owned-skip k o lo os [] i a h = tt
  owned-skip k o lo os (leaf_row o' x ∷ rs) i a h =
      let j : lo ≤ o' = a.0 in
      (among-skip o' o os (omega arith) h.0, owned-skip (suc k) o o' os rs (omega arith) a.1 h.1)
  owned-skip k o lo os (node_row o' x ∷ rs) i a h =
      let j : lo ≤ o' = a.0 in
      (among-skip o' o os (omega arith) h.0, owned-skip (suc k) o o' (os ++ (k ∷ [])) rs (omega arith) a.1 h.1)

  tree-skip : (k o lo : ℕ) (rs : List (Row A B)) → o < lo → From lo rs → tree k rs o ≡ end
  unfolding tree
  tree-skip k o lo [] i a = refl
  tree-skip k o lo (leaf_row o' x ∷ rs) i a =
      let j : lo ≤ o' = a.0 in
      let z : eqb o o' ≡ false = omega tests in rw z (tree-skip (suc k) o o' rs (omega arith) a.1)
  tree-skip k o lo (node_row o' x ∷ rs) i a =
      let j : lo ≤ o' = a.0 in
      let z : eqb o o' ≡ false = omega tests in rw z (tree-skip (suc k) o o' rs (omega arith) a.1)

  -- what later owners own stands after a row of an earlier one
  jobs-next : (r : Row A B) (k lo : ℕ) (rs : List (Row A B)) (os : List ℕ) → row_owner r < lo → Waiting k lo os
      → jobs (tree k (r ∷ rs)) os ≡ jobs (tree (suc k) rs) os
  unfolding jobs tree
  jobs-next r k lo rs [] i h = refl
  jobs-next (leaf_row o' a) k lo rs (o ∷ os) i h =
      let j : lo ≤ o = h.0 in
      let z : eqb o o' ≡ false = omega tests in
      rw (z, jobs-next (leaf_row o' a) k (suc o) rs os (omega arith) h.2)
  jobs-next (node_row o' b) k lo rs (o ∷ os) i h =
      let j : lo ≤ o = h.0 in
      let z : eqb o o' ≡ false = omega tests in
      rw (z, jobs-next (node_row o' b) k (suc o) rs os (omega arith) h.2)

  -- the rows are the layout of the owners that wait
  lay-again : (f k lo : ℕ) (os : List ℕ) (rs : List (Row A B)) → load (jobs (tree k rs) os) ≤ f → Waiting k lo os → From lo rs → Owned k os rs
      → lay f k (jobs (tree k rs) os) ≡ rs
  unfolding lay jobs load weight tree
  lay-again zero k lo [] [] w h a m = refl
  lay-again zero k lo [] (r ∷ rs) w h a m = absurd m.0
  lay-again zero k lo (o ∷ os) rs w h a m = absurd (omega (arith, weight-pos (tree k rs o)))
  lay-again (suc f) k lo [] [] w h a m = refl
  lay-again (suc f) k lo [] (r ∷ rs) w h a m = absurd m.0
  lay-again (suc f) k lo (o ∷ os) [] w h a m = lay-again f k (suc o) os [] (omega arith) h.2 tt tt
  lay-again (suc f) k lo (o ∷ os) (leaf_row o' x ∷ rs) w h a m =
      bool_cases (eqb o o')
      (λ q.
      let e : o ≡ o' = eqb-eq q in
      let n : jobs (tree k (leaf_row o' x ∷ rs)) os ≡ jobs (tree (suc k) rs) os = jobs-next (leaf_row o' x) k (suc o) rs os (omega arith) h.2 in
      let w' : suc (weight (tree (suc k) rs o)) + load (jobs (tree (suc k) rs) os) ≤ suc f = rw (q, n) at w in
      let ih : lay f (suc k) (job o (tree (suc k) rs o) (jobs (tree (suc k) rs) os)) ≡ rs =
      lay-again f (suc k) o (o ∷ os) rs (omega arith) (omega arith, omega (arith, h.1), waiting-more k (suc o) os h.2) (rw e a.1) m.1 in
      rw (q, n, ih, e))
      (λ q.
      let i : o < o' = first_under o' o k os h.2 m.0 q in
      let t : tree (suc k) rs o ≡ end = tree-skip (suc k) o o' rs i a.1 in
      let w' : 1 + load (jobs (tree k (leaf_row o' x ∷ rs)) os) ≤ suc f = rw (q, t) at w in
      let g : From (suc o) (leaf_row o' x ∷ rs) = (i, a.1) in
      rw (q, t) (lay-again f k (suc o) os (leaf_row o' x ∷ rs) (omega arith) h.2 g (owned-skip k o (suc o) os (leaf_row o' x ∷ rs) (omega arith) g m)))
  lay-again (suc f) k lo (o ∷ os) (node_row o' x ∷ rs) w h a m =
      bool_cases (eqb o o')
      (λ q.
      let e : o ≡ o' = eqb-eq q in
      let n : jobs (tree k (node_row o' x ∷ rs)) os ≡ jobs (tree (suc k) rs) os = jobs-next (node_row o' x) k (suc o) rs os (omega arith) h.2 in
      let w' : suc (weight (tree (suc k) rs k) + weight (tree (suc k) rs o)) + load (jobs (tree (suc k) rs) os) ≤ suc f = rw (q, n) at w in
      let l : jobs (tree (suc k) rs) (os ++ (k ∷ [])) ≡ later (jobs (tree (suc k) rs) os) k (tree (suc k) rs k) = jobs-later (tree (suc k) rs) k os in
      let v : load (jobs (tree (suc k) rs) (os ++ (k ∷ []))) ≡ weight (tree (suc k) rs k) + load (jobs (tree (suc k) rs) os) =
      rw l (load-later (jobs (tree (suc k) rs) os) k (tree (suc k) rs k)) in
      let ih : lay f (suc k) (job o (tree (suc k) rs o) (jobs (tree (suc k) rs) (os ++ (k ∷ [])))) ≡ rs =
      lay-again f (suc k) o (o ∷ os ++ (k ∷ [])) rs (omega arith)
      (omega arith, omega (arith, h.1), waiting-last k (suc o) os (omega (arith, h.1)) h.2) (rw e a.1) m.1 in
      let ih' : lay f (suc k) (job o (tree (suc k) rs o) (later (jobs (tree (suc k) rs) os) k (tree (suc k) rs k))) ≡ rs = rw l at ih in
      rw (q, n, ih', e))
      (λ q.
      let i : o < o' = first_under o' o k os h.2 m.0 q in
      let t : tree (suc k) rs o ≡ end = tree-skip (suc k) o o' rs i a.1 in
      let w' : 1 + load (jobs (tree k (node_row o' x ∷ rs)) os) ≤ suc f = rw (q, t) at w in
      let g : From (suc o) (node_row o' x ∷ rs) = (i, a.1) in
      rw (q, t) (lay-again f k (suc o) os (node_row o' x ∷ rs) (omega arith) h.2 g (owned-skip k o (suc o) os (node_row o' x ∷ rs) (omega arith) g m)))

  -- rows whose owners ascend, and are the top or earlier rows that may own others, are the layout of their tree
  rows-again : (rs : List (Row A B)) → From 0 rs → Owned 1 (0 ∷ []) rs → write (tree 1 rs 0) ≡ rs
  unfolding write jobs
  rows-again rs a m = lay-again (weight (tree 1 rs 0)) 1 0 (0 ∷ []) rs (unfold load in omega arith) (omega arith, omega arith, tt) a m

-- ---- entries

row-owner : (e : Entry) → row_owner (row_of e) ≡ e.owner
unfolding row_of
row-owner e = bool_cases (eqb e.kind 5) (λ q. rw q) (λ q. rw q)

not-before : (e f : Entry) → entry_before e f ≡ true → e.owner ≤ f.owner
not-before e f h =
    or_cases (ltb e.owner f.owner) (eqb e.owner f.owner && before e.kind e.name f.kind f.name) h
    (λ z. omega tests)
    (λ z. let y : eqb e.owner f.owner ≡ true = and_left (eqb e.owner f.owner) (before e.kind e.name f.kind f.name) z in omega tests)

-- the owners of entries that ascend do so
from_sorted : (e : Entry) (es : List Entry) → AllAfter entry_before e es → Sorted entry_before es → From e.owner (map row_of es)
from_sorted e [] a s = tt
from_sorted e (f ∷ es) a s = rw (row-owner f) (not-before e f a.0, from_sorted f es s.0 s.1)

rows-from : (es : List Entry) → Sorted entry_before es → From 0 (map row_of es)
rows-from [] s = tt
rows-from (e ∷ es) s = rw (row-owner e) (omega arith, from_sorted e es s.0 s.1)

module _ (all : List Entry) (legal : Legal Description all) where
  -- the owners that may own, before number k, wait
  abbrev Ready : ℕ → List ℕ → Type 0
  Ready k os = (j : ℕ) → j < k → (j ≡ 0) ⊎ ((nth all j).kind ≡ 5) → Among j os

  owner-among : (k : ℕ) (os : List ℕ) → 1 ≤ k → k ≤ length all → Ready k os → Among (nth all k).owner os
  unfolding owner_of
  owner-among k os lo hi h =
      eq-cases (nth all k).owner 0
      (λ z. h (nth all k).owner (owner-earlier legal k lo hi) (inl z))
      (λ z. h (nth all k).owner (owner-earlier legal k lo hi) (inr (owner-kind legal k lo hi z)))

  ready-other : (k : ℕ) (os : List ℕ) → 1 ≤ k → eqb (nth all k).kind 5 ≡ false → Ready k os → Ready (suc k) os
  ready-other k os lo q h j i c =
      eq-cases j k
      (λ e. absurd (not-one j c e))
      (λ e. h j (omega arith) c)
    where
      not-one : (j : ℕ) → (j ≡ 0) ⊎ ((nth all j).kind ≡ 5) → j ≡ k → ⊥
      not-one j (inl z) e = omega arith
      not-one j (inr z) e = let y : (nth all k).kind ≡ 5 = rw e at z in omega tests

  ready-every : (k : ℕ) (os : List ℕ) → Ready k os → Ready (suc k) (os ++ (k ∷ []))
  ready-every k os h j i c = eq-cases j k (λ e. rw e (among-last k os)) (λ e. among-more j k os (h j (omega arith) c))

  owned : (k : ℕ) (os : List ℕ) (es : List Entry) → 1 ≤ k → k + length es ≡ 1 + length all
      → ((p : ℕ) → p < length es → get_or es p zero_entry ≡ nth all (k + p)) → Ready k os → Owned k os (map row_of es)
  unfolding row_of
  owned k os [] lo t at h = tt
  owned k os (e ∷ es) lo t at h =
      let i : e ≡ nth all k = at 0 (omega arith) ∙ (let w : k + 0 ≡ k = omega arith in rw w) in
      let m : Among e.owner os = rw i (owner-among k os lo (omega arith) h) in
      let next : (p : ℕ) → p < length es → get_or es p zero_entry ≡ nth all (suc k + p) =
      λ p l. at (suc p) (omega arith) ∙ (let w : k + suc p ≡ suc k + p = omega arith in rw w) in
      bool_cases (eqb e.kind 5)
      (λ q. rw q (m, owned (suc k) (os ++ (k ∷ [])) es (omega arith) (omega arith) next (ready-every k os h)))
      (λ q. rw q (m, owned (suc k) os es (omega arith) (omega arith) next (ready-other k os lo (rw i at q) h)))

  top_ready : Ready 1 (0 ∷ [])
  top_ready j i c = inl (omega arith)

-- a legal list that ascends by owner, then kind, then name is written again from its own tree
pub written-again : (es : List Entry) → Legal Description es → Sorted entry_before es → write (place_of es 0) ≡ map row_of es
unfolding place_of
written-again es legal sorted =
    rows-again (map row_of es) (rows-from es sorted) (owned es legal 1 (0 ∷ []) es (omega arith) refl (itself es) (top_ready es legal))

-- ---- the entries of the normal form

same-entry : (e : Entry) {k r m : ℕ} → k ≡ e.kind → r ≡ e.reserved → m ≡ e.number
    → record { kind = k; reserved = r; owner = e.owner; name = e.name; number = m } ≡ e
same-entry e p q s = rw (p, q, s)

-- an entry of allowed form is that of its row
entry-back : (e : Entry) → form_ok Description e ≡ true → row_entry (row_of e) ≡ e
unfolding row_of
entry-back e h =
    let k = form-kind e h in
    let z : 0 ≡ e.reserved = sym (no-reserved e h) in
    eq-cases e.kind 5
    (λ q.
    let m : number_ok 5 e.number ≡ true = rw q at (number_ok_lem e h) in
    rw (eq-eqb q) (same-entry e (sym q) z (sym (no_number 5 e.number m (λ y. omega arith) (λ y. omega arith) (λ y. omega arith)))))
    (λ q. rw (ne_eqb q) (same-entry e (rank-kind e.kind k.0 k.1 q) z refl))

entries-back : (es : List Entry) → ((p : ℕ) → p < length es → form_ok Description (get_or es p zero_entry) ≡ true) → map row_entry (map row_of es) ≡ es
entries-back [] h = refl
entries-back (e ∷ es) h = rw (entry-back e (h 0 (omega arith)), entries-back es (λ p l. h (suc p) (omega arith)))

-- a legal list that ascends, and to which no rule applies, is that of its normal form
pub entries-again : {b : Background} → LawfulBackground b → (es : List Entry) → Legal Description es → Sorted entry_before es
    → ((k : ℕ) → Applies b k es → ⊥) → normal_entries b es ≡ es
unfolding normal_entries nth
entries-again law es legal sorted none =
    ap (λ (t : Place). map row_entry (write t)) (irreducible-fixed law es legal sorted none)
    ∙ ap (map row_entry) (written-again es legal sorted)
    ∙ entries-back es (λ p l. legal.form (suc p) (omega arith) (omega arith))
