-- A legal specimen breaks number 9 nowhere exactly where its record keeps the standing rule: links from 32,768 up lead to one item only.
-- Assumes nothing.
use Prim.Native.Nat.{◌+◌, ◌<◌, ◌≤◌, suc, zero, ℕ}
use lib.Dec.{eqb}
use lib.ListN.{get_or, length, replicate}
use mathlib.Core.Bool.{true}
use mathlib.Core.List.{List, [], ◌++◌, ◌∷◌}
use mathlib.Core.Logic.{◌≢◌}
use mathlib.Core.Option.{none, some}
use mathlib.Core.Path.{◌∙◌, ◌≡◌, ap, refl, sym}
use native.Mathlib.Nat.{add-suc, add-zero, suc-add}
use native.Mathlib.Numerals.{one-add}
use native.Mathlib.Omega.{arith}
use Rattle.base.proofs.Sums.{sum-front}
use Rattle.base.proofs.Tests.{and_right, bool_cases, eq-cases, eq-eqb}
use Rattle.base.specs.Links.{is_single}
use Rattle.base.specs.Range.{sum}
use Rattle.blocks.proofs.Refusing.Legal.{owner-earlier, owner-kind}
use Rattle.blocks.proofs.Refusing.SingleLaws.{below-ok, items-rise, other-ok, single-most}
use Rattle.blocks.specs.Entries.{nth, zero_entry}
use Rattle.blocks.specs.Owners.{owner_of}
use Rattle.blocks.specs.Promise.{Legal, Single}
use Rattle.blocks.specs.Single.{items_for, items_up_to, single_group}
use Rattle.blocks.specs.declared.Entry.{Entry}
use Rattle.blocks.specs.declared.Schema.TheVariants.{Specimen}
use Rattle.logic.proofs.Records.Counting.{sum_in}
use Rattle.logic.specs.Background.{Keeps, standing}
use Rattle.meaning.proofs.Specimens.Items.{group_at, linked_items, successors-groups}
use Rattle.meaning.specs.Specimen.{Item, all_items, group_of, items, member, record_of, top}

-- ---- the items that the groups bring are those that an item is linked to

sum-list : (f : Entry → ℕ) (es : List Entry) → sum (λ i. f (get_or es i zero_entry)) (length es) ≡ sum_in f es
unfolding sum sum_in
sum-list f [] = refl
sum-list f (e ∷ es) = sum-front (λ i. f (get_or (e ∷ es) i zero_entry)) (length es) ∙ rw (sum-list f es)

pub brought-linked : (es : List Entry) (o l : ℕ) → items_up_to es o l (length es) ≡ linked_items es o l
unfolding items_up_to linked_items nth
brought-linked es o l = sum-list (items_for o l) es

-- ---- each group has an item

-- a list of items has one of group g
pub record Found (g : ℕ) (xs : List Item) : Type 0 where
  pub item : ℕ
  pub inside : item < length xs
  pub right : group_of (get_or xs item top) ≡ g

found-later : {g : ℕ} (x : Item) (xs : List Item) → Found g xs → Found g (x ∷ xs)
found-later x xs f = record { item = suc f.item; inside = omega (arith, f.inside); right = f.right }

found-past : {g : ℕ} (n : ℕ) (x : Item) (xs : List Item) → Found g xs → Found g (replicate n x ++ xs)
found-past zero x xs f = f
found-past (suc n) x xs f = found-later x (replicate n x ++ xs) (found-past n x xs f)

group-found : (k : ℕ) (es : List Entry) (i : ℕ) → i < length es → eqb (get_or es i zero_entry).kind 7 ≡ true → Found (k + i) (items k es)
unfolding items
group-found k [] i h q = absurd (omega arith)
group-found k (e ∷ es) zero h q = rw (q, add-zero) (record { item = 0; inside = omega arith; right = refl })
group-found k (e ∷ es) (suc i) h q =
    let rest = group-found (suc k) es i (omega arith) q in
    let there : Found (k + suc i) (items (suc k) es) = rw (add-suc, ← suc-add) rest in
    bool_cases (eqb e.kind 7)
    (λ z. rw z (found-past (suc e.number) (member k e.owner e.name) (items (suc k) es) there))
    (λ z. rw z there)

entry_found : (es : List Entry) (g : ℕ) → g ≢ 0 → g ≤ length es → (nth es g).kind ≡ 7 → Found g (items 1 es)
unfolding nth
entry_found es zero z h q = absurd (z refl)
entry_found es (suc i) z h q = rw one-add at (group-found 1 es i (omega arith) (eq-eqb q))

-- the top is one of its own, and each owner of an entry is the top or a group
pub owner-found : {es : List Entry} → Legal Specimen es → (n : ℕ) → 1 ≤ n → n ≤ length es → Found (owner_of es n) (all_items es)
unfolding nth
owner-found {es} L n lo hi =
    eq-cases (owner_of es n) 0
    (λ z. rw z (record { item = 0; inside = omega arith; right = refl }))
    (λ z. found-later top (items 1 es) (entry_found es (owner_of es n) z (omega (arith, owner-earlier L n lo hi)) (owner-kind L n lo hi z)))

-- ---- the two ways

cap-one : (l m : ℕ) → standing.cap l ≡ some m → (is_single l ≡ true) × (m ≡ 1)
cap-one l m e =
    bool_cases (is_single l)
    (λ q. let g : some 1 ≡ some m = rw q at e in let z : 1 ≡ m = cc in (q, sym z))
    (λ q. let g : none ≡ some m = rw q at e in let z : ◌≡◌ {A = ℕ} 0 1 = cc in absurd (omega arith))

-- a specimen of which no entry breaks number 9 keeps the rule
pub single-keeps : (es : List Entry) → Single es → Keeps standing (record_of es)
single-keeps es S = record {
  caps = λ l m x e h.
      let c = cap-one l m e in
      omega (arith, c.1, successors-groups es l x, brought-linked es (group_at es x) l, single-most es (group_at es x) l c.0 (length es) S.each);
  exclusions = λ p q x e h. let z : ◌≡◌ {A = ℕ} 0 1 = cc in absurd (omega arith);
}

-- a legal specimen that keeps the rule breaks number 9 nowhere
pub keeps-single : {es : List Entry} → Legal Specimen es → Keeps standing (record_of es) → Single es
unfolding record_of
keeps-single {es} L K = record {
  each = λ n lo hi.
      let o = owner_of es n in
      let l = (nth es n).name in
      bool_cases (single_group (nth es n))
      (λ q.
      let f = owner-found L n lo hi in
      let s : is_single l ≡ true = and_right (eqb (nth es n).kind 7) (is_single l) q in
      let most = K.caps l 1 f.item (rw s) f.inside in
      let own : linked_items es (group_at es f.item) l ≡ linked_items es o l = ap (λ (g : ℕ). linked_items es g l) f.right in
      below-ok es n q
      (omega (arith, successors-groups es l f.item, own, brought-linked es o l, items-rise es o l n (length es) hi)))
      (λ q. other-ok es n q);
}
