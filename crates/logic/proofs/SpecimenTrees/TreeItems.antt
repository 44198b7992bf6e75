-- The items of a specimen's tree, by groups that are numbered from the root down.
-- Assumes nothing.
use Prim.Native.Nat.{◌+◌, ◌<◌, ◌≤◌, suc, ℕ}
use lib.Dec.{eqb, ltb}
use lib.ListN.{replicate}
use mathlib.Core.Bool.{Bool, ◌&&◌, ◌||◌, and-true, cond, false, not, true}
use mathlib.Core.List.{List, ◌++◌}
use mathlib.Core.Path.{◌∙◌, ◌≡◌, refl, sym}
use native.Mathlib.Omega.{arith}
use Rattle.base.proofs.Tests.{bool_cases, eq-cases, eq-eqb, eqb-self, ge-ltb, lt-cases, lt-ltb, ne_eqb, tests}
use Rattle.logic.proofs.Records.Counting.{count-copies, count_in, every-copies, every_in}
use Rattle.logic.specs.SpecimenTree.{Group, SpecimenTree, each_in, group, total}
use Rattle.logic.specs.Tree.{end, leaf, node}

-- an item: the top, or one of group k, whose owner is group o and whose link is l; groups count from 1 and the top is group 0
pub data Item : Type 0 where
  top : Item
  one : ℕ → ℕ → ℕ → Item

abbrev pub home : Item → ℕ
home top = 0
home (one k o l) = k

-- the items of group g are linked to an item by l
abbrev pub linked_to : ℕ → ℕ → Item → Bool
linked_to l g top = false
linked_to l g (one k o l') = eqb g o && eqb l l'

-- the number of groups
unfoldable pub groups : SpecimenTree → ℕ
groups end = 0
groups (leaf p r) = groups r
groups (node g s r) = suc (groups s + groups r)

-- the items of a tree whose owner is o and whose groups count from k, then further ones
unfoldable pub items : ℕ → ℕ → SpecimenTree → List Item → List Item
items k o end is = is
items k o (leaf p r) is = items k o r is
items k o (node (group l n) s r) is = replicate (suc n) (one k o l) ++ items (suc k) k s (items (suc (k + groups s)) o r is)

-- what the items of group g are, in a tree whose groups count from k
unfoldable pub part : ℕ → SpecimenTree → ℕ → SpecimenTree
part k end g = end
part k (leaf p r) g = part k r g
part k (node h s r) g = cond (eqb g k) s (cond (ltb g (suc (k + groups s))) (part (suc k) s g) (part (suc (k + groups s)) r g))

-- groups before the first, and after the last
pub part_low : (k : ℕ) (s : SpecimenTree) (g : ℕ) → g < k → part k s g ≡ end
unfolding part
part_low k end g h = refl
part_low k (leaf p r) g h = part_low k r g h
part_low k (node b s r) g h =
    let y : eqb g k ≡ false = omega tests in
    let z : ltb g (suc (k + groups s)) ≡ true = omega tests in
    rw (y, z) (part_low (suc k) s g (omega arith))

part-high : (k : ℕ) (s : SpecimenTree) (g : ℕ) → k + groups s ≤ g → part k s g ≡ end
unfolding part groups
part-high k end g h = refl
part-high k (leaf p r) g h = part-high k r g h
part-high k (node b s r) g h =
    let y : eqb g k ≡ false = omega tests in
    let z : ltb g (suc (k + groups s)) ≡ false = omega tests in
    rw (y, z) (part-high (suc (k + groups s)) r g (omega arith))

-- the cases of where group g stands in a tree that begins with group k and has what s says below it, by what its parts are
part-cases {ℓ} : {A : Type ℓ} (k : ℕ) (b : Group) (s r : SpecimenTree) (g : ℕ)
    → (eqb g k ≡ true → part (suc k) s g ≡ end → part (suc (k + groups s)) r g ≡ end → part k (node b s r) g ≡ s → A)
    → (eqb g k ≡ false → part (suc (k + groups s)) r g ≡ end → part k (node b s r) g ≡ part (suc k) s g → A)
    → (eqb g k ≡ false → part (suc k) s g ≡ end → part k (node b s r) g ≡ part (suc (k + groups s)) r g → A) → A
unfolding part
part-cases k b s r g here inner outer =
    eq-cases g k
    (λ e. here (eq-eqb e) (part_low (suc k) s g (omega arith)) (part_low (suc (k + groups s)) r g (omega arith)) (rw (eq-eqb e)))
    (λ e. lt-cases g (suc (k + groups s))
    (λ h. inner (ne_eqb e) (part_low (suc (k + groups s)) r g h) (rw (ne_eqb e, lt-ltb h)))
    (λ h. outer (ne_eqb e) (part-high (suc k) s g (omega arith)) (rw (ne_eqb e, ge-ltb h))))

-- ---- counting and testing

-- what group g has in a tree that begins with a group: as that group, below it, or beside it
part-total : (l k : ℕ) (b : Group) (s r : SpecimenTree) (g : ℕ)
    → total l (part k (node b s r) g) ≡ cond (eqb g k) (total l s) 0 + (total l (part (suc k) s g) + total l (part (suc (k + groups s)) r g))
unfolding total
part-total l k b s r g =
    part-cases k b s r g
    (λ e x y z. rw (e, x, y, z) (omega arith))
    (λ e x z. rw (e, x, z) (omega arith))
    (λ e x z. rw (e, x, z) (omega arith))

part-each : (l : ℕ) (f : SpecimenTree → Bool) (k : ℕ) (b : Group) (s r : SpecimenTree) (g : ℕ)
    → each_in l f (part k (node b s r) g)
    ≡ ((not (eqb g k) || each_in l f s) && (each_in l f (part (suc k) s g) && each_in l f (part (suc (k + groups s)) r g)))
unfolding each_in
part-each l f k b s r g =
    part-cases k b s r g
    (λ e x y z. rw (e, x, y, z) (sym (and-true (each_in l f s))))
    (λ e x z. rw (e, x, z) (sym (and-true (each_in l f (part (suc k) s g)))))
    (λ e x z. rw (e, x, z))

-- the items that those of group g are linked to by l: its groups by l
pub count-items : (l g k o : ℕ) (s : SpecimenTree) (is : List Item)
    → count_in (linked_to l g) (items k o s is) ≡ (cond (eqb g o) (total l s) 0 + total l (part k s g)) + count_in (linked_to l g) is
unfolding items total part
count-items l g k o end is = bool_cases (eqb g o) (λ q. rw q (omega arith)) (λ q. rw q (omega arith))
count-items l g k o (leaf p r) is = count-items l g k o r is
count-items l g k o (node (group l' n) s r) is =
    count-copies (linked_to l g) (suc n) (one k o l') _
    ∙ rw (count-items l g (suc k) k s (items (suc (k + groups s)) o r is), count-items l g (suc (k + groups s)) o r is)
    (bool_cases (eqb g o)
    (λ q. rw q (omega (arith, part-total l k (group l' n) s r g)))
    (λ q. rw q (omega (arith, part-total l k (group l' n) s r g))))

-- six tests in another order
shuffle : (a x y r z w : Bool) → (a && ((x && y) && ((r && z) && w))) ≡ (((a && r) && (x && (y && z))) && w)
shuffle false x y r z w = refl
shuffle true false y true z w = refl
shuffle true false y false z w = refl
shuffle true true false true z w = refl
shuffle true true false false z w = refl
shuffle true true true r z w = refl

module _ (f : SpecimenTree → Bool) (whole : ℕ → SpecimenTree) (l g : ℕ) where
  -- a linked item is of a group that passes
  abbrev pub passes : Item → Bool
  passes i = not (linked_to l g i) || f (whole (home i))

  -- a test passes at the items that those of group g are linked to by l if it does at its groups by l
  pub every_items : (k o : ℕ) (s : SpecimenTree) (is : List Item) → ((h : ℕ) → k ≤ h → h < k + groups s → part k s h ≡ whole h)
      → every_in passes (items k o s is) ≡ ((not (eqb g o) || each_in l f s) && each_in l f (part k s g)) && every_in passes is
  unfolding items each_in part groups
  every_items k o end is w = bool_cases (eqb g o) (λ q. rw q) (λ q. rw q)
  every_items k o (leaf p r) is w = every_items k o r is w
  every_items k o (node (group l' n) s r) is w =
      let own : whole k ≡ s = sym (w k (omega arith) (omega arith)) ∙ rw (eqb-self k) in
      let in-s : (h : ℕ) → suc k ≤ h → h < suc k + groups s → part (suc k) s h ≡ whole h
      = λ h a b. let y : eqb h k ≡ false = omega tests in let z : ltb h (suc (k + groups s)) ≡ true = omega tests in
      rw (y, z) at (w h (omega arith) (omega arith)) in
      let in-r : (h : ℕ) → suc (k + groups s) ≤ h → h < suc (k + groups s) + groups r → part (suc (k + groups s)) r h ≡ whole h
      = λ h a b. let y : eqb h k ≡ false = omega tests in let z : ltb h (suc (k + groups s)) ≡ false = omega tests in
      rw (y, z) at (w h (omega arith) (omega arith)) in
      let below : Bool = not (eqb g k) || each_in l f s in
      let inner : Bool = each_in l f (part (suc k) s g) in
      let outer : Bool = each_in l f (part (suc (k + groups s)) r g) in
      every-copies passes n (one k o l') _
      ∙ rw (
        every_items (suc k) k s (items (suc (k + groups s)) o r is) in-s,
        every_items (suc (k + groups s)) o r is in-r,
        own,
        part-each l f k (group l' n) s r g,
      )
      (bool_cases (eqb g o)
      (λ q. rw q (shuffle (not (eqb l l') || f s) below inner (each_in l f r) outer (every_in passes is)))
      (λ q. rw q (shuffle true below inner true outer (every_in passes is))))
