-- The rows of tags, pushed one after another.
-- Assumes nothing.
use Prim.Native.Nat.{◌+◌, ◌<◌, max, pred, ℕ}
use lib.ListN.{get_or, length, length-map, take}
use lib.Seq.{take-suc}
use mathlib.Core.List.{List, [], ◌++◌, ◌∷◌, map, map-append}
use mathlib.Core.Path.{◌≡◌, refl}
use native.Mathlib.Numerals.{add-one}
use native.Mathlib.Omega.{arith}
use Rattle.logic.proofs.TreeRows.LaidLaws.{codes-length, joint-length}
use Rattle.compare.specs.code.Codes.{specimen_number}
use Rattle.logic.specs.Laying.{Joint, codes, joint, joint_rows, leaf_rows}
use Rattle.compare.specs.code.Asked.{code_asked, least_asked}
use Rattle.compare.specs.code.Tags.{group_of, tag_name, tag_slot}
use Rattle.compare.specs.declared.items.Items.{Items}
use Rattle.std.specs.Prelude.{Option}
use Rattle.logic.proofs.TreeRows.FillLaws.{filled_more, joined-more}
use Rattle.logic.specs.Filling.{Filled, Joined}
use Rattle.logic.specs.SpecimenTree.{Group, group}
use Rattle.logic.specs.Tree.{leaf_row, node_row}
use Rattle.slots.specs.code.TablePlaces.{below_in, least_in}

-- ---- lists

leaf-append : (o : ℕ) (xs ys : List ℕ) → leaf_rows {A = ℕ} {B = Group} o (xs ++ ys) ≡ leaf_rows o xs ++ leaf_rows o ys
unfolding leaf_rows
leaf-append o [] ys = refl
leaf-append o (x ∷ xs) ys = rw (leaf-append o xs ys)

joint-append : (o : ℕ) (xs ys : List (Joint Group)) → joint_rows {A = ℕ} o (xs ++ ys) ≡ joint_rows o xs ++ joint_rows o ys
unfolding joint_rows
joint-append o [] ys = refl
joint-append o (joint b c ∷ xs) ys = rw (joint-append o xs ys)

codes-append : (xs ys : List (Joint Group)) → codes (xs ++ ys) ≡ codes xs ++ codes ys
unfolding codes
codes-append [] ys = refl
codes-append (joint b c ∷ xs) ys = rw (codes-append xs ys)

-- ---- rows

-- the property of one tag more
pub properties-more : (order : List ℕ) (o i : ℕ) {w count k k₁ x : ℕ} {rows₀ rows rows₁ : List ℕ} → i < length order → x ≡ tag_name (get_or order i 0)
    → Filled w rows₀ count (map specimen_number (leaf_rows o (map tag_name (take i order)))) rows k → Filled w rows k (specimen_number (leaf_row o x) ∷ []) rows₁ k₁
    → Filled w rows₀ count (map specimen_number (leaf_rows o (map tag_name (take (i + 1) order)))) rows₁ k₁
unfolding leaf_rows
properties-more order o i h e p q =
    rw (add-one, take-suc order i 0 h, map-append, leaf-append, map-append, ← e) (filled_more p q)

-- the group of a tag
pub group-is : (t : List ℕ) (asked : Option Items) (x o : ℕ) {w n at l m code r : ℕ} {rows rows' below below' : List ℕ} → l ≡ tag_name x
    → m ≡ pred (max (least_in t (tag_slot x)) (least_asked asked (tag_name x))) → code ≡ code_asked asked (tag_name x) + below_in t (tag_slot x)
    → Joined w rows n (specimen_number (node_row o (group l m)) ∷ []) below at (code ∷ []) rows' r below'
    → Joined w rows n (map specimen_number (joint_rows o (group_of t asked x ∷ []))) below at (codes (group_of t asked x ∷ [])) rows' r below'
unfolding joint_rows codes
group-is t asked x o a b c p = rw (a, b, c) at p

-- the group of one tag more
pub groups-more : (order : List ℕ) (G : ℕ → Joint Group) (o i : ℕ) {w count k k₁ : ℕ} {rows₀ rows rows₁ below₀ below below₁ : List ℕ} → i < length order
    → Joined w rows₀ count (map specimen_number (joint_rows o (map G (take i order)))) below₀ (count + 1) (codes (map G (take i order))) rows k below
    → Joined w rows k (map specimen_number (joint_rows o (G (get_or order i 0) ∷ []))) below (k + 1) (codes (G (get_or order i 0) ∷ [])) rows₁ k₁ below₁
    → Joined w rows₀ count (map specimen_number (joint_rows o (map G (take (i + 1) order)))) below₀ (count + 1) (codes (map G (take (i + 1) order))) rows₁ k₁ below₁
groups-more order G o i {count = count} {k = k} h p q =
    let at : k + 1 ≡ count + 1 + length (codes (map G (take i order)))
    = omega (arith, p.pushed.total, codes-length (map G (take i order)), length-map (joint_rows {A = ℕ} o (map G (take i order))) specimen_number, joint-length ℕ o (map G (take i order))) in
    rw (add-one, take-suc order i 0 h, map-append, joint-append, codes-append, map-append) (joined-more p q at)
