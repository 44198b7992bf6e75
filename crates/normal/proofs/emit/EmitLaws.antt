-- A place that is written from its cells is its leaves and then its nodes, and its rows are theirs.
-- Assumes nothing.
use Prim.Native.Nat.{ℕ}
use mathlib.Core.Bool.{Bool}
use mathlib.Core.List.{List, [], ◌++◌, ◌∷◌, map, map-append}
use mathlib.Core.Option.{Option}
use mathlib.Core.Path.{◌∙◌, ◌≡◌, ap, refl}
use Rattle.base.proofs.Missing.{opt_cases}
use Rattle.base.proofs.Tests.{bool_cases}
use Rattle.logic.specs.Laying.{codes, joint_rows, joints, leaf_rows, leaves, place_numbers}
use Rattle.logic.specs.Place.{Atom, Kind, Place, atom}
use Rattle.logic.specs.Tree.{Row, leaf, leaf_row, node, node_row}
use Rattle.normal.specs.code.Emitted.{atom_rows, cell_atoms, cell_joints, every_rows, every_slots, kind_atoms, kind_rows, place_rows, row_number}
use Rattle.passes.specs.code.Forms.{kept, of_every, of_kind, written}
use Rattle.passes.specs.code.Slots.{Cell, cell, is_link, same_class, value}

-- ---- leaves after leaves

leaves-append : (l m : List Atom) (t : Place) → leaves (l ++ m) t ≡ leaves l (leaves m t)
unfolding leaves
leaves-append [] m t = refl
leaves-append (a ∷ l) m t = ap (leaf a) (leaves-append l m t)

leaf-rows-append : (o : ℕ) (l m : List Atom) → leaf_rows {B = ℕ} o (l ++ m) ≡ leaf_rows o l ++ leaf_rows o m
unfolding leaf_rows
leaf-rows-append o [] m = refl
leaf-rows-append o (a ∷ l) m = ap (λ (r : List (Row Atom ℕ)). leaf_row o a ∷ r) (leaf-rows-append o l m)

-- ---- one kind

kind-leaves : (a : Kind) (q : List Cell) (r : Place) → of_kind a q r ≡ leaves (kind_atoms a q) r
unfolding of_kind kind_atoms leaves
kind-leaves a [] r = refl
kind-leaves a (cell j b n lo hi ∷ q) r =
    bool_cases (same_class b (is_link a))
    (λ z. rw z (opt_cases (value a lo hi) (λ e. rw e (kind-leaves a q r)) (λ m e. rw e (ap (leaf (atom a n m)) (kind-leaves a q r)))))
    (λ z. rw z (kind-leaves a q r))

kind-rows : (a : Kind) (o : ℕ) (q : List Cell) → kind_rows a o q ≡ leaf_rows o (kind_atoms a q)
unfolding kind_rows kind_atoms leaf_rows
kind-rows a o [] = refl
kind-rows a o (cell j b n lo hi ∷ q) =
    bool_cases (same_class b (is_link a))
    (λ z. rw z (opt_cases (value a lo hi) (λ e. rw e (kind-rows a o q)) (λ m e. rw e (ap (λ (r : List (Row Atom ℕ)). leaf_row o (atom a n m) ∷ r) (kind-rows a o q)))))
    (λ z. rw z (kind-rows a o q))

-- ---- the nodes

every-joints : (T : ℕ → Place) (q : List Cell) → of_every T q ≡ joints T (cell_joints (kept T) q)
unfolding of_every cell_joints joints
every-joints T [] = refl
every-joints T (cell j b n lo hi ∷ q) =
    bool_cases (kept T j b hi) (λ z. rw z (ap (node n (T j)) (every-joints T q))) (λ z. rw z (every-joints T q))

module _ (keep : ℕ → Bool → Option ℕ → Bool) where
  every-rows : (o : ℕ) (q : List Cell) → every_rows keep o q ≡ joint_rows o (cell_joints keep q)
  unfolding every_rows cell_joints joint_rows
  every-rows o [] = refl
  every-rows o (cell j b n lo hi ∷ q) =
      bool_cases (keep j b hi) (λ z. rw z (ap (λ (r : List (Row Atom ℕ)). node_row o n ∷ r) (every-rows o q))) (λ z. rw z (every-rows o q))

  pub every-codes : (q : List Cell) → every_slots keep q ≡ codes (cell_joints keep q)
  unfolding every_slots cell_joints codes
  every-codes [] = refl
  every-codes (cell j b n lo hi ∷ q) = bool_cases (keep j b hi) (λ z. rw z (ap (λ (l : List ℕ). j ∷ l) (every-codes q))) (λ z. rw z (every-codes q))

-- ---- the whole place

pub written-places : (T : ℕ → Place) (q : List Cell) → written T q ≡ leaves (cell_atoms q) (joints T (cell_joints (kept T) q))
unfolding written cell_atoms
written-places T q = simp (kind-leaves, leaves-append, every-joints)

pub atoms-are : (o : ℕ) (q : List Cell) → atom_rows o q ≡ leaf_rows o (cell_atoms q)
unfolding atom_rows cell_atoms
atoms-are o q = simp (kind-rows, leaf-rows-append)

pub numbers-are : (keep : ℕ → Bool → Option ℕ → Bool) (o : ℕ) (q : List Cell)
    → map row_number (place_rows keep o q) ≡ place_numbers row_number o (cell_atoms q) (cell_joints keep q)
unfolding place_rows
numbers-are keep o q = map-append row_number (atom_rows o q) (every_rows keep o q) ∙ rw (atoms-are o q, every-rows keep o q)
