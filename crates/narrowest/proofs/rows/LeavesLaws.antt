-- What the entries of a place give of a kind is what its tree gives.
-- Assumes nothing.
use Prim.Native.Nat.{◌≤◌, suc, ℕ}
use lib.Dec.{eqb}
use mathlib.Core.Bool.{false, true}
use mathlib.Core.List.{List, [], ◌++◌, ◌∷◌, map}
use mathlib.Core.Option.{Option, none, some}
use mathlib.Core.Path.{◌∙◌, ◌≡◌, ap, refl}
use Rattle.base.proofs.Tests.{bool_cases, eq-cases, eq-eqb, eqb-sym, ne_eqb}
use Rattle.blocks.specs.declared.Entry.{Entry}
use Rattle.logic.specs.Laying.{leaves}
use Rattle.logic.specs.Normal.{find, rank}
use Rattle.logic.specs.Place.{Atom, Kind, Place, atom}
use Rattle.logic.specs.Tree.{leaf, tree}
use Rattle.meaning.proofs.Descriptions.Lookups.{rank-kind, rank-other}
use Rattle.meaning.specs.Description.{row_of}
use Rattle.narrow.specs.code.Made.{Listing, from_first, item_if, leaves_of}
use Rattle.narrowest.specs.code.Forms.{owned_by}
use Rattle.narrowest.specs.code.Pushes.{atom_if, shared, shared_value}
use Rattle.std.specs.List.{flat_map}

-- the kinds of a description's entries
abbrev pub Kinds : List Entry → Type 0
Kinds [] = Unit {0}
Kinds (e ∷ es) = (1 ≤ e.kind) × (e.kind ≤ 6) × Kinds es

-- one atom, if there is a number, before others
atoms-first : (k : Kind) (n : ℕ) (v : Option ℕ) (L : List Atom) (q : Listing) (r : Place) → leaves L r ≡ leaves_of k q r
    → leaves (atom_if k n v ++ L) r ≡ leaves_of k (item_if n v q) r
unfolding leaves leaves_of
atoms-first k n none L q r e = e
atoms-first k n (some m) L q r e = ap (λ (x : Place). leaf (atom k n m) x) e

module _ (k : Kind) (u : Place) (o : ℕ) (r : Place) where
  abbrev g : ℕ → ℕ → Option ℕ
  g n m = shared_value k m (find k n u)

  pub kind-leaves : (i : ℕ) (es : List Entry) → Kinds es
      → leaves (flat_map (shared k u) (owned_by o es)) r ≡ leaves_of k (from_first g k (tree i (map row_of es) o)) r
  unfolding leaves leaves_of from_first tree row_of owned_by shared
  kind-leaves i [] h = refl
  kind-leaves i (e ∷ es) h =
      let ih = kind-leaves (suc i) es h.2 in
      eq-cases e.kind 5
      (λ q.
      let f : eqb e.kind 5 ≡ true = eq-eqb q in
      let z : eqb e.kind (rank k) ≡ false = ap (λ (n : ℕ). eqb n (rank k)) q ∙ eqb-sym 5 (rank k) ∙ rank-other k in
      bool_cases (eqb o e.owner) (λ y. rw (f, y, z) ih) (λ y. rw (f, y) ih))
      (λ q.
      let f : eqb e.kind 5 ≡ false = ne_eqb q in
      bool_cases (eqb o e.owner)
      (λ y. bool_cases (eqb e.kind (rank k))
      (λ x.
      let x' : eqb (rank k) e.kind ≡ true = eqb-sym (rank k) e.kind ∙ x in
      rw (f, y, x, rank-kind e.kind h.0 h.1 q, x') (atoms-first k e.name (g e.name e.number) (flat_map (shared k u) (owned_by o es)) (from_first g k (tree (suc i) (map row_of es) o)) r ih))
      (λ x.
      let x' : eqb (rank k) e.kind ≡ false = eqb-sym (rank k) e.kind ∙ x in
      rw (f, y, x, rank-kind e.kind h.0 h.1 q, x') ih))
      (λ y. rw (f, y) ih))
