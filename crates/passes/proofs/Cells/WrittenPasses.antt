-- Tests that each entry of a place has to pass, of a place that is written from cells: each cell has to pass them.
-- Assumes nothing.
use Prim.Native.Nat.{ℕ}
use mathlib.Core.Bool.{Bool, ◌&&◌, ◌||◌, and_assoc, false, not, true}
use mathlib.Core.List.{List, [], ◌∷◌}
use mathlib.Core.Option.{Option, none, some}
use mathlib.Core.Path.{◌∙◌, ◌≡◌, refl, sym}
use Rattle.base.proofs.Tests.{and-swap, bool_cases}
use Rattle.logic.specs.Place.{Atom, Kind, Place, atom, has, lacks, least, most}
use Rattle.logic.specs.Tree.{end, leaf, node}
use Rattle.passes.specs.code.Forms.{kept, leaf_if, of_every, of_kind, written}
use Rattle.passes.specs.code.Slots.{Cell, cell, is_link, same_class, value}

-- each cell passes
unfoldable pub all_cells : (Cell → Bool) → List Cell → Bool
all_cells p [] = true
all_cells p (c ∷ q) = p c && all_cells p q

pub cells_ext : (p p' : Cell → Bool) (q : List Cell) → ((c : Cell) → p c ≡ p' c) → all_cells p q ≡ all_cells p' q
unfolding all_cells
cells_ext p p' [] h = refl
cells_ext p p' (c ∷ q) h = rw (h c, cells_ext p p' q h)

cells-and : (p p' : Cell → Bool) (q : List Cell) → (all_cells p q && all_cells p' q) ≡ all_cells (λ c. p c && p' c) q
unfolding all_cells
cells-and p p' [] = refl
cells-and p p' (c ∷ q) = simp (and_assoc, ← (cells-and p p' q)) (inner (p c) (p' c) (all_cells p q) (all_cells p' q))
  where
    inner : (a b d e : Bool) → (a && (d && (b && e))) ≡ (a && (b && (d && e)))
    inner true b d e = and-swap d b e
    inner false b d e = refl

-- ---- tests of entries

module _ (g : Atom → Bool) (h : ℕ → Place → Bool) where
  -- each entry of the place passes: an atom g, an 'every' h
  unfoldable pub passes : Place → Bool
  passes end = true
  passes (leaf a r) = g a && passes r
  passes (node l s r) = h l s && passes r

  abbrev pub if_listed : Kind → ℕ → Option ℕ → Bool
  if_listed a n none = true
  if_listed a n (some m) = g (atom a n m)

  abbrev kind_passes : Kind → Cell → Bool
  kind_passes a (cell j b n lo hi) = not (same_class b (is_link a)) || if_listed a n (value a lo hi)

  abbrev every_passes : (ℕ → Place) → Cell → Bool
  every_passes T (cell j b n lo hi) = not (kept T j b hi) || h n (T j)

  passes-leaf_if : (a : Kind) (n : ℕ) (o : Option ℕ) (r : Place) → passes (leaf_if a n o r) ≡ if_listed a n o && passes r
  unfolding passes
  passes-leaf_if a n none r = refl
  passes-leaf_if a n (some m) r = refl

  passes-kind : (a : Kind) (q : List Cell) (r : Place) → passes (of_kind a q r) ≡ all_cells (kind_passes a) q && passes r
  unfolding of_kind all_cells
  passes-kind a [] r = refl
  passes-kind a (cell j b n lo hi ∷ q) r =
      bool_cases (same_class b (is_link a))
      (λ z. rw z (passes-leaf_if a n (value a lo hi) (of_kind a q r) ∙ rw (passes-kind a q r) (sym (and_assoc (if_listed a n (value a lo hi)) (all_cells (kind_passes a) q) (passes r)))))
      (λ z. rw z (passes-kind a q r))

  passes-every : (T : ℕ → Place) (q : List Cell) → passes (of_every T q) ≡ all_cells (every_passes T) q
  unfolding of_every passes all_cells
  passes-every T [] = refl
  passes-every T (cell j b n lo hi ∷ q) = bool_cases (kept T j b hi) (λ z. rw (z, passes-every T q)) (λ z. rw (z, passes-every T q))

  abbrev pub cell_passes : (ℕ → Place) → Cell → Bool
  cell_passes T c = kind_passes has c && (kind_passes lacks c && (kind_passes least c && (kind_passes most c && every_passes T c)))

  -- a written place passes if each of its cells does
  pub written-passes : (T : ℕ → Place) (q : List Cell) → passes (written T q) ≡ all_cells (cell_passes T) q
  unfolding written
  written-passes T q =
      passes-kind has q _ ∙ rw (passes-kind lacks q, passes-kind least q, passes-kind most q, passes-every T q)
      (rw (cells-and (kind_passes most) (every_passes T) q)
      (rw (cells-and (kind_passes least) (λ c. kind_passes most c && every_passes T c) q)
      (rw (cells-and (kind_passes lacks) (λ c. kind_passes least c && (kind_passes most c && every_passes T c)) q)
      (cells-and (kind_passes has) (λ c. kind_passes lacks c && (kind_passes least c && (kind_passes most c && every_passes T c))) q))))
