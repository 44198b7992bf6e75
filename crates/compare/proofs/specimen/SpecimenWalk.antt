-- The walk over the rows of a specimen as they are written.
-- Assumes nothing.
use Prim.Native.Nat.{◌+◌, ◌<◌, ◌≤◌, ℕ}
use lib.ListN.{get_or, length, length-map, replicate, take}
use mathlib.Core.List.{List, map}
use mathlib.Core.Logic.{◌≢◌}
use mathlib.Core.Path.{◌≡◌}
use native.Mathlib.Omega.{arith}
use Rattle.base.proofs.Tests.{eq-cases}
use Rattle.blocks.specs.declared.Entry.{Entry}
use Rattle.logic.proofs.TreeRows.LaidWalk.{Walking, top-least, walking-done, walking-least, walking-next, walking-place, walking_start}
use Rattle.compare.proofs.specimen.SpecimenPlaces.{codes-good, tree_places}
use Rattle.compare.specs.code.Codes.{OnPath, PlacedBy, Stepped, Writable, joints_by, numbers_by, properties_by, specimen_number, tree_by}
use Rattle.logic.specs.Laying.{Joint, codes, joints, leaves}
use Rattle.logic.proofs.TreeRows.FillLaws.{Codes}
use Rattle.logic.specs.Layout.{write}
use Rattle.logic.specs.SpecimenTree.{Group, SpecimenTree}

-- the rows up to row count are in the table, and the places of the rows from row i on are still to do
abbrev pub Walk : List ℕ → List ℕ → ℕ → Entry → ℕ → ℕ → List ℕ → ℕ → List ℕ → Type 0
Walk t links m e cap i rows count below =
    Walking cap (tree_by t links m e) specimen_number (OnPath m) (map specimen_number (write (tree_by t links m e 1024))) i rows count below

module _ {t links : List ℕ} {m : ℕ} {e : Entry} {cap : ℕ} (w : Writable t links m e cap) where
  abbrev T : ℕ → SpecimenTree
  T = tree_by t links m e

  abbrev L : ℕ → List ℕ
  L = properties_by t links m e

  abbrev N : ℕ → List (Joint Group)
  N = joints_by t links m e

  good : (c : ℕ) → OnPath m c → Codes (OnPath m) (codes (N c))
  good c g = codes-good w.stood links m e c

  unfolds : (c : ℕ) → OnPath m c → T c ≡ leaves (L c) (joints T (N c))
  unfolds c g = tree_places w.stood links m e c

  top : OnPath m 1024
  top = omega arith

  few : length (map specimen_number (write (T 1024))) ≤ cap
  few = omega (arith, length-map (write (T 1024)) specimen_number, w.room)

  -- the top's place, which has room since the whole has
  pub walk_top : OnPath m 1024 × (0 + length (numbers_by t links m e 0 1024) ≤ cap)
  walk_top = (top, omega (arith, top-least cap T L N (OnPath m) unfolds good specimen_number 1024 top, few))

  pub walk_start : {rows rows' : List ℕ} {count : ℕ} {below below' : List ℕ} → below ≡ replicate (cap + 1) 0
      → PlacedBy t links m e cap 0 1024 rows 0 below rows' count below' → Walk t links m e cap 1 rows' count below'
  walk_start z p = walking_start cap T L N (OnPath m) unfolds good specimen_number 1024 top z walk_top.1 p

  module _ {i : ℕ} {rows : List ℕ} {count : ℕ} {below : List ℕ} (h : Walk t links m e cap i rows count below) where
    -- the place that row i leads to, which has room since the whole has
    pub walk-room : i ≤ count → get_or below i 0 ≢ 0
        → OnPath m (get_or below i 0) × (count + length (numbers_by t links m e i (get_or below i 0)) ≤ cap)
    walk-room l z = (h.goods i z, omega (arith, walking-least cap T L N (OnPath m) unfolds good specimen_number h l z, few))

    -- row i is done
    pub walk_step : {rows' : List ℕ} {count' : ℕ} {below' : List ℕ} → i ≤ count → Stepped t links m e cap i rows count below rows' count' below'
        → Walk t links m e cap (i + 1) rows' count' below'
    walk_step {rows'} {count'} {below'} l s =
        eq-cases (get_or below i 0) 0
        (λ z.
        let p = s.passed z in
        rw (p.0, p.1, p.2) (walking-next cap T L N (OnPath m) unfolds good specimen_number h l z))
        (λ z. walking-place cap T L N (OnPath m) unfolds good specimen_number h l z (walk-room l z).1 (s.placed z))

    -- all rows are done
    pub walk-done : count < i → take count rows ≡ map specimen_number (write (tree_by t links m e 1024))
    walk-done l = walking-done cap T L N (OnPath m) unfolds good specimen_number h l
