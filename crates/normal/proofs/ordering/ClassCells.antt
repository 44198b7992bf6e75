-- The cells of a place, from its two runs, are those that its slots give, in order.
-- Assumes nothing.
use Prim.Native.Nat.{◌%◌, ◌*◌, ◌+◌, ◌/◌, ◌<◌, ◌≤◌, ℕ}
use lib.Dec.{eqb, leb}
use lib.ListN.{get_or}
use mathlib.Core.Bool.{Bool, false, true}
use mathlib.Core.List.Memᴰ
use mathlib.Core.List.{List, Memᴰ, [], ◌++◌, ◌∷◌}
use mathlib.Core.Logic.{⊎_elim}
use mathlib.Core.Path.{◌∙◌, ◌≡◌, ap, refl, sym}
use native.Mathlib.Omega.{arith}
use Rattle.base.proofs.AscendingLaws.{sort-within, within-sort}
use Rattle.base.proofs.Tests.{bool_cases, tests}
use Rattle.base.specs.Ascending.{AllAfter, Sorted}
use Rattle.base.specs.Range.{bit}
use Rattle.logic.proofs.PlaceTrees.Order.{before-eq, before-lt}
use Rattle.logic.specs.Background.{Background, LawfulBackground}
use Rattle.logic.specs.Place.{Atom}
use Rattle.logic.specs.Tree.{Row}
use Rattle.normal.proofs.ordering.TagLaws.{plain_tags, slot_of, slot_cell, slot_tag, tag-there, tags-table}
use Rattle.normal.specs.code.ClassRuns.{cell_at, place_cells, run_cells}
use Rattle.passes.proofs.Emission.Exact.{arranged}
use Rattle.passes.proofs.Emission.TagParts.{part-tag, tag-part, tags-cells}
use Rattle.passes.specs.code.Pipeline.{before_cell, sorted_cells, tag, tags}
use Rattle.passes.specs.code.Restrict.{slots_under}
use Rattle.passes.specs.code.Slots.{Cell, cells, settled}
use Rattle.runs.proofs.TagsListed.{lower_name, names-rise, tag-from, tag-listed, tag-name-is, tag-slot-is}
use Rattle.runs.specs.code.Chained.{run_at}
use Rattle.runs.specs.code.Tagged.{tag_of, tags_down}
use Rattle.slots.specs.code.Tables.{key_in, slots_from}
use Rattle.sorting.proofs.Rising.{sorted-map}
use Rattle.sorting.specs.Sorted.{sorted}

-- ---- two sorted lists in a row

module _ {A : Type 0} (lt : A → A → Bool) where
  after-append : (x : A) (q r : List A) → AllAfter lt x q → AllAfter lt x r → AllAfter lt x (q ++ r)
  after-append x [] r a b = b
  after-append x (y ∷ q) r a b = (a.0, after-append x q r a.1 b)

  after-all : (x : A) (r : List A) → ((y : A) → Memᴰ y r → lt x y ≡ true) → AllAfter lt x r
  after-all x [] f = tt
  after-all x (y ∷ r) f = (f y (Memᴰ.head refl), after-all x r (λ z m. f z (Memᴰ.tail m)))

  sorted-append : (q r : List A) → Sorted lt q → Sorted lt r → ((x y : A) → Memᴰ x q → Memᴰ y r → lt x y ≡ true) → Sorted lt (q ++ r)
  sorted-append [] r s s' f = s'
  sorted-append (x ∷ q) r s s' f = (
    after-append x q r s.0 (after-all x r (λ y m. f x y (Memᴰ.head refl) m)),
    sorted-append q r s.1 s' (λ y z m n. f y z (Memᴰ.tail m) n),
  )

-- ---- the cells of a run

module _ (t : List ℕ) (used : ℕ) (few : used ≤ 1008) (apart : (i j : ℕ) → 1 ≤ i → i < j → j ≤ used → eqb (key_in (get_or t i 0)) (key_in (get_or t j 0)) ≡ false) where
  -- they ascend by name
  run-sorted : (v : ℕ) (b : Bool) → Sorted before_cell (run_cells t used v b)
  run-sorted v b =
      sorted-map (cell_at t b) lower_name before_cell (sorted (tags_down t (2 * v + bit b) 0 used))
      (λ x y m n h. before-eq (bit b) (x / 1024) (bit b) (y / 1024) refl (omega tests))
      (names-rise t (2 * v + bit b) 0 used few apart)

  -- properties stand before links
  class-before : (v : ℕ) (c d : Cell) → Memᴰ c (run_cells t used v false) → Memᴰ d (run_cells t used v true) → before_cell c d ≡ true
  class-before v c d m n =
      let p = Memᴰ.of_map (cell_at t false) (sorted (tags_down t (2 * v + 0) 0 used)) m in
      let q = Memᴰ.of_map (cell_at t true) (sorted (tags_down t (2 * v + 1) 0 used)) n in
      rw (← p.2, ← q.2) (before-lt 0 (p.0 / 1024) 1 (q.0 / 1024) (omega arith))

  pub place-sorted : (v : ℕ) → Sorted before_cell (place_cells t used v)
  unfolding place_cells
  place-sorted v = sorted-append before_cell (run_cells t used v false) (run_cells t used v true) (run-sorted v false) (run-sorted v true) (class-before v)

  -- ---- and are those of the slots

  -- the cell of slot j, as its tag gives it
  cell_same : (j : ℕ) (b : Bool) → j ≤ used → b ≡ eqb (key_in (get_or t j 0) / 65536 % 2) 1 → cell_at t b (tag_of (get_or t j 0) j) ≡ slot_cell t j
  cell_same j b h e =
      let k : j < 1024 = omega arith in
      rw (tag-slot-is (get_or t j 0) {j = j} k, tag-name-is (get_or t j 0) {j = j} k, e)

  -- the class of a run's slots, and their place
  run-class : (j v : ℕ) (b : Bool) → run_at t j ≡ 2 * v + bit b → (b ≡ eqb (key_in (get_or t j 0) / 65536 % 2) 1) × (key_in (get_or t j 0) / 131072 ≡ v)
  run-class j v true e = (let q : eqb (key_in (get_or t j 0) / 65536 % 2) 1 ≡ true = omega (tests, e) in sym q, omega (arith, e))
  run-class j v false e = (let q : eqb (key_in (get_or t j 0) / 65536 % 2) 1 ≡ false = omega (tests, e) in sym q, omega (arith, e))

  module _ {back : Background} (law : LawfulBackground back) (rs : List (Row Atom ℕ)) (slotted : slots_from t 1 used ≡ settled 1 (slots_under back rs)) where
    same : tags 1 (slots_under back rs) ≡ plain_tags 1 (slots_from t 1 used)
    same = tags-table t used (slots_under back rs) slotted

    -- a cell of a run is a cell of its place
    run-cell : (v : ℕ) (b : Bool) (c : Cell) → Memᴰ c (run_cells t used v b) → Memᴰ c (cells 1 (slots_under back rs) v)
    run-cell v b c m =
        let p = Memᴰ.of_map (cell_at t b) (sorted (tags_down t (2 * v + bit b) 0 used)) m in
        let T = tag-from t (2 * v + bit b) 0 used p.0 (sort-within leb (tags_down t (2 * v + bit b) 0 used) p.0 p.1) in
        let j : ℕ = T.at in
        let r = run-class j v b T.run in
        let is : c ≡ slot_cell t j = sym p.2 ∙ ap (cell_at t b) T.is ∙ cell_same j b T.to r.0 in
        let at : slot_tag t j ≡ tag v c = ap (λ (u : ℕ). tag u (slot_cell t j)) r.1 ∙ ap (λ (d : Cell). tag v d) (sym is) in
        rw (← (tags-cells 1 (slots_under back rs) v)) (tag-part (tags 1 (slots_under back rs)) v c (rw same (Memᴰ.cast (sym at) (tag-there t 1 used j T.from (omega (arith, T.to))))))

    -- a slot's cell is one of its run
    slot-cell : (j v : ℕ) (b : Bool) → 1 ≤ j → j ≤ used → run_at t j ≡ 2 * v + bit b → Memᴰ (slot_cell t j) (run_cells t used v b)
    slot-cell j v b lo hi e =
        Memᴰ.cast (sym (cell_same j b hi (run-class j v b e).0))
        (Memᴰ.map (cell_at t b) (within-sort leb (tags_down t (2 * v + bit b) 0 used) _ (tag-listed t (2 * v + bit b) 0 used j lo hi e (omega arith))))

    -- and a cell of a place is one of its runs
    cell-run : (v : ℕ) (c : Cell) → Memᴰ c (cells 1 (slots_under back rs) v) → Memᴰ c (place_cells t used v)
    unfolding place_cells
    cell-run v c m =
        let N = slot_of t 1 used (tag v c) (rw same at (part-tag (tags 1 (slots_under back rs)) v c (rw (← (tags-cells 1 (slots_under back rs) v)) at m))) in
        let j : ℕ = N.at in
        let hi : j ≤ used = omega (arith, N.to) in
        let key : ℕ = key_in (get_or t j 0) in
        let e : tag (key / 131072) (slot_cell t j) ≡ tag v c = sym N.is in
        let place : key / 131072 ≡ v = cc in
        let is : slot_cell t j ≡ c = cc in
        bool_cases (eqb (key / 65536 % 2) 1)
        (λ q. Memᴰ.append_right (run_cells t used v false) (Memᴰ.cast (sym is) (slot-cell j v true N.from hi (omega (tests, q, place)))))
        (λ q. Memᴰ.append_left (run_cells t used v true) (Memᴰ.cast (sym is) (slot-cell j v false N.from hi (omega (tests, q, place)))))

    -- so they are the sorted ones
    pub runs-arranged : place_cells t used ≡ sorted_cells (slots_under back rs)
    unfolding place_cells
    runs-arranged =
        arranged law rs (place_cells t used) place-sorted cell-run
        (λ v c m. ⊎_elim (run-cell v false c) (run-cell v true c) (Memᴰ.append_cases (run_cells t used v false) m))
