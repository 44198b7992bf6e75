-- The walk over the rows that are written, with the slots that they lead to in a table: that of `logic`, where the code of a place is the
-- number of its slot.
-- Assumes nothing.
use Prim.Native.Nat.{◌%◌, ◌*◌, ◌+◌, ◌<◌, ◌≤◌, ℕ}
use lib.Dec.{leb}
use lib.ListN.{get_or, length, length-map, replicate}
use lib.Seq.{length-take-le}
use mathlib.Core.Bool.{Bool, false, true}
use mathlib.Core.List.{List, Memᴰ, [], ◌++◌, ◌∷◌, map}
use mathlib.Core.Logic.{◌≢◌}
use mathlib.Core.Option.{Option}
use mathlib.Core.Path.{◌∙◌, ◌≡◌, ap, refl, subst, sym}
use native.Mathlib.Omega.{arith}
use Rattle.base.proofs.AscendingLaws.{sort-within}
use Rattle.base.proofs.Tests.{bool_cases, eq-cases}
use Rattle.base.specs.Range.{bit}
use Rattle.logic.proofs.TreeRows.FillLaws.{Codes}
use Rattle.logic.proofs.TreeRows.LaidLaws.{leaf-length}
use Rattle.logic.proofs.TreeRows.LaidWalk.{Walking, top-least, walking-done, walking-least, walking-next, walking-place, walking_start}
use Rattle.logic.specs.Filling.{Joined}
use Rattle.logic.specs.Laying.{Joint, codes, joints, leaves, place_numbers}
use Rattle.logic.specs.Layout.{write}
use Rattle.logic.specs.Place.{Atom, Place}
use Rattle.normal.proofs.emit.ClassLaws.{slots-append}
use Rattle.normal.proofs.emit.EmitLaws.{atoms-are, every-codes, numbers-are, written-places}
use Rattle.normal.specs.code.ClassRuns.{Runnable, cell_at, place_cells, run_cells}
use Rattle.normal.specs.code.Emitted.{Grown, Placing, Pushed, all_rows, atom_rows, cell_atoms, cell_joints, every_slots, keep_cell, keep_in, place_rows, row_number}
use Rattle.passes.specs.code.Forms.{written}
use Rattle.passes.specs.code.Slots.{Cell}
use Rattle.runs.proofs.TagsListed.{tag-from, tag-holds-slot}
use Rattle.runs.specs.code.Tagged.{tags_down}
use Rattle.slots.specs.code.TablePlaces.{place_in, used_in}
use Rattle.sorting.specs.Sorted.{sorted}

-- ---- slots that are noted

-- numbers of so many slots, none of them 0
abbrev pub Slotlike : ℕ → List ℕ → Type 0
Slotlike used js = Codes (λ j. j ≤ used) js

slots-like : (keep : ℕ → Bool → Option ℕ → Bool) (t : List ℕ) (b : Bool) (used : ℕ) (xs : List ℕ) → ((x : ℕ) → Memᴰ x xs → (x % 1024 ≢ 0) × (x % 1024 ≤ used))
    → Slotlike used (every_slots keep (map (cell_at t b) xs))
unfolding every_slots
slots-like keep t b used [] h = tt
slots-like keep t b used (x ∷ xs) h =
    let r = slots-like keep t b used xs (λ y m. h y (Memᴰ.tail m)) in
    let p = h x (Memᴰ.head refl) in
    bool_cases (keep_cell keep (cell_at t b x)) (λ k. rw (every_slots, k) (p.0, p.1, r)) (λ k. rw (every_slots, k) r)

like-append : (used : ℕ) (js ks : List ℕ) → Slotlike used js → Slotlike used ks → Slotlike used (js ++ ks)
like-append used [] ks a b = b
like-append used (j ∷ js) ks a b = (a.0, a.1, like-append used js ks a.2 b)

-- the slots of a run, and of a place
run-slotlike : (keep : ℕ → Bool → Option ℕ → Bool) (t : List ℕ) (v : ℕ) (b : Bool) → Runnable t → Slotlike (used_in t) (every_slots keep (run_cells t (used_in t) v b))
run-slotlike keep t v b R =
    let r : ℕ = 2 * v + bit b in
    let few : used_in t ≤ 1008 = omega (arith, R.few) in
    slots-like keep t b (used_in t) (sorted (tags_down t r 0 (used_in t))) (λ x m.
    let T = tag-from t r 0 (used_in t) x (sort-within leb (tags_down t r 0 (used_in t)) x m) in
    let e = tag-holds-slot t r 0 (used_in t) few T in
    ((λ z. omega (arith, e, z, T.from)), omega (arith, e, T.to)))

pub cells-slotlike : (keep : ℕ → Bool → Option ℕ → Bool) (t : List ℕ) (v : ℕ) → Runnable t → Slotlike (used_in t) (every_slots keep (place_cells t (used_in t) v))
unfolding place_cells
cells-slotlike keep t v R =
    rw (slots-append keep (run_cells t (used_in t) v false) (run_cells t (used_in t) v true))
    (like-append (used_in t) (every_slots keep (run_cells t (used_in t) v false)) (every_slots keep (run_cells t (used_in t) v true)) (run-slotlike keep t v false R) (run-slotlike keep t v true R))

-- ---- the walk, some done

-- the rows up to row count are in the table, and the places of the rows from row k on are still to do
abbrev pub Walk : List ℕ → ℕ → ℕ → List ℕ → ℕ → List ℕ → Type 0
Walk t cap k rows count below = Walking cap (place_in t) row_number (λ v. v ≤ used_in t) (map row_number (write (place_in t 0))) k rows count below

module _ {t full : List ℕ} (R : Runnable t) (G : Grown t full) {cap : ℕ} (room : length (all_rows t) ≤ cap) where
  abbrev T : ℕ → Place
  T = place_in t

  abbrev S : ℕ → List Cell
  S v = place_cells t (used_in t) v

  abbrev L : ℕ → List Atom
  L v = cell_atoms (S v)

  abbrev N : ℕ → List (Joint ℕ)
  N v = cell_joints (keep_in full) (S v)

  abbrev Good : ℕ → Type 0
  Good v = v ≤ used_in t

  unfolds : (v : ℕ) → Good v → T v ≡ leaves (L v) (joints T (N v))
  unfolds v g =
      G.cells v
      ∙ subst (λ (keep : ℕ → Bool → Option ℕ → Bool). written T (S v) ≡ leaves (L v) (joints T (cell_joints keep (S v)))) (sym G.keeps) (written-places T (S v))

  good : (v : ℕ) → Good v → Codes Good (codes (N v))
  good v g = rw (← every-codes (keep_in full) (S v)) (cells-slotlike (keep_in full) t v R)

  few : length (map row_number (write (T 0))) ≤ cap
  unfolding all_rows
  few =
      let r : length (write (T 0)) ≤ cap = room in
      omega (arith, length-map (write (T 0)) row_number, r)

  -- a place has as many rows as numbers
  rows-many : (o v : ℕ) → length (place_rows (keep_in full) o (S v)) ≡ length (place_numbers row_number o (L v) (N v))
  rows-many o v = sym (length-map (place_rows (keep_in full) o (S v)) row_number) ∙ ap length (numbers-are (keep_in full) o (S v))

  -- what is stored of a place, by its leaves and nodes
  joined : (o v : ℕ) {count : ℕ} {rows rows' below below' : List ℕ} {r : ℕ}
      → Placing cap rows count (place_rows (keep_in full) o (S v)) below (count + length (atom_rows o (S v)) + 1) (every_slots (keep_in full) (S v)) rows' r below'
      → Joined cap rows count (place_numbers row_number o (L v) (N v)) below (count + length (L v) + 1) (codes (N v)) rows' r below'
  joined o v p =
      let many : length (atom_rows o (S v)) ≡ length (L v) = ap length (atoms-are o (S v)) ∙ leaf-length ℕ o (L v) in
      rw (← numbers-are (keep_in full) o (S v), ← many, ← every-codes (keep_in full) (S v)) p

  -- the top's place, which has room since the whole has
  pub walk_top : 0 + length (place_rows (keep_in full) 0 (S 0)) ≤ cap
  walk_top = omega (arith, rows-many 0 0, top-least cap T L N Good unfolds good row_number 0 (omega arith), few)

  pub walk_start : {rows rows' : List ℕ} {count : ℕ} {below below' : List ℕ} → below ≡ replicate (cap + 1) 0
      → Placing cap rows 0 (place_rows (keep_in full) 0 (S 0)) below (0 + length (atom_rows 0 (S 0)) + 1) (every_slots (keep_in full) (S 0)) rows' count below'
      → Walk t cap 1 rows' count below'
  walk_start z p =
      walking_start cap T L N Good unfolds good row_number 0 (omega arith) z
      (omega (arith, top-least cap T L N Good unfolds good row_number 0 (omega arith), few)) (joined 0 0 p)

  module _ {k : ℕ} {rows : List ℕ} {count : ℕ} {below : List ℕ} (w : Walk t cap k rows count below) where
    -- rows lead to slots of the table
    pub walk-small : get_or below k 0 ≤ used_in t
    walk-small = eq-cases (get_or below k 0) 0 (λ z. omega (arith, z)) (λ z. w.goods k z)

    -- the place that row k leads to has room since the whole has
    pub walk-room : k ≤ count → get_or below k 0 ≢ 0 → count + length (place_rows (keep_in full) k (S (get_or below k 0))) ≤ cap
    walk-room l z = omega (arith, rows-many k (get_or below k 0), walking-least cap T L N Good unfolds good row_number w l z, few)

    -- row k is done: it leads nowhere, or its place is stored
    pub walk-passed : k ≤ count → get_or below k 0 ≡ 0 → Walk t cap (k + 1) rows count below
    walk-passed l z = walking-next cap T L N Good unfolds good row_number w l z

    pub walk-placed : k ≤ count → get_or below k 0 ≢ 0 → {rows' : List ℕ} {count' : ℕ} {below' : List ℕ}
        → Placing cap rows count (place_rows (keep_in full) k (S (get_or below k 0))) below (count + length (atom_rows k (S (get_or below k 0))) + 1)
        (every_slots (keep_in full) (S (get_or below k 0))) rows' count' below'
        → Walk t cap (k + 1) rows' count' below'
    walk-placed l z p =
        walking-place cap T L N Good unfolds good row_number w l z
        (omega (arith, walking-least cap T L N Good unfolds good row_number w l z, few)) (joined k (get_or below k 0) p)

    -- all rows are done
    pub walk-done : count < k → Pushed cap [] 0 (all_rows t) rows count
    unfolding all_rows
    walk-done l =
        let e = walking-done cap T L N Good unfolds good row_number w l in
        record { size = w.size; total = omega (arith, length-take-le count rows (omega (arith, w.size, w.few)), ap length e); held = e }
