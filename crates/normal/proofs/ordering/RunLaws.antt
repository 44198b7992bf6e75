-- A run's tags, gathered and sorted: which they are, and what they hold.
-- Assumes nothing.
use Prim.Native.Nat.{◌%◌, ◌*◌, ◌+◌, ◌<◌, ◌≤◌, ℕ}
use lib.Dec.{leb}
use lib.ListN.{drop, get_or, length, length-append, take}
use lib.Seq.{length-take-le, take_at, take-append_seam}
use mathlib.Core.Bool.{Bool}
use mathlib.Core.List.{List, ◌++◌, map}
use mathlib.Core.Path.{◌∙◌, ◌≡◌, ap}
use native.Mathlib.Omega.{arith}
use Rattle.base.proofs.AscendingLaws.{sort-within}
use Rattle.base.proofs.Elements.{member-at}
use Rattle.base.proofs.StoresLaws.{length-stored, stored-front}
use Rattle.base.specs.Range.{bit}
use Rattle.base.specs.Stores.{stored}
use Rattle.normal.specs.code.ClassRuns.{Chained, InOrder, Runnable, Tagged, cell_at, run_cells}
use Rattle.runs.proofs.RunsFound.{gathered-all}
use Rattle.runs.proofs.TagsListed.{TagFrom, length-tags, tag-from, tag-holds-name, tag-holds-slot}
use Rattle.runs.specs.code.Tagged.{tags_down}
use Rattle.runs.specs.code.Walked.{gathered}
use Rattle.slots.specs.code.TablePlaces.{used_in}
use Rattle.sorting.proofs.SortedList.{length-sorted}
use Rattle.sorting.specs.Sorted.{sorted}

-- ---- gathered, and sorted

module _ {t last before : List ℕ} (R : Runnable t) (C : Chained t last before) {r : ℕ} (small : r < 2 * length t) (order : List ℕ) (room : used_in t ≤ length order) where
  gathers : gathered t last before r 0 (length order) ≡ tags_down t r 0 (used_in t)
  gathers = gathered-all t last before C.chains (omega (arith, R.some')) (omega (arith, R.some', C.befores)) (omega (arith, small, C.wide)) 0 room

  fits : length (gathered t last before r 0 (length order)) ≤ length order
  fits = omega (arith, ap length gathers, length-tags t r 0 (used_in t), room)

  module _ {n : ℕ} {order₁ : List ℕ} (many : n ≡ length (gathered t last before r 0 (length order))) (stores : order₁ ≡ stored order 0 (gathered t last before r 0 (length order))) where
    pub gathered-fits : n ≤ length order₁
    gathered-fits = omega (arith, many, fits, ap length stores, length-stored order (gathered t last before r 0 (length order)) 0)

    gathered-first : take n order₁ ≡ tags_down t r 0 (used_in t)
    gathered-first = rw (many, stores, stored-front order (gathered t last before r 0 (length order)) fits) (take-append_seam _ _ ∙ gathers)

    -- the first n are lent to be sorted, and stand in their place again
    pub run-sorted : {ys : List ℕ} → ys ≡ sorted (take n order₁) → InOrder t r (ys ++ drop n order₁) n
    run-sorted {ys} e =
        let size : length ys ≡ n = ap length e ∙ length-sorted (take n order₁) ∙ length-take-le n order₁ gathered-fits in
        record {
          fits = omega (arith, size, length-append ys (drop n order₁));
          held = take_at ys (drop n order₁) n size ∙ e ∙ ap (λ (z : List ℕ). sorted z) gathered-first;
        }

-- ---- what the tags hold

module _ {t : List ℕ} (R : Runnable t) {r : ℕ} {z : List ℕ} {n : ℕ} (O : InOrder t r z n) where
  abbrev tags : List ℕ
  tags = sorted (tags_down t r 0 (used_in t))

  -- each is the tag of a slot
  tag_at : (i : ℕ) → i < length tags → TagFrom t r 0 (used_in t) (get_or tags i 0)
  tag_at i h = tag-from t r 0 (used_in t) _ (sort-within leb (tags_down t r 0 (used_in t)) _ (member-at 0 tags i h))

  few : used_in t ≤ 1008
  few = omega (arith, R.few)

  slot-at : (i : ℕ) (h : i < length tags) → get_or tags i 0 % 1024 ≡ (tag_at i h).at
  slot-at i h = tag-holds-slot t r 0 (used_in t) few (tag_at i h)

  pub run-tagged : Tagged t (take n z)
  run-tagged =
      rw O.held
      (record {
        slot = λ i h. omega (arith, slot-at i h, (tag_at i h).to, R.some');
        bound = λ i h. rw (slot-at i h) (R.bound (tag_at i h).at (tag_at i h).from (tag_at i h).to);
        name = λ i h. omega (arith, tag-holds-name t r 0 (used_in t) few (tag_at i h));
      })

-- ---- their cells

pub cells-run : (t : List ℕ) (v : ℕ) (b : Bool) {r : ℕ} {z : List ℕ} {n : ℕ} → r ≡ 2 * v + bit b → InOrder t r z n → map (cell_at t b) (take n z) ≡ run_cells t (used_in t) v b
cells-run t v b e O = ap (map (cell_at t b)) (O.held ∙ ap (λ (k : ℕ). sorted (tags_down t k 0 (used_in t))) e)
