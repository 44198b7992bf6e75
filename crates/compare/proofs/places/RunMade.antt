-- The tags of a place and class, gathered, with the one that is asked for, and sorted: a run.
-- Assumes nothing.
use Prim.Native.Nat.{◌*◌, ◌+◌, ◌<◌, ◌≤◌, ℕ}
use lib.Dec.{eqb}
use lib.ListN.{drop, length, length-append, take}
use lib.Seq.{length-take-le, take_at, take-append_seam}
use mathlib.Core.Bool.{Bool, false, not, true}
use mathlib.Core.List.{List, [], ◌++◌, ◌∷◌, append-nil}
use mathlib.Core.Path.{◌∙◌, ◌≡◌, ap}
use native.Mathlib.Omega.{arith}
use Rattle.base.proofs.StoresLaws.{length-stored, stored-front}
use Rattle.base.proofs.Tests.{bool_cases}
use Rattle.base.specs.Range.{bit}
use Rattle.base.specs.Stores.{stored}
use Rattle.compare.proofs.places.RunLaws.{listed_by, listed_tags, run-asked, run-listed}
use Rattle.compare.proofs.places.RunWalks.{gathered-listed}
use Rattle.compare.specs.code.Asked.{One}
use Rattle.compare.specs.code.Tags.{Gathered, Run, extra_tags, tag_unless, taken_over}
use Rattle.normal.specs.code.ClassRuns.{Chained}
use Rattle.logic.specs.Filling.{Filled}
use Rattle.logic.specs.Normal.{find, found}
use Rattle.logic.specs.Place.{Kind, has, least}
use Rattle.passes.specs.code.Slots.{is_link}
use Rattle.runs.proofs.TagsListed.{length-tags}
use Rattle.runs.specs.code.Tagged.{tags_down}
use Rattle.runs.specs.code.Walked.{gathered}
use Rattle.slots.specs.code.TablePlaces.{Stood, least_in, place_in, slot_by, used_in}
use Rattle.sorting.proofs.SortedList.{length-sorted}
use Rattle.sorting.specs.Sorted.{sorted}

-- at most one tag is added
extra-few : (t : List ℕ) (v : ℕ) (b : Bool) (ys : List ℕ) → length (extra_tags t v b ys) ≤ 1
unfolding tag_unless
extra-few t v b [] = omega arith
extra-few t v b (x ∷ xs) = bool_cases (eqb (least_in t (slot_by t v b x)) 0) (λ q. rw q (omega arith)) (λ q. rw q (omega arith))

module _ {t last before : List ℕ} (S : Stood t) (C : Chained t last before) (v : ℕ) (b : Bool) {r : ℕ} (e : r ≡ 2 * v + bit b)
    (order : List ℕ) (room : length t ≤ length order) {n : ℕ} {order₁ : List ℕ} (many : n ≡ length (gathered t last before r 1 (length order)))
    (stores : order₁ ≡ stored order 0 (gathered t last before r 1 (length order))) where
  gathers : gathered t last before r 1 (length order) ≡ listed_tags S v b
  gathers = ap (λ (k : ℕ). gathered t last before k 1 (length order)) e ∙ gathered-listed S C v b (omega arith)

  few : length (listed_tags S v b) ≤ used_in t
  few = length-tags t (2 * v + bit b) 1 (used_in t)

  -- there is room for one tag more
  pub gathered-room : n < length order₁
  gathered-room = omega (arith, ap length stores, length-stored order (gathered t last before r 1 (length order)) 0, many, ap length gathers, few, S.some')

  gathered-first : take n order₁ ≡ listed_tags S v b
  gathered-first =
      let fits : length (gathered t last before r 1 (length order)) ≤ length order = omega (arith, ap length gathers, few) in
      rw (many, stores, stored-front order (gathered t last before r 1 (length order)) fits) (take-append_seam _ _ ∙ gathers)

  -- with the tag of the name that is asked for
  pub gathered-with : (ys : List ℕ) {order₂ : List ℕ} {k : ℕ} → Filled (length order₁) order₁ n (extra_tags t v b ys) order₂ k → Gathered t v b ys order₂ k
  gathered-with ys f = record { fits = omega (arith, f.total, f.size, extra-few t v b ys, gathered-room); held = f.held ∙ rw gathered-first }

-- ---- sorted, they are a run

-- of a kind whose slots are known
runs : {t : List ℕ} (S : Stood t) (v : ℕ) (a : Kind) (ys : List ℕ) → ((m : ℕ) → found (find a m (place_in t v)) ≡ not (eqb (least_in t (slot_by t v (is_link a) m)) 0)) → One ys
    → Run t v a ys (sorted (listed_tags S v (is_link a) ++ extra_tags t v (is_link a) ys))
runs S v a [] by o = rw (append-nil (listed_tags S v (is_link a))) (run-listed S v a by)
runs S v a (p ∷ []) by o = run-asked S v a by p o
runs S v a (p ∷ q ∷ zs) by o = absurd o

run-made : {t : List ℕ} (S : Stood t) (v : ℕ) (b : Bool) (ys : List ℕ) {xs : List ℕ} → One ys
    → xs ≡ sorted (tags_down t (2 * v + bit b) 1 (used_in t) ++ extra_tags t v b ys) → Run t v (taken_over b) ys xs
run-made S v false ys o e = rw e (runs S v has ys (λ m. (listed_by S v m).0) o)
run-made S v true ys o e = rw e (runs S v least ys (λ m. (listed_by S v m).1) o)

-- the first n are lent to be sorted, and stand in their place again
pub run_sorted : {t : List ℕ} (S : Stood t) (v : ℕ) (b : Bool) (ys : List ℕ) {order zs : List ℕ} {n : ℕ} → One ys → Gathered t v b ys order n
    → zs ≡ sorted (take n order) → (n ≤ length (zs ++ drop n order)) × Run t v (taken_over b) ys (take n (zs ++ drop n order))
run_sorted S v b ys {order} {zs} {n} o g e =
    let size : length zs ≡ n = ap length e ∙ length-sorted (take n order) ∙ length-take-le n order g.fits in (
      omega (arith, size, length-append zs (drop n order)),
      run-made S v b ys o (take_at zs (drop n order) n size ∙ e ∙ ap (λ (z : List ℕ). sorted z) g.held),
    )
