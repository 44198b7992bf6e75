-- The rows of a place, from its two runs: a run gives rows of its own class only.
-- Assumes nothing.
use Prim.Native.Nat.{◌*◌, ◌+◌, ◌≤◌, ℕ}
use lib.ListN.{length, length-append, take}
use mathlib.Core.Bool.{Bool, cond, false, true}
use mathlib.Core.List.{List, [], ◌++◌, ◌∷◌, append_assoc, append-nil, map}
use mathlib.Core.Option.{Option}
use mathlib.Core.Path.{◌∙◌, ◌≡◌, ap, refl, sym}
use native.Mathlib.Omega.{arith}
use Rattle.base.proofs.Tests.{bool_cases}
use Rattle.base.specs.Range.{bit}
use Rattle.logic.specs.Place.{Atom, Kind, has, lacks, least, most, nothing}
use Rattle.logic.specs.Tree.{Row}
use Rattle.normal.proofs.emit.PushLaws.{pushed_more, pushed-total}
use Rattle.normal.proofs.ordering.RunLaws.{cells-run}
use Rattle.normal.specs.code.ClassRuns.{InOrder, cell_at, place_cells, run_cells}
use Rattle.normal.specs.code.Emitted.{Placing, Pushed, atom_rows, bound_rows, every_rows, every_slots, keep_in, kind_rows, place_rows, property_rows, rows_if}
use Rattle.passes.specs.code.Slots.{Cell, cell, is_link, same_class, value}
use Rattle.runs.specs.code.Tagged.{tags_down}
use Rattle.slots.specs.code.TablePlaces.{used_in}
use Rattle.sorting.specs.Sorted.{sorted}

-- ---- cells in a row

kinds-append : (a : Kind) (o : ℕ) (p q : List Cell) → kind_rows a o (p ++ q) ≡ kind_rows a o p ++ kind_rows a o q
unfolding kind_rows
kinds-append a o [] q = refl
kinds-append a o (cell j b n lo hi ∷ p) q =
    rw (kinds-append a o p q) (sym (append_assoc (cond (same_class b (is_link a)) (rows_if a o n (value a lo hi)) []) (kind_rows a o p) (kind_rows a o q)))

every_append : (keep : ℕ → Bool → Option ℕ → Bool) (o : ℕ) (p q : List Cell) → every_rows keep o (p ++ q) ≡ every_rows keep o p ++ every_rows keep o q
unfolding every_rows
every_append keep o [] q = refl
every_append keep o (cell j b n lo hi ∷ p) q = bool_cases (keep j b hi) (λ z. rw (z, every_append keep o p q)) (λ z. rw (z, every_append keep o p q))

pub slots-append : (keep : ℕ → Bool → Option ℕ → Bool) (p q : List Cell) → every_slots keep (p ++ q) ≡ every_slots keep p ++ every_slots keep q
unfolding every_slots
slots-append keep [] q = refl
slots-append keep (cell j b n lo hi ∷ p) q = bool_cases (keep j b hi) (λ z. rw (z, slots-append keep p q)) (λ z. rw (z, slots-append keep p q))

-- ---- cells of the other class

kinds-other : (a : Kind) (o : ℕ) (t : List ℕ) (b : Bool) (xs : List ℕ) → same_class b (is_link a) ≡ false → kind_rows a o (map (cell_at t b) xs) ≡ []
unfolding kind_rows
kinds-other a o t b [] e = refl
kinds-other a o t b (x ∷ xs) e = rw (kind_rows, e, kinds-other a o t b xs e)

every-none : (full : List ℕ) (o : ℕ) (t xs : List ℕ) → every_rows (keep_in full) o (map (cell_at t false) xs) ≡ []
unfolding every_rows
every-none full o t [] = refl
every-none full o t (x ∷ xs) = every-none full o t xs

slots-none : (full t xs : List ℕ) → every_slots (keep_in full) (map (cell_at t false) xs) ≡ []
unfolding every_slots
slots-none full t [] = refl
slots-none full t (x ∷ xs) = slots-none full t xs

-- ---- the rows of a place are those of the run of their class

module _ (t : List ℕ) (used v : ℕ) where
  first_kind : (a : Kind) (o : ℕ) → same_class true (is_link a) ≡ false → kind_rows a o (place_cells t used v) ≡ kind_rows a o (run_cells t used v false)
  unfolding place_cells
  first_kind a o e = kinds-append a o (run_cells t used v false) (run_cells t used v true) ∙ ap (λ (l : List (Row Atom ℕ)). kind_rows a o (run_cells t used v false) ++ l) (kinds-other a o t true (sorted (tags_down t (2 * v + 1) 0 used)) e) ∙ append-nil _

  second-kind : (a : Kind) (o : ℕ) → same_class false (is_link a) ≡ false → kind_rows a o (place_cells t used v) ≡ kind_rows a o (run_cells t used v true)
  unfolding place_cells
  second-kind a o e = kinds-append a o (run_cells t used v false) (run_cells t used v true) ∙ ap (λ (l : List (Row Atom ℕ)). l ++ kind_rows a o (run_cells t used v true)) (kinds-other a o t false (sorted (tags_down t (2 * v + 0) 0 used)) e)

  kind-place : (a : Kind) (o : ℕ) → kind_rows a o (place_cells t used v) ≡ kind_rows a o (run_cells t used v (is_link a))
  kind-place has o = first_kind has o refl
  kind-place lacks o = first_kind lacks o refl
  kind-place least o = second-kind least o refl
  kind-place most o = second-kind most o refl
  kind-place nothing o = first_kind nothing o refl

  every-place : (full : List ℕ) (o : ℕ) → every_rows (keep_in full) o (place_cells t used v) ≡ every_rows (keep_in full) o (run_cells t used v true)
  unfolding place_cells
  every-place full o =
      every_append (keep_in full) o (run_cells t used v false) (run_cells t used v true) ∙ ap (λ (l : List (Row Atom ℕ)). l ++ every_rows (keep_in full) o (run_cells t used v true)) (every-none full o t (sorted (tags_down t (2 * v + 0) 0 used)))

  slots-place : (full : List ℕ) → every_slots (keep_in full) (place_cells t used v) ≡ every_slots (keep_in full) (run_cells t used v true)
  unfolding place_cells
  slots-place full =
      slots-append (keep_in full) (run_cells t used v false) (run_cells t used v true) ∙ ap (λ (l : List ℕ). l ++ every_slots (keep_in full) (run_cells t used v true)) (slots-none full t (sorted (tags_down t (2 * v + 0) 0 used)))

-- from tags in order
module _ (t : List ℕ) (v : ℕ) {r : ℕ} {z : List ℕ} {n : ℕ} (O : InOrder t r z n) where
  pub kind-run : (a : Kind) (o : ℕ) → r ≡ 2 * v + bit (is_link a) → kind_rows a o (map (cell_at t (is_link a)) (take n z)) ≡ kind_rows a o (place_cells t (used_in t) v)
  kind-run a o e = ap (kind_rows a o) (cells-run t v (is_link a) e O) ∙ sym (kind-place t (used_in t) v a o)

  pub every-run : (full : List ℕ) (o : ℕ) → r ≡ 2 * v + 1 → every_rows (keep_in full) o (map (cell_at t true) (take n z)) ≡ every_rows (keep_in full) o (place_cells t (used_in t) v)
  every-run full o e = ap (every_rows (keep_in full) o) (cells-run t v true e O) ∙ sym (every-place t (used_in t) v full o)

  pub slots-run : (full : List ℕ) → r ≡ 2 * v + 1 → every_slots (keep_in full) (map (cell_at t true) (take n z)) ≡ every_slots (keep_in full) (place_cells t (used_in t) v)
  slots-run full e = ap (every_slots (keep_in full)) (cells-run t v true e O) ∙ sym (slots-place t (used_in t) v full)

-- ---- lengths

pub property-length : (o : ℕ) (q : List Cell) → length (property_rows o q) ≡ length (kind_rows has o q) + length (kind_rows lacks o q)
unfolding property_rows
property-length o q = length-append (kind_rows has o q) (kind_rows lacks o q)

pub bound-length : (o : ℕ) (q : List Cell) → length (bound_rows o q) ≡ length (kind_rows least o q) + length (kind_rows most o q)
unfolding bound_rows
bound-length o q = length-append (kind_rows least o q) (kind_rows most o q)

rows_split : (keep : ℕ → Bool → Option ℕ → Bool) (o : ℕ) (q : List Cell) → place_rows keep o q ≡ property_rows o q ++ (bound_rows o q ++ every_rows keep o q)
unfolding place_rows atom_rows property_rows bound_rows
rows_split keep o q = simp (append_assoc)

atoms-length : (o : ℕ) (q : List Cell) → length (atom_rows o q) ≡ length (property_rows o q) + length (bound_rows o q)
unfolding atom_rows property_rows bound_rows
atoms-length o q =
    ap length (sym (append_assoc (kind_rows has o q) (kind_rows lacks o q) (kind_rows least o q ++ kind_rows most o q)))
    ∙ length-append (kind_rows has o q ++ kind_rows lacks o q) (kind_rows least o q ++ kind_rows most o q)

-- there is room for each part where there is for all
pub place-room : (keep : ℕ → Bool → Option ℕ → Bool) (o : ℕ) (q : List Cell) (n : ℕ) {w : ℕ} → n + length (place_rows keep o q) ≤ w
    → (n + length (property_rows o q) ≤ w) × (n + length (property_rows o q) + length (bound_rows o q ++ every_rows keep o q) ≤ w)
place-room keep o q n h =
    let e = ap length (rows_split keep o q) ∙ length-append (property_rows o q) (bound_rows o q ++ every_rows keep o q) in
    (omega (arith, e, h), omega (arith, e, h))

-- ---- pushed

pub properties-pushed : (o : ℕ) (q : List Cell) {rows rows' rows'' : List ℕ} {n n' n'' : ℕ}
    → Pushed (length rows) rows n (kind_rows has o q) rows' n' → Pushed (length rows') rows' n' (kind_rows lacks o q) rows'' n'' → Pushed (length rows) rows n (property_rows o q) rows'' n''
unfolding property_rows
properties-pushed o q p s = pushed_more (kind_rows has o q) (kind_rows lacks o q) p s

pub bounds-pushed : (o : ℕ) (q : List Cell) {rows rows' rows'' : List ℕ} {n n' n'' : ℕ}
    → Pushed (length rows) rows n (kind_rows least o q) rows' n' → Pushed (length rows') rows' n' (kind_rows most o q) rows'' n'' → Pushed (length rows) rows n (bound_rows o q) rows'' n''
unfolding bound_rows
bounds-pushed o q p s = pushed_more (kind_rows least o q) (kind_rows most o q) p s

-- rows, and then rows with slots that are noted
pub placing-after : {rows rows' rows'' below below' : List ℕ} {n n' n'' : ℕ} {js : List ℕ} (L M : List (Row Atom ℕ))
    → Pushed (length rows) rows n L rows' n' → Placing (length rows') rows' n' M below (n' + 1) js rows'' n'' below'
    → Placing (length rows) rows n (L ++ M) below (n + length L + 1) js rows'' n'' below'
placing-after L M p s = record { pushed = pushed_more L M p s.pushed; notes = s.notes ∙ rw (pushed-total L p) }

pub place-joined : (keep : ℕ → Bool → Option ℕ → Bool) (o : ℕ) (q : List Cell) {rows rows' rows'' below below' : List ℕ} {n n' n'' : ℕ}
    → Pushed (length rows) rows n (property_rows o q) rows' n'
    → Placing (length rows') rows' n' (bound_rows o q ++ every_rows keep o q) below (n' + length (bound_rows o q) + 1) (every_slots keep q) rows'' n'' below'
    → Placing (length rows) rows n (place_rows keep o q) below (n + length (atom_rows o q) + 1) (every_slots keep q) rows'' n'' below'
place-joined keep o q {n = n} {n' = n'} p s =
    let at : n' + length (bound_rows o q) + 1 ≡ n + length (atom_rows o q) + 1 = omega (arith, pushed-total (property_rows o q) p, atoms-length o q) in
    record {
      pushed = rw (rows_split keep o q) (pushed_more (property_rows o q) (bound_rows o q ++ every_rows keep o q) p s.pushed);
      notes = s.notes ∙ rw at;
    }
