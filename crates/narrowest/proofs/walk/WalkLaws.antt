-- The walk over the rows as they are written, which stops where there are more than there is room for.
-- Assumes nothing.
use Prim.Native.Nat.{◌%◌, ◌+◌, ◌/◌, ◌<◌, ◌≤◌, ℕ}
use lib.ListN.{get_or, length, length-map, length-replicate, replicate, take}
use lib.Seq.{length-take-le}
use mathlib.Core.List.{List, map}
use mathlib.Core.Path.{◌∙◌, ◌≡◌, ap, refl, sym}
use native.Mathlib.Omega.{arith}
use Rattle.base.proofs.Tests.{eq-cases, lt-cases}
use Rattle.blocks.specs.declared.Entry.{Entry}
use Rattle.logic.proofs.TreeRows.FillLaws.{Codes}
use Rattle.logic.proofs.TreeRows.LaidWalk.{Walking, top-least, walking-done, walking-least, walking-next, walking-place, walking_start}
use Rattle.logic.specs.Laying.{Joint, codes, joints, leaves}
use Rattle.logic.specs.Layout.{write}
use Rattle.logic.specs.Place.{Atom, Place}
use Rattle.narrowest.proofs.meant.UnfoldLaws.{codes-good, unfolds}
use Rattle.narrowest.proofs.placed.PlacedLaws.{placed-joined}
use Rattle.narrowest.specs.code.Codes.{atoms_in, knots, tree_by}
use Rattle.narrowest.specs.code.Forms.{Held, entries_in}
use Rattle.narrowest.specs.code.Knots.{Placed, StepBelow}
use Rattle.narrowest.specs.code.Mates.{GoodCode, Walkable}
use Rattle.narrowest.specs.code.Pushes.{Counted, row_number}
use Rattle.unfolding.specs.code.Rows.{entry_of_row}

-- the rows of all places
abbrev pub all_numbers : List ℕ → List ℕ → List ℕ → List ℕ
all_numbers P a b = map row_number (write (tree_by P (entries_in a) (entries_in b) 0))

-- so far: where all found room, a walk whose places from row i on are still to do; else the whole has no room
pub record Walked (P a b F : List ℕ) (cap i : ℕ) (rows : List ℕ) (count : ℕ) (below : List ℕ) : Type 0 where
  pub walkable : Walkable P a b F
  pub size : length rows ≡ cap
  pub wide : length below ≡ cap + 1
  pub most : count ≤ cap + 1
  pub going : count ≤ cap
      → Walking cap (tree_by P (entries_in a) (entries_in b)) row_number (GoodCode P (entries_in a) (entries_in b) walkable.mates) (all_numbers P a b) i rows count below
  pub over : cap < count → cap < length (all_numbers P a b)

module _ {P a b F : List ℕ} (W : Walkable P a b F) (HA : Held a) (HB : Held b) where
  abbrev one : List Entry
  one = entries_in a

  abbrev two : List Entry
  two = entries_in b

  abbrev T : ℕ → Place
  T = tree_by P one two

  abbrev L : ℕ → List Atom
  L c = atoms_in P one two (c / 1024) (c % 1024)

  abbrev N : ℕ → List (Joint ℕ)
  N c = knots one two F (c / 1024) (c % 1024)

  abbrev Fine : ℕ → Type 0
  Fine c = GoodCode P one two W.mates c

  opens : (c : ℕ) → Fine c → T c ≡ leaves (L c) (joints T (N c))
  opens c g = unfolds W.joinable HA HB W.mated W.settled g (omega arith)

  good : (c : ℕ) → Fine c → Codes Fine (codes (N c))
  good c g = codes-good W.joinable HA HB W.mated W.settled g (omega arith)

  top : Fine 0
  top = record { low = omega arith; low-second = omega arith; first = W.joinable.first; second = W.joinable.second; mate = λ z y. absurd (z refl) }

  pub walked-start : {cap : ℕ} {rows rows' below below' : List ℕ} {count : ℕ} → below ≡ replicate (cap + 1) 0
      → Placed cap rows 0 0 (atoms_in P one two 0 0) (knots one two F 0 0) below rows' count below' → Walked P a b F cap 1 rows' count below'
  walked-start {cap} {below = below} {count = count} e p =
      let least = top-least cap T L N Fine opens good row_number 0 top in
      record {
        walkable = W;
        size = p.pushed.size;
        wide = p.wide ∙ ap length e ∙ length-replicate {A = ℕ} (cap + 1) 0;
        most = omega (arith, p.pushed.total);
        going = λ l. let q = placed-joined p l in walking_start cap T L N Fine opens good row_number 0 top e q.0 q.1;
        over = λ l. omega (arith, p.pushed.total, least, l);
      }

  row-step : {cap i : ℕ} {rows : List ℕ} {count : ℕ} {below rows' below' : List ℕ} {count' : ℕ} → Walking cap T row_number Fine (all_numbers P a b) i rows count below
      → length rows ≡ cap → length below ≡ cap + 1 → count ≤ cap → i ≤ count → StepBelow P one two F cap i rows count below rows' count' below' → Walked P a b F cap (i + 1) rows' count' below'
  row-step {cap} {i} {rows} {count} {below} {rows'} {below'} {count'} h size wide m l s =
      eq-cases (get_or below i 0) 0
      (λ z.
      let p = s.passed z in
      rw (p.0, p.1, p.2) (record {
        walkable = W;
        size = size;
        wide = wide;
        most = omega (arith, m);
        going = λ n. walking-next cap T L N Fine opens good row_number h l z;
        over = λ n. absurd (omega (arith, n, m));
      }))
      (λ z.
      let p = s.placed z in
      let least = walking-least cap T L N Fine opens good row_number h l z in
      record {
        walkable = W;
        size = p.pushed.size;
        wide = p.wide ∙ wide;
        most = omega (arith, p.pushed.total);
        going = λ n. let q = placed-joined p n in walking-place cap T L N Fine opens good row_number h l z q.0 q.1;
        over = λ n. omega (arith, p.pushed.total, least, n);
      })

  rows-done : {cap i : ℕ} {rows : List ℕ} {count : ℕ} {below : List ℕ} → Walking cap T row_number Fine (all_numbers P a b) i rows count below → count < i
      → take count rows ≡ all_numbers P a b
  rows-done {cap} h d = walking-done cap T L N Fine opens good row_number h d

module _ {P a b F : List ℕ} (HA : Held a) (HB : Held b) {cap i : ℕ} {rows : List ℕ} {count : ℕ} {below : List ℕ} (w : Walked P a b F cap i rows count below) where
  -- the places of a code are numbers of entries
  pub walked-code : count ≤ cap → get_or below i 0 < 1033216
  walked-code m =
      eq-cases (get_or below i 0) 0
      (λ z. omega (arith, z))
      (λ z.
      let g = (w.going m).goods i z in
      omega (arith, g.low, length-map a entry_of_row, HA.few))

  pub walked-step : {rows' below' : List ℕ} {count' : ℕ} → i ≤ count → count ≤ cap → StepBelow P (entries_in a) (entries_in b) F cap i rows count below rows' count' below'
      → Walked P a b F cap (i + 1) rows' count' below'
  walked-step l m s = row-step w.walkable HA HB (w.going m) w.size w.wide m l s

  -- all rows are done, or there are too many
  pub walked-done : (rows₀ : List ℕ) → (count ≤ cap → count < i) → Counted cap rows₀ 0 (all_numbers P a b) rows count
  walked-done rows₀ d =
      lt-cases cap count
      (λ l.
      let o = w.over l in
      record { size = w.size; total = omega (arith, w.most, l, o); held = λ f. absurd (omega (arith, f, o)) })
      (λ l.
      let e = rows-done w.walkable HA HB (w.going l) (d l) in
      let n : count ≡ length (all_numbers P a b) = sym (length-take-le count rows (omega (arith, w.size, l))) ∙ ap length e in
      record { size = w.size; total = omega (arith, n, l); held = λ f. e })
