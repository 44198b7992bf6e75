-- The last passes: what the settled slots give, by the runs of each place.
-- Assumes nothing.
use Prim.Native.Nat.{◌+◌, ◌≤◌, ℕ}
use lib.Dec.{eqb}
use lib.ListN.{get_or, length, length-map, take}
use lib.Seq.{get_or-take, length-take-le}
use mathlib.Core.Bool.{Bool, ◌&&◌, false, not, true}
use mathlib.Core.List.{List, [], ◌∷◌, map}
use mathlib.Core.Logic.{◌≢◌}
use mathlib.Core.Path.{◌∙◌, ◌≡◌, ap, fun_ext, refl, subst, sym}
use native.Mathlib.Omega.{arith}
use Rattle.base.proofs.Tests.{bool_cases, eq-cases, eq-eqb, ne_eqb}
use Rattle.base.specs.Range.{bit}
use Rattle.blocks.specs.Entries.{entries_of}
use Rattle.logic.specs.Background.{Background, LawfulBackground}
use Rattle.logic.specs.Layout.{write}
use Rattle.logic.specs.Normal.{at_most, is_end, nf}
use Rattle.logic.specs.Place.{Place, atom, nothing}
use Rattle.logic.specs.Tree.{leaf_row}
use Rattle.meaning.specs.Description.{place_of, row_of}
use Rattle.normal.proofs.ordering.ClassCells.{runs-arranged}
use Rattle.normal.specs.code.ClassRuns.{Runnable, place_cells}
use Rattle.normal.specs.code.Emitted.{Grown, all_rows, keep_in, table_rows}
use Rattle.passes.proofs.Emission.Exact.{normal-exact, normal-length}
use Rattle.passes.proofs.CellPlaces.FormLists.{form-nonempty}
use Rattle.passes.proofs.CellPlaces.FormNormal.{form-top}
use Rattle.passes.proofs.CellPlaces.FormSettled.{form-settled}
use Rattle.passes.proofs.CellPlaces.Forms.{form-written}
use Rattle.passes.proofs.SlotLists.RestrictLaws.{under-early}
use Rattle.passes.specs.code.Forms.{form, kept, normal_rows, written}
use Rattle.passes.specs.code.Slots.{Cell, inconsistent, nonempty, settled}
use Rattle.slots.proofs.PassLaws.{settled-low}
use Rattle.slots.proofs.TableSearch.{front-slots}
use Rattle.slots.specs.code.TablePlaces.{place_in, used_in}
use Rattle.slots.specs.code.Tables.{Settled, Tabled, slots_of}

-- ---- the front of a table, as far as the last slot

module _ {b : Background} {d : List ℕ} {used : ℕ} {t : List ℕ} (T : Tabled b d used t) where
  pub front_length : length (take (used + 1) t) ≡ used + 1
  front_length = length-take-le (used + 1) t (omega (arith, T.room))

  front_at : (j : ℕ) → j ≤ used → get_or (take (used + 1) t) j 0 ≡ get_or t j 0
  front_at j h = get_or-take (used + 1) t j 0 (omega arith)

  -- the slots stand in it too
  front-tabled : Tabled b d used (take (used + 1) t)
  front-tabled = record {
    few = T.few;
    room = omega (arith, front_length);
    counted = T.counted;
    slotted = front-slots t (used + 1) 1 used (omega arith) ∙ T.slotted;
    apart = λ i j lo h hi. rw (front_at i (omega arith), front_at j hi) (T.apart i j lo h hi);
    lower = λ j lo hi. rw (front_at j hi) (T.lower j lo hi);
    bounded = T.bounded;
  }

  pub front-runnable : Runnable (take (used + 1) t)
  front-runnable =
      let e : used_in (take (used + 1) t) ≡ used = omega (arith, front_length) in
      let F : Tabled b d (used_in (take (used + 1) t)) (take (used + 1) t) = rw e front-tabled in
      record { some' = omega (arith, front_length); few = omega (arith, front_length, T.few); lower = F.lower; bound = settled-low F }

-- and they are all of its slots
pub front-settled : {b : Background} {d : List ℕ} {used : ℕ} {t bad full : List ℕ} → Settled b d used t bad full
    → Settled b d (used_in (take (used + 1) t)) (take (used + 1) t) bad full
front-settled {used = used} {t = t} S =
    let e : used_in (take (used + 1) t) ≡ used = omega (arith, front_length S.tabled) in
    rw e (record { tabled = front-tabled S.tabled; bads = S.bads; fulls = S.fulls })

-- ---- the places of the slots

mark-test : (b : Bool) → not (eqb (bit b) 0) ≡ b
mark-test true = refl
mark-test false = refl

module _ {b : Background} (law : LawfulBackground b) {d : List ℕ} {t bad full : List ℕ} (s : Settled b d (used_in t) t bad full) where
  place_same : (v : ℕ) → place_in t v ≡ form (slots_of b d) v
  place_same v = rw s.tabled.slotted (form-settled (slots_of b d) v)

  -- they are written from the cells of their runs, and an 'every' is kept where its place is not empty
  pub grown_lem : Grown t full
  grown_lem =
      let ss = slots_of b d in
      let rs = map row_of (entries_of d) in
      let same : ◌≡◌ {A = ℕ → Place} (form ss) (place_in t) = fun_ext (λ v. sym (place_same v)) in
      let runs = runs-arranged t (used_in t) s.tabled.few s.tabled.apart law rs s.tabled.slotted in
      let mark : (j : ℕ) → not (eqb (get_or full j 0) 0) ≡ not (is_end (form ss j)) = λ j.
      rw (s.fulls j) (mark-test (nonempty 1 (settled 1 ss) j)) ∙ form-nonempty b rs j in
      record {
        cells = subst (λ (T : ℕ → Place). (v : ℕ) → T v ≡ written T (place_cells t (used_in t) v)) same
            (λ v. form-written ss (under-early b rs) v ∙ ap (λ (S : ℕ → List Cell). written (form ss) (S v)) (sym runs));
        keeps = subst (λ (T : ℕ → Place). keep_in full ≡ kept T) same
            (fun_ext (λ j. fun_ext (λ c. fun_ext (λ hi. ap (λ (x : Bool). c && (x && not (at_most 0 hi))) (mark j)))));
      }

  rows-alive : get_or bad 0 0 ≡ 0 → all_rows t ≡ write (nf b (place_of (entries_of d) 0))
  unfolding all_rows place_of
  rows-alive z =
      let lives : inconsistent 1 (slots_of b d) 0 ≡ false =
      bool_cases (inconsistent 1 (slots_of b d) 0) (λ e. absurd (omega (arith, z, s.bads 0 ∙ ap bit e))) (λ e. e) in
      ap write (place_same 0 ∙ form-top law (map row_of (entries_of d)) lives)

  rows-bottom : get_or bad 0 0 ≢ 0 → write (nf b (place_of (entries_of d) 0)) ≡ leaf_row 0 (atom nothing 0 0) ∷ []
  unfolding normal_rows place_of
  rows-bottom z =
      let rs = map row_of (entries_of d) in
      let falls : inconsistent 1 (slots_of b d) 0 ≡ true =
      bool_cases (inconsistent 1 (slots_of b d) 0) (λ e. e) (λ e. absurd (z (s.bads 0 ∙ ap bit e))) in
      sym (normal-exact law rs) ∙ rw (normal_rows, falls)

  -- the rows by the tables are those of the normal form
  pub rows-normal : table_rows t bad ≡ write (nf b (place_of (entries_of d) 0))
  rows-normal = eq-cases (get_or bad 0 0) 0 (λ z. rw (eq-eqb z) (rows-alive z)) (λ z. rw (ne_eqb z) (sym (rows-bottom z)))

pub rows_few : {b : Background} → LawfulBackground b → (d : List ℕ) → length (write (nf b (place_of (entries_of d) 0))) ≤ length (entries_of d)
unfolding place_of
rows_few law d = omega (arith, normal-length law (map row_of (entries_of d)), length-map (entries_of d) row_of)
