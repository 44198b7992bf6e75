-- A place that is written from sorted cells, none of which is broken and all of which tell something, is normal.
-- Assumes nothing.
use Prim.Native.Nat.{ℕ}
use lib.Dec.{eqb}
use mathlib.Core.Bool.{Bool, false, not, true, true≢false}
use mathlib.Core.List.Memᴰ
use mathlib.Core.List.{List, Memᴰ, [], ◌∷◌}
use mathlib.Core.Logic.{⊎_elim}
use mathlib.Core.Option.{Option, none, some}
use mathlib.Core.Path.{◌∙◌, ◌≡◌, ap, refl, sym}
use Rattle.base.proofs.Missing.{not-true, some-none}
use Rattle.base.proofs.Tests.{and_both, and_left, and_right, and_zero, bool_cases, both_ways, false_of_not, not-to-true, or-none, tests}
use Rattle.base.specs.Ascending.{Sorted}
use Rattle.logic.specs.Background.{Background, LawfulBackground}
use Rattle.logic.specs.Canonical.{Canonical, Clean, canonical}
use Rattle.logic.specs.Normal.{at_most, excluded, find, found, is_end, over, sub, supports, under}
use Rattle.logic.specs.Place.{Place, atom, has, lacks, least, most, nothing}
use Rattle.passes.proofs.CellPlaces.FormMeaning.{cell_whole}
use Rattle.passes.proofs.Cells.CellLaws.{lookup-cases}
use Rattle.passes.proofs.Cells.CellsTell.{cap-open, cell_tells, mute, none-asked}
use Rattle.passes.proofs.Cells.CellsWritten.{written-ascending}
use Rattle.passes.proofs.Cells.WrittenLists.{below, written-find, written-sub}
use Rattle.passes.proofs.Cells.WrittenPasses.{all_cells}
use Rattle.passes.specs.code.Forms.{kept, written}
use Rattle.passes.specs.code.Pipeline.{before_cell}
use Rattle.passes.specs.code.Restrict.{idle}
use Rattle.passes.specs.code.Slots.{Cell, broken, cell, high_of, lookup, low_of, value}

all-member : (p : Cell → Bool) (q : List Cell) → all_cells p q ≡ true → (c : Cell) → Memᴰ c q → p c ≡ true
unfolding all_cells
all-member p [] h c m = absurd (Memᴰ.not-nil m)
all-member p (d ∷ q) h c m =
    ⊎_elim (λ e. ap p e ∙ and_left (p d) (all_cells p q) h) (λ i. all-member p q (and_right (p d) (all_cells p q) h) c i) (Memᴰ.cases_cons m)

-- ---- the numbers that a whole slot lists

whole_has : (lo : ℕ) (hi : Option ℕ) (m : ℕ) → value has lo hi ≡ some m → broken false lo hi ≡ false
    → (found (value lacks lo hi) ≡ false) × (eqb m 0 ≡ true) × (eqb lo 0 ≡ false)
whole_has lo hi m e w =
    bool_cases (eqb lo 0)
    (λ z. some-none e (rw z))
    (λ z.
    let y : some 0 ≡ some m = rw z at e in
    let i : 0 ≡ m = cc in
    let f : found hi ≡ false = rw z at w in
    (rw f, omega tests, z))

whole-lacks : (lo : ℕ) (hi : Option ℕ) (m : ℕ) → value lacks lo hi ≡ some m → broken false lo hi ≡ false
    → (found (value has lo hi) ≡ false) × (eqb m 0 ≡ true) × (found hi ≡ true)
whole-lacks lo none m e w = some-none e refl
whole-lacks lo (some h) m e w =
    let i : 0 ≡ m = cc in
    (bool_cases (eqb lo 0) (λ z. rw z) (λ z. let y : true ≡ false = rw z at w in absurd (true≢false y)), omega tests, refl)

whole-least : (lo : ℕ) (hi : Option ℕ) (m : ℕ) → value least lo hi ≡ some m → broken true lo hi ≡ false
    → (under m hi ≡ false) × (eqb m 0 ≡ false) × (lo ≡ m)
whole-least lo hi m e w =
    bool_cases (eqb lo 0)
    (λ z. some-none e (rw z))
    (λ z.
    let y : some lo ≡ some m = rw z at e in
    let i : lo ≡ m = cc in
    (rw i at w, rw i at z, i))

whole-most : (lo : ℕ) (hi : Option ℕ) (m : ℕ) → value most lo hi ≡ some m → broken true lo hi ≡ false → over m (value least lo hi) ≡ false
whole-most lo hi m e w =
    let y : under lo (some m) ≡ false = rw e at w in
    bool_cases (eqb lo 0) (λ z. rw z) (λ z. rw z y)

-- ---- the place

-- x tells which properties are excluded at the place
module _ {b : Background} (law : LawfulBackground b) (x : ℕ → Bool) (T : ℕ → Place) (q : List Cell) (s : Sorted before_cell q)
    (w : all_cells cell_whole q ≡ true) (g : all_cells (cell_tells b x) q ≡ true)
    (excludes : (p : ℕ) → excluded b p (written T q) ≡ true → x p ≡ true) where
  -- what is found is whole
  whole-found : (d : Bool) (n : ℕ) → broken d (low_of (lookup q d n)) (high_of (lookup q d n)) ≡ false
  whole-found d n =
      lookup-cases (λ o. broken d (low_of o) (high_of o) ≡ false) q d n (free d)
      (λ j lo hi m. false_of_not (broken d lo hi) (all-member cell_whole q w (cell j d n lo hi) m))
    where
      free : (d : Bool) → broken d 0 none ≡ false
      free true = refl
      free false = refl

  -- a property that is excluded has no cell that says anything
  silent : (n : ℕ) → excluded b n (written T q) ≡ true → mute (low_of (lookup q false n)) (high_of (lookup q false n)) ≡ true
  silent n e =
      lookup-cases (λ o. mute (low_of o) (high_of o) ≡ true) q false n refl
      (λ j lo hi m. rw (excludes n e) at (all-member (cell_tells b x) q g (cell j false n lo hi) m))

  -- so what has an entry is not excluded
  spared : (n : ℕ) → mute (low_of (lookup q false n)) (high_of (lookup q false n)) ≡ false → excluded b n (written T q) ≡ false
  spared n z = not-true (λ e. both_ways (silent n e) z)

  -- a link's numbers tell something
  link-tells : (l : ℕ) → (under (low_of (lookup q true l)) (b.cap l) ≡ false)
      × (idle (b.cap l) (high_of (lookup q true l)) ≡ false)
  link-tells l =
      lookup-cases (λ o. (under (low_of o) (b.cap l) ≡ false) × (idle (b.cap l) (high_of o) ≡ false)) q true l
      (none-asked (b.cap l) 0 refl, refl)
      (λ j lo hi m.
      let t = all-member (cell_tells b x) q g (cell j true l lo hi) m in
      let u : Bool = not (under lo (b.cap l)) in
      let i : Bool = not (idle (b.cap l) hi) in
      (false_of_not (under lo (b.cap l)) (and_left u i t), false_of_not (idle (b.cap l) hi) (and_right u i t)))

  written-clean : Clean b (written T q)
  written-clean has n m e =
      let o = lookup q false n in
      let r = whole_has (low_of o) (high_of o) m (sym (written-find T q s has n) ∙ e) (whole-found false n) in
      (or-none {a = found (find lacks n (written T q))} (rw (written-find T q s lacks n) r.0) (spared n (rw r.2)), r.1)
  written-clean lacks n m e =
      let o = lookup q false n in
      let r = whole-lacks (low_of o) (high_of o) m (sym (written-find T q s lacks n) ∙ e) (whole-found false n) in
      (rw (written-find T q s has n) r.0, and_both r.1 (not-to-true (spared n (rw r.2 (and_zero (eqb (low_of o) 0))))))
  written-clean least n m e =
      let o = lookup q true n in
      let r = whole-least (low_of o) (high_of o) m (sym (written-find T q s least n) ∙ e) (whole-found true n) in
      let within : under m (b.cap n) ≡ false = rw r.2 at (link-tells n).0 in
      (or-none {a = under m (find most n (written T q))} (rw (written-find T q s most n) r.0) within, not-to-true r.1)
  written-clean most n m e =
      let o = lookup q true n in
      let f : high_of o ≡ some m = sym (written-find T q s most n) ∙ e in
      let telling : idle (b.cap n) (some m) ≡ false = rw f at (link-tells n).1 in
      (rw (written-find T q s least n) (whole-most (low_of o) (high_of o) m f (whole-found true n)), not-to-true telling)
  written-clean nothing n m e = some-none (sym (written-find T q s nothing n) ∙ e) refl

  -- an 'every' that is listed has no at most 0
  open-below : (l : ℕ) → is_end (sub l (written T q)) ≡ false → supports b (written T q) (atom most l 0) ≡ false
  open-below l i =
      or-none {a = at_most 0 (find most l (written T q))}
      (rw (written-find T q s most l)
      (lookup-cases (λ o. is_end (below T o) ≡ false → at_most 0 (high_of o) ≡ false) q true l
      (λ e. refl)
      (λ j lo hi m e. bool_cases (at_most 0 hi) (λ z. let y : true ≡ false = rw z at e in absurd (true≢false y)) (λ z. z))
      (rw (written-sub T q s l) at i)))
      (cap-open law l)

  module _ (normal-below : (j : ℕ) (d : Bool) (n lo : ℕ) (hi : Option ℕ) → Memᴰ (cell j d n lo hi) q → kept T j d hi ≡ true
      → Canonical b (T j)) where
    sub-normal : (l : ℕ) → is_end (sub l (written T q)) ≡ false → Canonical b (sub l (written T q))
    sub-normal l i =
        rw (written-sub T q s l)
        (lookup-cases (λ o. is_end (below T o) ≡ false → Canonical b (below T o)) q true l
        (λ e. absurd (true≢false e))
        (λ j lo hi m e. bool_cases (at_most 0 hi)
        (λ z. let y : true ≡ false = rw z at e in absurd (true≢false y))
        (λ z.
        let y : is_end (T j) ≡ false = rw z at e in
        rw z (normal-below j true l lo hi m (rw (y, z)))))
        (rw (written-sub T q s l) at i))

    pub written-normal : Canonical b (written T q)
    written-normal = canonical (written-ascending T q s) written-clean open-below sub-normal
