-- Tags of different names, sorted, are the names of a place in order: those that it lists, and those that are asked for.
-- Assumes nothing.
use Prim.Native.Nat.{◌<◌, suc, ℕ}
use lib.Dec.{eqb, leb, ltb}
use mathlib.Core.Bool.{Bool, ◌||◌, false≢true, true}
use mathlib.Core.List.Memᴰ
use mathlib.Core.List.{List, Memᴰ, [], ◌∷◌, map}
use mathlib.Core.Logic.{⊎_elim}
use mathlib.Core.Path.{◌∙◌, ◌≡◌, refl}
use native.Mathlib.Omega.{arith}
use Rattle.base.proofs.AscendingLaws.{Within, sort-within, within-sort}
use Rattle.base.proofs.Tests.{eq-cases, eq-eqb, eqb-eq, iff-eq, ltb-lt, or_cases, or_left, or_right, tests}
use Rattle.base.specs.Ascending.{AllAfter, Sorted}
use Rattle.compare.specs.code.Tags.{Run, tag_name, tag_slot}
use Rattle.logic.proofs.SpecimenTrees.IncreasingNames.{Increasing, increasing-one, names-increasing}
use Rattle.logic.proofs.SpecimenTrees.Names.{member-names}
use Rattle.logic.specs.Normal.{find, found}
use Rattle.logic.specs.Place.{Kind}
use Rattle.logic.specs.Witness.{member, names}
use Rattle.passes.specs.code.Slots.{is_link}
use Rattle.slots.specs.code.TablePlaces.{place_in, slot_by}
use Rattle.sorting.proofs.Rising.{Different, sorted-map, sorted-rising, within-map}
use Rattle.sorting.specs.Sorted.{sorted}

-- ---- members, as a test

pub member_of : (x : ℕ) (l : List ℕ) → member x l ≡ true → Memᴰ x l
unfolding member
member_of x [] h = absurd (false≢true h)
member_of x (y ∷ l) h = or_cases (eqb x y) (member x l) h (λ q. Memᴰ.head (eqb-eq q)) (λ q. Memᴰ.tail (member_of x l q))

pub of-member : (x : ℕ) (l : List ℕ) → Memᴰ x l → member x l ≡ true
unfolding member
of-member x [] m = absurd (Memᴰ.not-nil m)
of-member x (y ∷ l) m = ⊎_elim (λ e. or_left (member x l) (eq-eqb e)) (λ i. or_right (eqb x y) (of-member x l i)) (Memᴰ.cases_cons m)

-- lists with the same elements have the same members
member-within : (x : ℕ) (l m : List ℕ) → Within l m → Within m l → member x l ≡ member x m
member-within x l m f g = iff-eq (λ h. of-member x m (f x (member_of x l h))) (λ h. of-member x l (g x (member_of x m h)))

-- ---- numbers that ascend

rising-from : (x : ℕ) (q : List ℕ) → AllAfter ltb x q → Sorted ltb q → Increasing (suc x) q
rising-from x [] a s = tt
rising-from x (y ∷ q) a s = (omega (tests, a.0), rising-from y q s.0 s.1)

rising-increasing : (q : List ℕ) → Sorted ltb q → Increasing 0 q
rising-increasing [] s = tt
rising-increasing (x ∷ q) s = (omega arith, rising-from x q s.0 s.1)

-- ---- tags

-- a tag of place v and class b: its slot is that of its name
pub record Tag (t : List ℕ) (v : ℕ) (b : Bool) (x : ℕ) : Type 0 where
  pub slot : tag_slot x ≡ slot_by t v b (tag_name x)
  pub small : tag_name x < 65536

-- of two tags the lesser has the lesser name
tag-rises : {t : List ℕ} {v : ℕ} {b : Bool} {x y : ℕ} → Tag t v b x → Tag t v b y → x < y → tag_name x < tag_name y
tag-rises {t} {v} {b} {x} {y} p q h =
    eq-cases (tag_name x) (tag_name y)
    (λ e.
    let f : tag_slot x ≡ tag_slot y = p.slot ∙ rw e (rw (← q.slot) refl) in
    absurd (omega arith))
    (λ e. omega arith)

module _ (t : List ℕ) (v : ℕ) (a : Kind) (ys L : List ℕ) (different : Different L) (tags : (x : ℕ) → Memᴰ x L → Tag t v (is_link a) x)
    (all : (n : ℕ) → member n (map tag_name L) ≡ (found (find a n (place_in t v)) || member n ys)) (ascends : Increasing 0 ys) where
  in_order : (x : ℕ) → Memᴰ x (sorted L) → Tag t v (is_link a) x
  in_order x m = tags x (sort-within leb L x m)

  -- sorted, their names ascend
  names-rise : Increasing 0 (map tag_name (sorted L))
  names-rise =
      rising-increasing (map tag_name (sorted L))
      (sorted-map tag_name ltb ltb (sorted L) (λ x y m n h. let r : tag_name x < tag_name y = tag-rises (in_order x m) (in_order y n) (ltb-lt h) in omega tests)
      (sorted-rising L different))

  -- and are those of the place
  pub run-sorted : Run t v a ys (sorted L)
  run-sorted = record {
    named = increasing-one 0 0 (map tag_name (sorted L)) (names a (place_in t v) ys) names-rise (names-increasing a (place_in t v) ys ascends)
        (λ n. member-within n _ _ (within-map tag_name _ _ (sort-within leb L)) (within-map tag_name _ _ (within-sort leb L)) ∙ all n ∙ rw member-names refl);
    slotted = λ x m. (in_order x m).slot;
    small = λ x m. (in_order x m).small;
  }
