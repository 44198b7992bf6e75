-- The tags of a run's slots: which they are, what they hold, and that they ascend by name once sorted, where no two slots have one key.
-- Assumes nothing.
use Prim.Native.Nat.{◌%◌, ◌/◌, ◌<◌, ◌≤◌, suc, zero, ℕ}
use lib.Dec.{eqb, leb, ltb}
use lib.ListN.{get_or, length}
use mathlib.Core.Bool.{Bool, ◌&&◌, false, true}
use mathlib.Core.List.Memᴰ
use mathlib.Core.List.{List, Memᴰ, ◌∷◌}
use mathlib.Core.Logic.{◌≢◌, ⊎_elim}
use mathlib.Core.Path.{◌∙◌, ◌≡◌, ap, refl}
use native.Mathlib.Omega.{arith}
use Rattle.base.proofs.AscendingLaws.{AllApart, agreed-sorted}
use Rattle.base.proofs.Split.{place_of, row_of}
use Rattle.base.proofs.Tests.{and_both, and_left, and_right, bool_cases, both_ways, eq-cases, eq-eqb, eqb-eq, le-leb, leb-le, tests}
use Rattle.base.specs.Ascending.{Sorted, sort}
use Rattle.runs.specs.code.Chained.{run_at, slot_name}
use Rattle.runs.specs.code.Tagged.{tag_of, tags_down}
use Rattle.slots.specs.code.Tables.{key_in, low_part}

-- ---- what a tag holds

pub tag-name-is : (x : ℕ) {j : ℕ} → j < 1024 → tag_of x j / 1024 ≡ slot_name x
tag-name-is x {j} h = row_of {r = 1024} (slot_name x) j h

pub tag-slot-is : (x : ℕ) {j : ℕ} → j < 1024 → tag_of x j % 1024 ≡ j
tag-slot-is x {j} h = place_of {r = 1024} (slot_name x) j h

-- ---- which tags there are

-- x is the tag of one of the slots 1 to n, of run r, that says at least `low`
pub record TagFrom (t : List ℕ) (r low n x : ℕ) : Type 0 where
  pub at : ℕ
  pub from : 1 ≤ at
  pub to : at ≤ n
  pub run : run_at t at ≡ r
  pub enough : low ≤ low_part (get_or t at 0)
  pub is : x ≡ tag_of (get_or t at 0) at

module _ (t : List ℕ) (r low : ℕ) where
  -- whether slot j is one of them
  abbrev listed_at : ℕ → Bool
  listed_at j = eqb (run_at t j) r && leb low (low_part (get_or t j 0))

  tags-with : (n : ℕ) → listed_at (suc n) ≡ true → tags_down t r low (suc n) ≡ tag_of (get_or t (suc n) 0) (suc n) ∷ tags_down t r low n
  unfolding tags_down
  tags-with n e = rw e

  tags-without : (n : ℕ) → listed_at (suc n) ≡ false → tags_down t r low (suc n) ≡ tags_down t r low n
  unfolding tags_down
  tags-without n e = rw e

  -- no more than slots
  pub length-tags : (n : ℕ) → length (tags_down t r low n) ≤ n
  unfolding tags_down
  length-tags zero = omega arith
  length-tags (suc n) = bool_cases (listed_at (suc n)) (λ e. rw e (omega (arith, length-tags n))) (λ e. rw e (omega (arith, length-tags n)))

  abbrev tag-later : {n x : ℕ} → TagFrom t r low n x → TagFrom t r low (suc n) x
  tag-later T = record { at = T.at; from = T.from; to = omega (arith, T.to); run = T.run; enough = T.enough; is = T.is }

  abbrev tag-new : (n : ℕ) → listed_at (suc n) ≡ true → TagFrom t r low (suc n) (tag_of (get_or t (suc n) 0) (suc n))
  tag-new n e = record {
    at = suc n;
    from = omega arith;
    to = omega arith;
    run = eqb-eq (and_left (eqb (run_at t (suc n)) r) (leb low (low_part (get_or t (suc n) 0))) e);
    enough = leb-le (and_right (eqb (run_at t (suc n)) r) (leb low (low_part (get_or t (suc n) 0))) e);
    is = refl;
  }

  -- each tag comes from a slot
  pub tag-from : (n x : ℕ) → Memᴰ x (tags_down t r low n) → TagFrom t r low n x
  unfolding tags_down
  tag-from zero x m = absurd (Memᴰ.not-nil m)
  tag-from (suc n) x m =
      bool_cases (listed_at (suc n))
      (λ e. ⊎_elim
      (λ i. rw i (tag-new n e))
      (λ i. tag-later (tag-from n x i))
      (Memᴰ.cases_cons (rw (tags-with n e) at m)))
      (λ e. tag-later (tag-from n x (rw (tags-without n e) at m)))

  -- and each slot gives one
  pub tag-listed : (n j : ℕ) → 1 ≤ j → j ≤ n → run_at t j ≡ r → low ≤ low_part (get_or t j 0) → Memᴰ (tag_of (get_or t j 0) j) (tags_down t r low n)
  tag-listed zero j lo hi e l = absurd (omega arith)
  tag-listed (suc n) j lo hi e l =
      eq-cases j (suc n)
      (λ q. let y : listed_at (suc n) ≡ true = rw (← q) (and_both (eq-eqb e) (le-leb l)) in rw (tags-with n y, q) (Memᴰ.head refl))
      (λ q. let m = tag-listed n j lo (omega arith) e l in
      bool_cases (listed_at (suc n)) (λ y. rw (tags-with n y) (Memᴰ.tail m)) (λ y. rw (tags-without n y) m))

  -- ---- by name

  module _ (n : ℕ) (few : n ≤ 1008) where
    -- the parts of a tag are its slot's name and number
    pub tag-holds-name : {x : ℕ} (T : TagFrom t r low n x) → x / 1024 ≡ slot_name (get_or t T.at 0)
    tag-holds-name T = ap (λ (k : ℕ). k / 1024) T.is ∙ tag-name-is (get_or t T.at 0) (omega (arith, T.to))

    pub tag-holds-slot : {x : ℕ} (T : TagFrom t r low n x) → x % 1024 ≡ T.at
    tag-holds-slot T = ap (λ (k : ℕ). k % 1024) T.is ∙ tag-slot-is (get_or t T.at 0) (omega (arith, T.to))

    -- where no two slots have one key
    module _ (apart : (i j : ℕ) → 1 ≤ i → i < j → j ≤ n → eqb (key_in (get_or t i 0)) (key_in (get_or t j 0)) ≡ false) where
      -- tags of different slots hold different names
      pub names_apart : {x y : ℕ} (T : TagFrom t r low n x) (U : TagFrom t r low n y) → T.at < U.at → x / 1024 ≢ y / 1024
      names_apart {x} {y} T U less e =
          let a = tag-holds-name T in
          let b = tag-holds-name U in
          let k : eqb (key_in (get_or t T.at 0)) (key_in (get_or t U.at 0)) ≡ true = omega (tests, T.run, U.run) in
          both_ways k (apart T.at U.at T.from less U.to)

-- of two tags the one that holds the lower name stands first
abbrev pub lower_name : ℕ → ℕ → Bool
lower_name x y = ltb (x / 1024) (y / 1024)

pub lower-trans : (x y z : ℕ) → lower_name x y ≡ true → lower_name y z ≡ true → lower_name x z ≡ true
lower-trans x y z h i = omega tests

module _ (t : List ℕ) (r low : ℕ) where
  -- no two tags hold one name
  pub tags-apart : (n : ℕ) → n ≤ 1008 → ((i j : ℕ) → 1 ≤ i → i < j → j ≤ n → eqb (key_in (get_or t i 0)) (key_in (get_or t j 0)) ≡ false)
      → AllApart lower_name lower-trans (tags_down t r low n)
  unfolding tags_down
  tags-apart zero few apart = tt
  tags-apart (suc n) few apart =
      let rest = tags-apart n (omega arith) (λ i j lo h hi. apart i j lo h (omega arith)) in
      bool_cases (listed_at t r low (suc n))
      (λ e. rw (tags-with t r low n e) (
        (λ y m h.
            let T = tag-from t r low n y m in
            let z : y / 1024 ≢ tag_of (get_or t (suc n) 0) (suc n) / 1024 = names_apart t r low (suc n) few apart (tag-later t r low T) (tag-new t r low n e) (omega (arith, T.to)) in
            omega tests),
        rest,
      ))
      (λ e. rw (tags-without t r low n e) rest)

  -- sorted, they ascend by name
  pub names-rise : (n : ℕ) → n ≤ 1008 → ((i j : ℕ) → 1 ≤ i → i < j → j ≤ n → eqb (key_in (get_or t i 0)) (key_in (get_or t j 0)) ≡ false)
      → Sorted lower_name (sort leb (tags_down t r low n))
  names-rise n few apart =
      agreed-sorted lower_name lower-trans leb (λ x y h. omega tests) (λ x y h. omega tests) (tags_down t r low n) (tags-apart n few apart)
