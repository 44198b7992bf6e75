-- The place of a number among the stands, and what the stands then hold.
-- Assumes nothing.
use Rattle.std.proofs.Common.{◌≡◌, ℕ, zero, suc, ◌+◌, ◌-◌, ◌≤◌, ◌<◌, true, false, eqb, ltb, List, length, get_or, Some, refl, sym, ap, ◌∙◌, arith}
use Rattle.base.proofs.Tests.{bool_cases, ge-ltb, lt-ltb}
use Rattle.drafts.specs.Draft.{find, known}
use Rattle.drafts.specs.Answer.{place_of}
use Rattle.drafts.specs.Memory.{area, entries_at, stands_in}

pub place-least : (s : ℕ) (names : List ℕ) (j left : ℕ) → j ≤ place_of s names j left
unfolding place_of
place-least s names j zero = omega arith
place-least s names j (suc left) =
    let h = place-least s names (suc j) left in
    bool_cases (eqb s (get_or names j 0)) (λ q. rw q (omega arith)) (λ q. rw q (omega arith))

pub place-most : (s : ℕ) (names : List ℕ) (j left : ℕ) → place_of s names j left ≤ j + left
unfolding place_of
place-most s names j zero = omega arith
place-most s names j (suc left) =
    let h = place-most s names (suc j) left in
    bool_cases (eqb s (get_or names j 0)) (λ q. rw q (omega arith)) (λ q. rw q (omega arith))

-- a number that has a place before the end is known, and no other
pub known-place : (s : ℕ) (m names counts : List ℕ) (j left : ℕ)
    → known s (stands_in m names counts j left) ≡ ltb (place_of s names j left) (j + left)
unfolding find stands_in place_of
known-place s m names counts j zero = sym (ge-ltb (omega arith))
known-place s m names counts j (suc left) =
    let e : suc j + left ≡ j + suc left = omega arith in
    bool_cases (eqb s (get_or names j 0))
    (λ q. let l : ltb j (j + suc left) ≡ true = lt-ltb (omega arith) in rw (q, l))
    (λ q. rw q (known-place s m names counts (suc j) left ∙ ap (ltb (place_of s names (suc j) left)) e))

-- what is kept under it
pub find-place : (s : ℕ) (m names counts : List ℕ) (j left : ℕ) → place_of s names j left < j + left
    → find s (stands_in m names counts j left) ≡ Some (entries_at m (area (place_of s names j left)) (get_or counts (place_of s names j left) 0))
unfolding find stands_in place_of
find-place s m names counts j zero h = absurd (omega arith)
find-place s m names counts j (suc left) h =
    bool_cases (eqb s (get_or names j 0))
    (λ q. rw q)
    (λ q. let h' = rw q at h in rw q (find-place s m names counts (suc j) left (omega arith)))

pub length-stands : (m names counts : List ℕ) (j left : ℕ) → length (stands_in m names counts j left) ≡ left
unfolding stands_in
length-stands m names counts j zero = refl
length-stands m names counts j (suc left) = ap suc (length-stands m names counts (suc j) left)

-- the turns of a search for the place
pub place-start : (s : ℕ) (names : List ℕ) (n : ℕ) → place_of s names 0 n ≡ place_of s names 0 (n - 0)
place-start s names n = let e : n - 0 ≡ n = omega arith in rw e

pub place-here : (s : ℕ) (names : List ℕ) (i n : ℕ) → i < n → eqb s (get_or names i 0) ≡ true → place_of s names i (n - i) ≡ i
unfolding place_of
place-here s names i n h q = let e : n - i ≡ suc (n - suc i) = omega arith in rw (e, place_of, q)

pub place-later : (s : ℕ) (names : List ℕ) (i n : ℕ) → i < n → eqb s (get_or names i 0) ≡ false → place_of s names i (n - i) ≡ place_of s names (i + 1) (n - (i + 1))
unfolding place_of
place-later s names i n h q =
    let e : n - i ≡ suc (n - (i + 1)) = omega arith in
    let f : suc i ≡ i + 1 = omega arith in
    rw (e, place_of, q, f)

pub place-end : (s : ℕ) (names : List ℕ) (i n : ℕ) → i ≡ n → place_of s names i (n - i) ≡ n
unfolding place_of
place-end s names i n h = let e : n - i ≡ 0 = omega arith in rw (e, place_of) h
