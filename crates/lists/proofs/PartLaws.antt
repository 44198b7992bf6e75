-- All parts of a list: where each begins, that they have whole blocks where the list has, and that in a row they are the list again.
-- Assumes nothing.
use Prim.Native.Nat.{◌%◌, ◌*◌, ◌+◌, ◌/◌, ◌<◌, ◌≤◌, suc, zero, ℕ}
use lib.ListN.{drop, drop_of_length-le, get_or, length, length-drop, take}
use lib.Seq.{drop-drop, get_or-drop, take-nil}
use mathlib.Core.List.{List, [], ◌++◌, ◌∷◌}
use mathlib.Core.Logic.{◌≢◌}
use mathlib.Core.Path.{◌∙◌, ◌≡◌, ap, refl, sym}
use native.Mathlib.Nat.{add-zero}
use native.Mathlib.Omega.{arith}
use Rattle.base.proofs.Tests.{eq-cases, eq-eqb, lt-cases, ne_eqb}
use Rattle.blocks.proofs.Format.WordBytes.{Bytes}
use Rattle.blocks.specs.Encoding.{joined}
use Rattle.lists.proofs.FirstPart.{first-bound, first_some, first-whole, length-first, length-second, parts_join}
use Rattle.lists.specs.Parts.{first_length, first_part, parts_from, parts_of, second_part, start_of}

-- ---- one part more

none_from : (f : ℕ) (s : List ℕ) → length s ≡ 0 → parts_from f s ≡ []
unfolding parts_from
none_from zero s h = refl
none_from (suc f) s h = rw (parts_from, eq-eqb h)

one_from : (f : ℕ) (s : List ℕ) → length s ≢ 0 → parts_from (suc f) s ≡ first_part s ∷ parts_from f (second_part s)
unfolding parts_from
one_from f s h = rw (parts_from, ne_eqb h)

-- what is left is shorter
pub second-less : (s : List ℕ) → length s ≢ 0 → length (second_part s) < length s
second-less s h = let a = first_some s (omega arith) in let b = length-second s in omega arith

-- more steps than there are bytes find no other parts
enough : (f g : ℕ) (s : List ℕ) → length s ≤ f → length s ≤ g → parts_from f s ≡ parts_from g s
enough zero g s p q = none_from zero s (omega arith) ∙ sym (none_from g s (omega arith))
enough (suc f) zero s p q = none_from (suc f) s (omega arith) ∙ sym (none_from zero s (omega arith))
enough (suc f) (suc g) s p q =
    eq-cases (length s) 0
    (λ e. none_from (suc f) s e ∙ sym (none_from (suc g) s e))
    (λ e.
    let l = second-less s e in
    one_from f s e
    ∙ ap (λ (t : List (List ℕ)). first_part s ∷ t) (enough f g (second_part s) (omega arith) (omega arith))
    ∙ sym (one_from g s e))

pub parts_none : (s : List ℕ) → length s ≡ 0 → parts_of s ≡ []
unfolding parts_of
parts_none s h = none_from (length s) s h

pub parts-of-nil : parts_of [] ≡ []
parts-of-nil = parts_none [] refl

pub parts-of : (s : List ℕ) → length s ≢ 0 → parts_of s ≡ first_part s ∷ parts_of (second_part s)
unfolding parts_of
parts-of s h =
    let l = second-less s h in
    enough (length s) (suc (length s)) s (omega arith) (omega arith)
    ∙ one_from (length s) s h
    ∙ ap (λ (t : List (List ℕ)). first_part s ∷ t) (enough (length s) (length (second_part s)) (second_part s) (omega arith) (omega arith))

-- each has a byte, so that there are no more of them
pub parts-short : (s : List ℕ) → length (parts_of s) ≤ length s
unfolding parts_of parts_from
parts-short s = go (length s) s
  where
    go : (f : ℕ) (s : List ℕ) → length (parts_from f s) ≤ f
    go zero s = omega arith
    go (suc f) s =
        eq-cases (length s) 0 (λ e. rw (none_from (suc f) s e) (omega arith)) (λ e. rw (one_from f s e) (omega (arith, go f (second_part s))))

-- ---- where part n begins

pub start-within : (s : List ℕ) (n : ℕ) → start_of n s ≤ length s
unfolding start_of
start-within s zero = omega arith
start-within s (suc n) =
    let a = start-within (second_part s) n in
    let b = length-second s in
    let c = first-bound s in
    omega arith

-- behind the parts before it: what is left there is what is left of the list without its first part
left-later : (s : List ℕ) (n : ℕ) → drop (start_of (suc n) s) s ≡ drop (start_of n (second_part s)) (second_part s)
unfolding start_of
left-later s n = sym (drop-drop (start_of n (second_part s)) (first_length s) s)

-- the next one begins behind it
pub start-next : (s : List ℕ) (n : ℕ) → start_of (suc n) s ≡ start_of n s + first_length (drop (start_of n s) s)
unfolding start_of
start-next s zero = omega arith
start-next s (suc n) =
    let a = start-next (second_part s) n in
    let b = ap first_length (left-later s n) in
    omega arith

-- the parts from there on
pub parts-later : (s : List ℕ) (n : ℕ) → parts_of (drop (start_of n s) s) ≡ drop n (parts_of s)
unfolding start_of
parts-later s zero = refl
parts-later s (suc n) =
    eq-cases (length s) 0
    (λ e.
    let short : length (drop (start_of (suc n) s) s) ≡ 0 = omega (arith, length-drop (start_of (suc n) s) s) in
    parts_none (drop (start_of (suc n) s) s) short ∙ rw (parts_none s e))
    (λ e. ap parts_of (left-later s n) ∙ parts-later (second_part s) n ∙ rw (parts-of s e))

-- part n is the first of them
pub part_at : (s : List ℕ) (n : ℕ) → first_part (drop (start_of n s) s) ≡ get_or (parts_of s) n []
part_at s n =
    first (drop (start_of n s) s)
    ∙ ap (λ (t : List (List ℕ)). get_or t 0 []) (parts-later s n)
    ∙ get_or-drop n (parts_of s) 0 []
    ∙ rw (add-zero n)
  where
    first : (d : List ℕ) → first_part d ≡ get_or (parts_of d) 0 []
    first [] = take-nil (first_length []) ∙ rw parts-of-nil
    first (x ∷ d) = rw (parts-of (x ∷ d) (omega arith))

-- there are none past the end, and as long as there are some it is not reached
pub start-below : (s : List ℕ) (n : ℕ) → n < length (parts_of s) → start_of n s < length s
start-below s n h =
    lt-cases (start_of n s) (length s)
    (λ l. l)
    (λ l.
    let short : length (drop (start_of n s) s) ≡ 0 = omega (arith, length-drop (start_of n s) s) in
    let none : length (drop n (parts_of s)) ≡ 0 = ap length (sym (parts-later s n) ∙ parts_none (drop (start_of n s) s) short) in
    absurd (omega (arith, length-drop n (parts_of s))))

pub start-past : (s : List ℕ) (n : ℕ) → length (parts_of s) ≤ n → start_of n s ≡ length s
start-past s n h =
    let w = start-within s n in
    let d = drop (start_of n s) s in
    let none : parts_of d ≡ [] = parts-later s n ∙ drop_of_length-le (parts_of s) h in
    let long = length-drop (start_of n s) s in
    eq-cases (length d) 0
    (λ e. omega arith)
    (λ e. let some : suc (length (parts_of (second_part d))) ≡ 0 = ap length (sym (parts-of d e) ∙ none) in absurd (omega arith))

pub start-end : (s : List ℕ) → start_of (length (parts_of s)) s ≡ length s
start-end s = start-past s (length (parts_of s)) (omega arith)

-- ---- whole blocks

-- the length of part n
pub part-long : (s : List ℕ) (n : ℕ) → length (get_or (parts_of s) n []) ≡ first_length (drop (start_of n s) s)
part-long s n = ap length (sym (part_at s n)) ∙ length-first (drop (start_of n s) s)

second-whole : (s : List ℕ) → length s % 512 ≡ 0 → length (second_part s) % 512 ≡ 0
second-whole s h =
    let a = first-whole s h in
    let b = first-bound s in
    let c = length-second s in
    omega arith

-- a list of whole blocks is cut between blocks
pub start-whole : (s : List ℕ) (n : ℕ) → length s % 512 ≡ 0 → start_of n s % 512 ≡ 0
unfolding start_of
start-whole s zero h = refl
start-whole s (suc n) h =
    let a = start-whole (second_part s) n (second-whole s h) in
    let b = first-whole s h in
    omega arith

-- so that each part has whole blocks, and at least one
pub part-whole : (s : List ℕ) (n : ℕ) → length s % 512 ≡ 0 → n < length (parts_of s)
    → (length (get_or (parts_of s) n []) % 512 ≡ 0) × (0 < length (get_or (parts_of s) n []))
part-whole s n h l =
    let d = drop (start_of n s) s in
    let long = length-drop (start_of n s) s in
    let b = start-below s n l in
    let w = start-whole s n h in
    let whole : length d % 512 ≡ 0 = omega arith in
    rw (part-long s n) (first-whole d whole, first_some d (omega arith))

count-from : (f : ℕ) (s : List ℕ) → length s % 512 ≡ 0 → 512 * length (parts_from f s) ≤ length s
unfolding parts_from
count-from zero s h = omega arith
count-from (suc f) s h =
    eq-cases (length s) 0
    (λ e. rw (none_from (suc f) s e) (omega arith))
    (λ e.
    let a = count-from f (second_part s) (second-whole s h) in
    let b = first-whole s h in
    let c = first_some s (omega arith) in
    let d = length-second s in
    rw (one_from f s e) (omega arith))

-- and there are no more parts than blocks
pub parts-few : (s : List ℕ) → length s % 512 ≡ 0 → length (parts_of s) ≤ length s / 512
unfolding parts_of
parts-few s h = let a = count-from (length s) s h in omega arith

-- ---- the bytes

-- the parts, one after the other, are the list again
pub parts-joined : (s : List ℕ) → joined (parts_of s) ≡ s
unfolding parts_of joined
parts-joined s = go (length s) s (omega arith)
  where
    none : (f : ℕ) (s : List ℕ) → length s ≡ 0 → joined (parts_from f s) ≡ s
    none f [] h = ap joined (none_from f [] h)
    none f (x ∷ s) h = absurd (omega arith)

    go : (f : ℕ) (s : List ℕ) → length s ≤ f → joined (parts_from f s) ≡ s
    go zero s h = none zero s (omega arith)
    go (suc f) s h =
        eq-cases (length s) 0
        (none (suc f) s)
        (λ e.
        let l = second-less s e in
        ap joined (one_from f s e) ∙ ap (λ (t : List ℕ). first_part s ++ t) (go f (second_part s) (omega arith)) ∙ parts_join s)

pub bytes-front : (n : ℕ) (s : List ℕ) → Bytes s → Bytes (take n s)
bytes-front n s h = record { small = go n s h.small }
  where
    go : (n : ℕ) (s : List ℕ) → ((k : ℕ) → get_or s k 0 < 256) → (k : ℕ) → get_or (take n s) k 0 < 256
    go zero s h k = omega arith
    go (suc n) [] h k = omega arith
    go (suc n) (x ∷ s) h zero = h 0
    go (suc n) (x ∷ s) h (suc k) = go n s (λ j. h (suc j)) k

pub bytes-behind : (n : ℕ) (s : List ℕ) → Bytes s → Bytes (drop n s)
bytes-behind n s h = record { small = λ k. rw (get_or-drop n s k 0) (h.small (n + k)) }

-- a part has the list's bytes
pub part_bytes : (s : List ℕ) (n : ℕ) → Bytes s → Bytes (get_or (parts_of s) n [])
part_bytes s n h =
    let d = drop (start_of n s) s in
    rw (← part_at s n) (bytes-front (first_length d) d (bytes-behind (start_of n s) s h))
