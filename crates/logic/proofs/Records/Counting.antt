-- Counting and testing the numbers below a size, and the elements of a list.
-- Assumes nothing.
use Prim.Native.Nat.{◌+◌, ◌<◌, suc, zero, ℕ}
use lib.ListN.{get_or, length, replicate}
use mathlib.Core.Bool.{Bool, ◌&&◌, and_self_left, cond, true}
use mathlib.Core.List.{List, [], ◌++◌, ◌∷◌, map}
use mathlib.Core.Path.{◌∙◌, ◌≡◌, ap, refl}
use native.Mathlib.Nat.{add-suc, add-zero, suc-add}
use native.Mathlib.Omega.{arith}
use Rattle.base.proofs.Tests.{and_both, and_left, and_right, and-swap, bool_cases, eq-cases, iff-eq}
use Rattle.base.specs.Range.{bit}
use Rattle.logic.specs.Record.{count, every}

-- ---- numbers below a size

-- what passes everywhere passes at each number
pub every-at : (p : ℕ → Bool) (n : ℕ) → every p n ≡ true → (y : ℕ) → y < n → p y ≡ true
unfolding every
every-at p zero e y h = absurd (omega arith)
every-at p (suc n) e y h =
    eq-cases y n
    (λ q. rw q (and_left (p n) (every p n) e))
    (λ q. every-at p n (and_right (p n) (every p n) e) y (omega arith))

-- what passes at each number passes everywhere
pub every_of : (p : ℕ → Bool) (n : ℕ) → ((y : ℕ) → y < n → p y ≡ true) → every p n ≡ true
unfolding every
every_of p zero f = refl
every_of p (suc n) f = and_both (f n (omega arith)) (every_of p n (λ y h. f y (omega arith)))

-- tests that agree below n pass alike there
pub every-ext : (p q : ℕ → Bool) (n : ℕ) → ((y : ℕ) → y < n → p y ≡ q y) → every p n ≡ every q n
unfolding every
every-ext p q zero f = refl
every-ext p q (suc n) f = rw (f n (omega arith), every-ext p q n (λ y h. f y (omega arith)))

-- two tests pass everywhere if each of them does
pub every-and : (p q : ℕ → Bool) (n : ℕ) → every (λ y. p y && q y) n ≡ every p n && every q n
every-and p q n =
    iff-eq
    (λ e. and_both
    (every_of p n (λ y h. and_left (p y) (q y) (every-at (λ z. p z && q z) n e y h)))
    (every_of q n (λ y h. and_right (p y) (q y) (every-at (λ z. p z && q z) n e y h))))
    (λ e. every_of (λ y. p y && q y) n
    (λ y h. and_both (every-at p n (and_left (every p n) (every q n) e) y h) (every-at q n (and_right (every p n) (every q n) e) y h)))

-- counting from the front
pub count-front : (p : ℕ → Bool) (n : ℕ) → count p (suc n) ≡ bit (p 0) + count (λ i. p (suc i)) n
unfolding count
count-front p zero = refl
count-front p (suc n) = omega (arith, count-front p n)

-- testing from the front
pub every_front : (p : ℕ → Bool) (n : ℕ) → every p (suc n) ≡ p 0 && every (λ i. p (suc i)) n
unfolding every
every_front p zero = refl
every_front p (suc n) = rw (every_front p n) (and-swap (p (suc n)) (p 0) (every (λ i. p (suc i)) n))

-- ---- elements of a list

module _ {A : Type 0} where
  -- how many elements pass
  unfoldable pub count_in : (A → Bool) → List A → ℕ
  count_in p [] = 0
  count_in p (x ∷ xs) = bit (p x) + count_in p xs

  -- all elements pass
  unfoldable pub every_in : (A → Bool) → List A → Bool
  every_in p [] = true
  every_in p (x ∷ xs) = p x && every_in p xs

  -- the sum of f over the elements
  unfoldable pub sum_in : (A → ℕ) → List A → ℕ
  sum_in f [] = 0
  sum_in f (x ∷ xs) = f x + sum_in f xs

  -- all elements pass, each with its number, where they count from k
  unfoldable pub every_from : (ℕ → A → Bool) → ℕ → List A → Bool
  every_from p k [] = true
  every_from p k (x ∷ xs) = p k x && every_from p (suc k) xs

  -- counting the places of a list counts its elements
  pub count-list : (p : A → Bool) (d : A) (l : List A) → count (λ i. p (get_or l i d)) (length l) ≡ count_in p l
  unfolding count_in
  count-list p d [] = unfold count in refl
  count-list p d (x ∷ l) = count-front (λ i. p (get_or (x ∷ l) i d)) (length l) ∙ rw (count-list p d l)

  -- testing the places of a list tests its elements
  pub every-list : (p : A → Bool) (d : A) (l : List A) → every (λ i. p (get_or l i d)) (length l) ≡ every_in p l
  unfolding every_in
  every-list p d [] = unfold every in refl
  every-list p d (x ∷ l) = every_front (λ i. p (get_or (x ∷ l) i d)) (length l) ∙ rw (every-list p d l)

  -- testing the elements with their numbers, by their places
  pub every-from : (p : ℕ → A → Bool) (d : A) (k : ℕ) (l : List A)
      → every (λ i. p (k + i) (get_or l i d)) (length l) ≡ every_from p k l
  unfolding every_from
  every-from p d k [] = unfold every in refl
  every-from p d k (x ∷ l) =
      every_front (λ i. p (k + i) (get_or (x ∷ l) i d)) (length l)
      ∙ rw add-zero (ap (λ (b : Bool). p k x && b)
      (every-ext (λ i. p (k + suc i) (get_or l i d)) (λ i. p (suc k + i) (get_or l i d)) (length l) (λ y h. rw (add-suc, suc-add)) ∙ every-from p d (suc k) l))

  -- copies of an element that passes are all counted
  pub count-copies : (p : A → Bool) (n : ℕ) (x : A) (l : List A) → count_in p (replicate n x ++ l) ≡ cond (p x) n 0 + count_in p l
  unfolding count_in
  count-copies p zero x l = bool_cases (p x) (λ q. rw q (omega arith)) (λ q. rw q (omega arith))
  count-copies p (suc n) x l =
      rw (count-copies p n x l) (bool_cases (p x) (λ q. rw q (omega arith)) (λ q. rw q (omega arith)))

  -- copies of an element, of which there is one, pass if it does
  pub every-copies : (p : A → Bool) (n : ℕ) (x : A) (l : List A) → every_in p (replicate (suc n) x ++ l) ≡ p x && every_in p l
  unfolding every_in
  every-copies p zero x l = refl
  every-copies p (suc n) x l = ap (λ (b : Bool). p x && b) (every-copies p n x l) ∙ and_self_left (p x) (every_in p l)

  -- tests that agree on each element and number pass alike
  pub every-from-ext : (p q : ℕ → A → Bool) (k : ℕ) (l : List A) → ((n : ℕ) (x : A) → p n x ≡ q n x) → every_from p k l ≡ every_from q k l
  unfolding every_from
  every-from-ext p q k [] h = refl
  every-from-ext p q k (x ∷ l) h = rw (h k x, every-from-ext p q (suc k) l h)

-- testing the elements of a mapped list
pub every_map : {A B : Type 0} (f : A → B) (p : ℕ → B → Bool) (k : ℕ) (l : List A) → every_from p k (map f l) ≡ every_from (λ n x. p n (f x)) k l
unfolding every_from
every_map f p k [] = refl
every_map f p k (x ∷ l) = rw (every_map f p (suc k) l)
