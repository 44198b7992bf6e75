-- Lists by their elements: a list that stands in another from an index on, and the list of a function's values.
-- Assumes nothing.
use Prim.Native.Nat.{◌+◌, ◌-◌, ◌<◌, ◌≤◌, suc, zero, ℕ}
use lib.ListN.{get_or-append, get_or-eq_default, get_or, get_or-replicate, length, length-append, length-replicate, replicate, set}
use lib.Seq.{ext_get_or, get_or-append-add, get_or-set_other, get_or-set_same}
use mathlib.Core.List.{List, [], ◌++◌, ◌∷◌, map}
use mathlib.Core.Path.{◌∙◌, ◌≡◌, ap, refl, sym}
use native.Mathlib.Nat.{add_assoc, add-suc, add-zero, suc-add, zero-add}
use native.Mathlib.Omega.{arith}
use Rattle.base.proofs.Tests.{eq-cases, lt-cases}

-- ---- a list that stands in another

-- the elements of s from index a on are those of xs
pub record Holds (s : List ℕ) (a : ℕ) (xs : List ℕ) : Type 0 where
  pub each : (k : ℕ) → k < length xs → get_or s (a + k) 0 ≡ get_or xs k 0

-- a list stands in itself from index 0 on
pub holds-self : (s : List ℕ) → Holds s 0 s
holds-self s = record { each = λ k h. rw zero-add }

-- two lists as long are equal when one stands in the other
pub holds-eq : {s xs : List ℕ} → length s ≡ length xs → Holds s 0 xs → s ≡ xs
holds-eq {s} {xs} e h = ext_get_or 0 s xs e (λ k b. rw zero-add at (h.each k (rw e at b)))

-- an equal list stands at an equal index
pub holds_as : {s xs ys : List ℕ} {a b : ℕ} → xs ≡ ys → a ≡ b → Holds s a xs → Holds s b ys
holds_as e f h = rw (← e, ← f) h

-- of two lists in a row the first, and the second
pub holds-left : (xs ys : List ℕ) {s : List ℕ} {a : ℕ} → Holds s a (xs ++ ys) → Holds s a xs
holds-left xs ys h = record { each = λ k b. h.each k (simp length-append (omega arith)) ∙ get_or-append xs ys 0 k b }

pub holds-right : (xs ys : List ℕ) {s : List ℕ} {a n : ℕ} → length xs ≡ n → Holds s a (xs ++ ys) → Holds s (a + n) ys
holds-right xs ys e h =
    record { each = λ k b. rw (add_assoc, ← e) (h.each (length xs + k) (simp length-append (omega arith)) ∙ get_or-append-add xs ys k 0) }

-- the first and the second are two lists in a row
pub holds-both : (xs ys : List ℕ) {s : List ℕ} {a n : ℕ} → length xs ≡ n → Holds s a xs → Holds s (a + n) ys → Holds s a (xs ++ ys)
holds-both xs ys {s} {a} {n} e p q =
    record {
      each = λ k b. lt-cases k (length xs)
          (λ h. p.each k h ∙ sym (get_or-append xs ys 0 k h))
          (λ h. let j = k - n in
          let f : k ≡ length xs + j = omega arith in
          let g : a + k ≡ a + n + j = omega arith in
          let l : j < length ys = omega (arith, length-append xs ys) in
          ap (λ (i : ℕ). get_or s i 0) g ∙ q.each j l ∙ sym (ap (λ (i : ℕ). get_or (xs ++ ys) i 0) f ∙ get_or-append-add xs ys j 0));
    }

-- two elements stand where each of them does
pub holds-two : {s : List ℕ} {a x y : ℕ} → get_or s a 0 ≡ x → get_or s (a + 1) 0 ≡ y → Holds s a (x ∷ y ∷ [])
holds-two {s} {a} {x} {y} p q = record { each = each }
  where
    each : (k : ℕ) → k < 2 → get_or s (a + k) 0 ≡ get_or (x ∷ y ∷ []) k 0
    each zero h = rw add-zero p
    each (suc zero) h = q
    each (suc (suc k)) h = absurd (omega arith)

-- zeros stand where each element is zero
pub holds-zeros : (n : ℕ) {s : List ℕ} {a : ℕ} → ((k : ℕ) → a ≤ k → k < a + n → get_or s k 0 ≡ 0) → Holds s a (replicate n 0)
holds-zeros n {s} {a} h = let e = length-replicate {A = ℕ} n 0 in
    record { each = λ k b. let l : k < n = omega arith in h (a + k) (omega arith) (omega arith) ∙ sym (get_or-replicate n k 0 0 l) }

-- and only there
pub zeros-held : (n : ℕ) {s : List ℕ} {a : ℕ} → Holds s a (replicate n 0) → (k : ℕ) → a ≤ k → k < a + n → get_or s k 0 ≡ 0
zeros-held n {s} {a} h k lo hi = let j = k - a in
    let f : k ≡ a + j = omega arith in
    let e = length-replicate {A = ℕ} n 0 in
    ap (λ (i : ℕ). get_or s i 0) f ∙ h.each j (omega arith) ∙ get_or-replicate n j 0 0 (omega arith)

-- ---- the values of a function

module _ {A : Type 0} where
  -- the values of f at n numbers from i on
  unfoldable pub listed : (ℕ → A) → ℕ → ℕ → List A
  listed f i zero = []
  listed f i (suc n) = f i ∷ listed f (suc i) n

  -- they are n
  pub length-listed : (f : ℕ → A) (i n : ℕ) → length (listed f i n) ≡ n
  unfolding listed
  length-listed f i zero = refl
  length-listed f i (suc n) = ap suc (length-listed f (suc i) n)

  -- the one at place k
  pub get_d-listed : (f : ℕ → A) (i n : ℕ) (d : A) (k : ℕ) → k < n → get_or (listed f i n) k d ≡ f (i + k)
  unfolding listed
  get_d-listed f i zero d k h = absurd (omega arith)
  get_d-listed f i (suc n) d zero h = rw add-zero
  get_d-listed f i (suc n) d (suc k) h = get_d-listed f (suc i) n d k (omega arith) ∙ rw (add-suc, suc-add)

  -- one value more, at the end
  pub listed-last : (f : ℕ → A) (i n : ℕ) → listed f i (suc n) ≡ listed f i n ++ (f (i + n) ∷ [])
  unfolding listed
  listed-last f i zero = rw add-zero
  listed-last f i (suc n) = ap (λ (l : List A). f i ∷ l) (listed-last f (suc i) n ∙ rw (suc-add, ← add-suc))

  -- a list is the list of the values that it has
  pub listed-eq : (f : ℕ → A) (i : ℕ) (d : A) (l : List A) → ((k : ℕ) → k < length l → f (i + k) ≡ get_or l k d)
      → listed f i (length l) ≡ l
  listed-eq f i d l h =
      let e = length-listed f i (length l) in
      ext_get_or d (listed f i (length l)) l e (λ k b. let c : k < length l = rw e at b in get_d-listed f i (length l) d k c ∙ h k c)

-- a function of each value
pub map-listed : {A B : Type 0} (g : A → B) (f : ℕ → A) (i n : ℕ) → map g (listed f i n) ≡ listed (λ k. g (f k)) i n
unfolding listed
map-listed g f i zero = refl
map-listed g f i (suc n) = rw (map-listed g f (suc i) n)

-- an element of a mapped list, whatever is read past the end
pub get_d-map-in : {A B : Type 0} (g : A → B) (l : List A) (d : A) (z : B) (k : ℕ) → k < length l
    → get_or (map g l) k z ≡ g (get_or l k d)
get_d-map-in g [] d z k h = absurd (omega arith)
get_d-map-in g (x ∷ l) d z zero h = refl
get_d-map-in g (x ∷ l) d z (suc k) h = get_d-map-in g l d z k (omega arith)

-- the elements of s from index a on, as a list, stand there
pub part_held : (s : List ℕ) (a n : ℕ) → Holds s a (listed (λ k. get_or s k 0) a n)
part_held s a n =
    let e = length-listed (λ k. get_or s k 0) a n in
    record { each = λ k b. sym (get_d-listed (λ k. get_or s k 0) a n 0 k (omega arith)) }

-- what stands in s from index a on is its elements there
pub part-eq : {s : List ℕ} {a : ℕ} {xs : List ℕ} → Holds s a xs → listed (λ k. get_or s k 0) a (length xs) ≡ xs
part-eq {s} {a} {xs} h = listed-eq (λ k. get_or s k 0) a 0 xs h.each

-- ---- tables of numbers

-- a table of zeros reads 0 everywhere, past its end too
pub zeros-read : (n : ℕ) {l : List ℕ} → l ≡ replicate n 0 → (j : ℕ) → get_or l j 0 ≡ 0
zeros-read n {l} e j =
    lt-cases j n
    (λ b. rw e (get_or-replicate {A = ℕ} n j 0 0 b))
    (λ b. get_or-eq_default l 0 {n = j} (omega (arith, ap length e, length-replicate {A = ℕ} n 0)))

-- what each number of a table is, each still is after one is set that is so
pub set-each : (P : ℕ → Type 0) (l : List ℕ) {m x : ℕ} → ((i : ℕ) → P (get_or l i 0)) → m < length l → P x → (i : ℕ) → P (get_or (set l m x) i 0)
set-each P l {m} {x} h b p i = eq-cases i m (λ e. rw (e, get_or-set_same l m x 0 b) p) (λ e. rw (get_or-set_other l m i x 0 e) (h i))
