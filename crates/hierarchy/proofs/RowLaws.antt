-- Laws of rows of bytes: a row one byte longer, rows written in turn, and those of words whose bits are those of a test.
-- Assumes nothing.
use Prim.Native.Nat.{◌*◌, ◌+◌, ◌<◌, ◌≤◌, suc, zero, ℕ}
use lib.ListN.{drop, drop_of_length-le, get_or, length, length-append, set}
use lib.Seq.{drop-cons}
use mathlib.Core.Bool.{Bool}
use mathlib.Core.List.{List, [], ◌++◌, ◌∷◌}
use mathlib.Core.Path.{◌∙◌, ◌≡◌, ap, refl, sym}
use native.Mathlib.Nat.{zero-mul, suc-mul}
use native.Mathlib.Omega.{arith}
use Rattle.std.specs.Int.{bit_at}
use Rattle.base.proofs.Lists.{get_d-listed, length-listed, listed, listed-last}
use Rattle.base.proofs.StoresLaws.{stored_one, stored-then}
use Rattle.base.specs.Range.{bit}
use Rattle.base.specs.Stores.{stored}
use Rattle.blocks.specs.Encoding.{joined}
use Rattle.hierarchy.proofs.WordLaws.{told-bit}
use Rattle.hierarchy.specs.Answer.{square_rows}
use Rattle.hierarchy.specs.code.Words.{Rows, bits_in, rows_in}
use Rattle.meaning.specs.Hierarchy.{between, direct, some_below, strict}

-- ---- a row, byte by byte

pub listed-more : (f : ℕ → ℕ) (t : List ℕ) {t' : List ℕ} (at j : ℕ) {x : ℕ} → t' ≡ stored t at (listed f 0 j) → x ≡ f j → set t' (at + j) x ≡ stored t at (listed f 0 (j + 1))
listed-more f t {t'} at j {x} e q =
    let long = length-listed f 0 j in
    let one : suc j ≡ j + 1 = omega arith in
    let none : 0 + j ≡ j = omega arith in
    let last : listed f 0 (suc j) ≡ listed f 0 j ++ (f j ∷ []) = listed-last f 0 j ∙ rw none in
    stored-then t (listed f 0 j) (x ∷ []) at (at + j) e (stored_one t' (at + j) x) (omega arith)
    ∙ ap (stored t at) (ap (λ (y : ℕ). listed f 0 j ++ (y ∷ [])) q ∙ sym last ∙ ap (listed f 0) one)

-- values that agree
pub listed-same : {A : Type 0} (f g : ℕ → A) (i n : ℕ) → ((k : ℕ) → i ≤ k → k < i + n → f k ≡ g k) → listed f i n ≡ listed g i n
unfolding listed
listed-same f g i zero h = refl
listed-same f g i (suc n) h = rw (h i (omega arith) (omega arith), listed-same f g (suc i) n (λ k lo hi. h k (omega arith) (omega arith)))

-- ---- rows written in turn

-- a row more is written at the place behind those before it
pub joined-more : (rows : List (List ℕ)) (i : ℕ) (l : List ℕ) {w : List ℕ} (at : ℕ) → i < length rows → stored l at (joined (drop i rows)) ≡ w
    → {l' : List ℕ} → l' ≡ stored l at (get_or rows i []) → stored l' (at + length (get_or rows i [])) (joined (drop (i + 1) rows)) ≡ w
unfolding joined
joined-more rows i l at h e q =
    let one : i + 1 ≡ suc i = omega arith in
    let row = get_or rows i [] in
    let rest = joined (drop (suc i) rows) in
    let cons : joined (drop i rows) ≡ row ++ rest = ap joined (drop-cons rows i [] h) in
    rw one (stored-then l row rest at (at + length row) q refl refl ∙ ap (stored l at) (sym cons) ∙ e)

-- and how long those are that are left
pub joined-less : (rows : List (List ℕ)) (i : ℕ) → i < length rows → length (joined (drop i rows)) ≡ length (get_or rows i []) + length (joined (drop (i + 1) rows))
unfolding joined
joined-less rows i h =
    let one : i + 1 ≡ suc i = omega arith in
    rw one (ap (λ (r : List (List ℕ)). length (joined r)) (drop-cons rows i [] h) ∙ length-append (get_or rows i []) (joined (drop (suc i) rows)))

pub joined-none : (rows : List (List ℕ)) (i : ℕ) → length rows ≤ i → joined (drop i rows) ≡ []
unfolding joined
joined-none rows i h = ap joined (drop_of_length-le rows {i = i} h)

-- rows of one length
pub joined-long : (f : ℕ → List ℕ) (n i k : ℕ) → ((j : ℕ) → length (f j) ≡ n) → length (joined (listed f i k)) ≡ k * n
unfolding joined listed
joined-long f n i zero h = sym (zero-mul n)
joined-long f n i (suc k) h =
    let rest = joined-long f n (suc i) k h in
    let row = h i in
    length-append (f i) (joined (listed f (suc i) k)) ∙ omega (arith, row, rest, suc-mul k n)

-- the rows of words, one by one

pub row-in : (ws : List ℕ) (n i : ℕ) → i < n → get_or (rows_in ws n) i [] ≡ bits_in n (get_or ws i 0)
row-in ws n i h = let z : 0 + i ≡ i = omega arith in get_d-listed (λ k. bits_in n (get_or ws k 0)) 0 n [] i h ∙ ap (λ (k : ℕ). bits_in n (get_or ws k 0)) z

pub rows-many : (ws : List ℕ) (n : ℕ) → length (rows_in ws n) ≡ n
rows-many ws n = length-listed (λ i. bits_in n (get_or ws i 0)) 0 n

pub row-long : (n w : ℕ) → length (bits_in n w) ≡ n
row-long n w = length-listed (bit_at w) 0 n

pub rows-long : (ws : List ℕ) (n : ℕ) → length (joined (rows_in ws n)) ≡ n * n
rows-long ws n = joined-long (λ i. bits_in n (get_or ws i 0)) n 0 n (λ i. row-long n (get_or ws i 0))

-- ---- rows of a test

pub square-long : (f : ℕ → ℕ → Bool) (n : ℕ) → length (joined (square_rows f n)) ≡ n * n
unfolding square_rows
square-long f n = joined-long (λ i. listed (λ j. bit (f i j)) 0 n) n 0 n (λ i. length-listed (λ j. bit (f i j)) 0 n)

-- those of words whose bits are those of the test
pub rows-square : (f : ℕ → ℕ → Bool) (n : ℕ) {ws : List ℕ} → Rows f n n ws → rows_in ws n ≡ square_rows f n
unfolding square_rows
rows-square f n {ws} R =
    listed-same (λ i. bits_in n (get_or ws i 0)) (λ i. listed (λ j. bit (f i j)) 0 n) 0 n
    (λ i lo hi. listed-same (bit_at (get_or ws i 0)) (λ j. bit (f i j)) 0 n (λ j lo' hi'. told-bit (R.row i (omega arith)) j (omega arith)))

-- tests that agree
pub square-same : (f g : ℕ → ℕ → Bool) (n : ℕ) → ((i j : ℕ) → i < n → j < n → f i j ≡ g i j) → square_rows f n ≡ square_rows g n
unfolding square_rows
square-same f g n h =
    listed-same (λ i. listed (λ j. bit (f i j)) 0 n) (λ i. listed (λ j. bit (g i j)) 0 n) 0 n
    (λ i lo hi. listed-same (λ j. bit (f i j)) (λ j. bit (g i j)) 0 n (λ j lo' hi'. ap bit (h i j (omega arith) (omega arith))))

some-same : (p q : ℕ → Bool) (n : ℕ) → ((k : ℕ) → k < n → p k ≡ q k) → some_below p n ≡ some_below q n
unfolding some_below
some-same p q zero h = refl
some-same p q (suc n) h = rw (h n (omega arith), some-same p q n (λ k l. h k (omega arith)))

pub direct-same : (s r : ℕ → ℕ → Bool) (n : ℕ) → ((i j : ℕ) → i < n → j < n → s i j ≡ r i j) → (i j : ℕ) → i < n → j < n → direct s n i j ≡ direct r n i j
direct-same s r n h i j hi hj =
    let strictly : (i j : ℕ) → i < n → j < n → strict s i j ≡ strict r i j = λ i j hi hj. let a = h i j hi hj in let b = h j i hj hi in rw (a, b) refl in
    let a = strictly i j hi hj in
    let b = some-same (between s i j) (between r i j) n (λ k l. let x = strictly i k hi l in let y = strictly k j l hj in rw (x, y) refl) in
    rw (a, b) refl
