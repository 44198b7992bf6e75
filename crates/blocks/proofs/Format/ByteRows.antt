-- Rows of one length, and the rows one after the other.
-- Assumes nothing.
use Rattle.std.proofs.Common.{◌≡◌, ℕ, zero, suc, ◌+◌, ◌*◌, ◌<◌, List, [], ◌∷◌, length, get_or, take, drop, refl, ◌∙◌, add-zero, mul-zero, mul-suc, arith, length-append}
use Rattle.base.proofs.Lists.{Holds, holds-left, holds-right, holds-both, holds_as, listed}
use Rattle.blocks.specs.Encoding.{joined}

-- every row has length w
pub data Rows (w : ℕ) : List (List ℕ) → Type 0 where
  none : Rows w []
  more : {r : List ℕ} {rs : List (List ℕ)} → length r ≡ w → Rows w rs → Rows w (r ∷ rs)

-- the first rows, and those after them, have the same length
pub rows_take : {w : ℕ} (n : ℕ) {rs : List (List ℕ)} → Rows w rs → Rows w (take n rs)
rows_take zero p = none
rows_take (suc n) none = none
rows_take (suc n) (more e p) = more e (rows_take n p)

pub rows_drop : {w : ℕ} (n : ℕ) {rs : List (List ℕ)} → Rows w rs → Rows w (drop n rs)
rows_drop zero p = p
rows_drop (suc n) none = none
rows_drop (suc n) (more e p) = rows_drop n p

-- the length of all of them
pub length-joined : {w : ℕ} {rs : List (List ℕ)} → Rows w rs → length (joined rs) ≡ w * length rs
unfolding joined
length-joined {w} none = rw mul-zero
length-joined {w} (more {r} {rs} e p) = length-append r (joined rs) ∙ omega (arith, length-joined p, mul-suc w (length rs))

-- each row stands at its place where the rows stand
pub row-held : {w : ℕ} {rs : List (List ℕ)} → Rows w rs → {s : List ℕ} {a : ℕ} → Holds s a (joined rs)
    → (j : ℕ) → j < length rs → Holds s (a + w * j) (get_or rs j [])
unfolding joined
row-held none h j b = absurd (omega arith)
row-held {w} (more {r} {rs} e p) {a = a} h zero b = holds_as refl (rw (mul-zero, add-zero)) (holds-left r (joined rs) h)
row-held {w} (more {r} {rs} e p) {a = a} h (suc j) b =
    holds_as refl (omega (arith, mul-suc w j)) (row-held p (holds-right r (joined rs) e h) j (omega arith))

-- the rows stand where each row stands at its place
pub rows-held : {w : ℕ} {rs : List (List ℕ)} → Rows w rs → {s : List ℕ} {a : ℕ}
    → ((j : ℕ) → j < length rs → Holds s (a + w * j) (get_or rs j [])) → Holds s a (joined rs)
unfolding joined
rows-held none h = record { each = λ k b. absurd (omega arith) }
rows-held {w} (more {r} {rs} e p) {a = a} h =
    holds-both r (joined rs) e
    (holds_as refl (rw (mul-zero, add-zero)) (h 0 (omega arith)))
    (rows-held p (λ j b. holds_as refl (omega (arith, mul-suc w j)) (h (suc j) (omega arith))))

-- values that are rows of length w
pub rows-listed : {w : ℕ} (f : ℕ → List ℕ) → ((k : ℕ) → length (f k) ≡ w) → (i n : ℕ) → Rows w (listed f i n)
unfolding listed
rows-listed f h i zero = none
rows-listed f h i (suc n) = more (h i) (rows-listed f h (suc i) n)
