-- Tables that are filled row by row, with a code noted for each row that leads to a place, and the jobs that such a
-- table stands for. Normal forms and specimens are both written by way of them. No promise names these.
-- Assumes nothing.
use Rattle.std.specs.Prelude.{◌+◌, suc, zero, ℕ, eqb, get_or, length, set, take, cond, List, [], ◌++◌, ◌∷◌, ◌≡◌}
use Rattle.logic.specs.Layout.{Queue, done, job, later}

-- numbers are pushed onto a table of so many places, which has `from` of them, and then has r
pub record Filled (width : ℕ) (rows : List ℕ) (from : ℕ) (L : List ℕ) (rows' : List ℕ) (r : ℕ) : Type 0 where
  pub size : length rows' ≡ width
  pub total : r ≡ from + length L
  pub held : take r rows' ≡ take from rows ++ L

-- codes noted for the rows from row k on
unfoldable pub noted : List ℕ → ℕ → List ℕ → List ℕ
noted below k [] = below
noted below k (c ∷ cs) = noted (set below k c) (suc k) cs

-- numbers are pushed, and codes noted from row `at` on
pub record Joined (width : ℕ) (rows : List ℕ) (from : ℕ) (L below : List ℕ) (at : ℕ) (cs rows' : List ℕ) (r : ℕ) (below' : List ℕ) : Type 0 where
  pub pushed : Filled width rows from L rows' r
  pub notes : below' ≡ noted below at cs

module _ {X : Type 0} where
  -- further jobs, numbered from k on, where T gives what each code stands for
  unfoldable pub later_each : (ℕ → X) → Queue X → ℕ → List ℕ → Queue X
  later_each T Q k [] = Q
  later_each T Q k (c ∷ cs) = later_each T (later Q k (T c)) (suc k) cs

  -- the jobs of n rows from row i on: what the code of each row stands for, where code 0 is none
  unfoldable pub queue_from : (ℕ → X) → List ℕ → ℕ → ℕ → Queue X
  queue_from T below i zero = done
  queue_from T below i (suc n) =
      cond (eqb (get_or below i 0) 0) (queue_from T below (suc i) n) (job i (T (get_or below i 0)) (queue_from T below (suc i) n))
