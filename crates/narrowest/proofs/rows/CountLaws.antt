-- Rows pushed one after another.
-- Assumes nothing.
use Prim.Native.Nat.{◌+◌, ◌<◌, ◌≤◌, ℕ}
use lib.ListN.{get_or, length, length-append, set, take}
use lib.Seq.{take-suc, take_all}
use mathlib.Core.List.{List, [], ◌++◌, ◌∷◌, append_assoc, append-nil}
use mathlib.Core.Path.{◌∙◌, ◌≡◌, ap, refl, sym}
use native.Mathlib.Numerals.{add-one}
use native.Mathlib.Omega.{arith}
use Rattle.blocks.specs.declared.Entry.{Entry}
use Rattle.logic.proofs.TreeRows.FillLaws.{filled-one}
use Rattle.logic.specs.Laying.{leaf_rows}
use Rattle.logic.specs.Place.{Atom}
use Rattle.logic.specs.Tree.{leaf_row}
use Rattle.narrowest.specs.code.Forms.{entries_in}
use Rattle.narrowest.specs.code.Pushes.{Counted, leaf_numbers, row_number}
use Rattle.std.proofs.lemmas.Grind.{flat_map-append}
use Rattle.std.specs.List.{flat_map}
use Rattle.unfolding.specs.code.Rows.{entry_of_row}

-- ---- none, one, and some after others

pub counted-none : {w : ℕ} {rows : List ℕ} {n : ℕ} → length rows ≡ w → n ≤ w + 1 → Counted w rows n [] rows n
counted-none {w} {rows} {n} e l = record { size = e; total = omega (arith, l); held = λ h. sym (append-nil (take n rows)) }

pub counted-one : {rows : List ℕ} {n x : ℕ} → n < length rows → Counted (length rows) rows n (x ∷ []) (set rows n x) (n + 1)
counted-one {rows} {n} {x} l =
    let f = filled-one {rows = rows} {n = n} {x = x} refl l refl in
    record { size = f.size; total = omega (arith, l); held = λ h. f.held }

pub counted-past : {rows : List ℕ} {n x : ℕ} → length rows ≤ n → n ≤ length rows + 1 → Counted (length rows) rows n (x ∷ []) rows (length rows + 1)
counted-past {rows} {n} {x} l m = record { size = refl; total = omega (arith, l, m); held = λ h. absurd (omega (arith, h, l)) }

pub counted_more : {w : ℕ} {a b c : List ℕ} {i j k : ℕ} (L M : List ℕ) → Counted w a i L b j → Counted w b j M c k → Counted w a i (L ++ M) c k
counted_more {w} {a} {b} {c} {i} {j} {k} L M p q =
    let n = length-append L M in
    record {
      size = q.size;
      total = omega (arith, p.total, q.total, n);
      held = λ h.
          let z : j ≡ i + length L = omega (arith, p.total, n, h) in
          q.held (omega (arith, z, n, h)) ∙ rw (p.held (omega (arith, n, h)), append_assoc (take i a) L M);
    }

pub counted-as : {v w : ℕ} {a b L M : List ℕ} {i j : ℕ} → Counted w a i L b j → w ≡ v → L ≡ M → Counted v a i M b j
counted-as p e f = rw (← e, ← f) p

pub counted-most : {w : ℕ} {a b L : List ℕ} {i j : ℕ} → Counted w a i L b j → j ≤ w + 1
counted-most p = omega (arith, p.total)

-- ---- what each of some numbers gives, one after the other

module _ (F : ℕ → List ℕ) (xs : List ℕ) where
  taken-more : (n : ℕ) → n < length xs → take (n + 1) xs ≡ take n xs ++ (get_or xs n 0 ∷ [])
  taken-more n l = rw (add-one n) (take-suc xs n 0 l)

  pub counted-step : {w : ℕ} {a b c : List ℕ} {i j k n : ℕ} → n < length xs → Counted w a i (flat_map F (take n xs)) b j → Counted (length b) b j (F (get_or xs n 0)) c k
      → Counted w a i (flat_map F (take (n + 1) xs)) c k
  counted-step {n = n} l p q =
      let e : flat_map F (take (n + 1) xs) ≡ flat_map F (take n xs) ++ F (get_or xs n 0)
      = ap (flat_map F) (taken-more n l) ∙ flat_map-append F (take n xs) (get_or xs n 0 ∷ []) ∙ ap (λ (z : List ℕ). flat_map F (take n xs) ++ z) (append-nil (F (get_or xs n 0))) in
      counted-as (counted_more (flat_map F (take n xs)) (F (get_or xs n 0)) p (counted-as q p.size refl)) refl (sym e)

  pub counted-done : {w : ℕ} {a b : List ℕ} {i j n : ℕ} → length xs ≤ n → Counted w a i (flat_map F (take n xs)) b j → Counted w a i (flat_map F xs) b j
  counted-done {n = n} l p = counted-as p refl (ap (flat_map F) (take_all n xs l))

-- ---- the numbers of atoms

pub numbers-append : (o : ℕ) (L M : List Atom) → leaf_numbers o (L ++ M) ≡ leaf_numbers o L ++ leaf_numbers o M
unfolding leaf_rows
numbers-append o [] M = refl
numbers-append o (a ∷ L) M = ap (λ (z : List ℕ). row_number (leaf_row o a) ∷ z) (numbers-append o L M)

-- of what each entry gives
pub numbers-each : (o : ℕ) (f : Entry → List Atom) (xs : List ℕ)
    → leaf_numbers o (flat_map f (entries_in xs)) ≡ flat_map (λ x. leaf_numbers o (f (entry_of_row x))) xs
unfolding leaf_rows
numbers-each o f [] = refl
numbers-each o f (x ∷ xs) =
    numbers-append o (f (entry_of_row x)) (flat_map f (entries_in xs))
    ∙ ap (λ (z : List ℕ). leaf_numbers o (f (entry_of_row x)) ++ z) (numbers-each o f xs)
