-- Rows as entries, and the place that each owner's rows make: what an ascending place says of the entries of its rows.
-- Assumes nothing.
use Prim.Native.Nat.{◌+◌, ◌<◌, ◌≤◌, suc, zero, ℕ}
use lib.Dec.{eqb}
use lib.ListN.{get_or, length}
use mathlib.Core.Bool.{false, true}
use mathlib.Core.List.{List, [], ◌∷◌, map}
use mathlib.Core.Logic.{◌≢◌}
use mathlib.Core.Option.{some}
use mathlib.Core.Path.{◌≡◌, refl, sym}
use native.Mathlib.Omega.{arith}
use Rattle.base.proofs.Tests.{bool_cases, eq-eqb, eqb-self, ne_eqb, tests}
use Rattle.blocks.specs.Entries.{zero_entry}
use Rattle.blocks.specs.declared.Entry.{Entry}
use Rattle.logic.proofs.PlaceTrees.Lookup.{same_rank, same_self}
use Rattle.logic.proofs.PlaceTrees.Order.{before-cases, find-rest}
use Rattle.logic.specs.Canonical.{Above, Ascending}
use Rattle.logic.specs.Normal.{before, find, is_end, rank, sub}
use Rattle.logic.specs.Place.{Atom, Kind, Place, atom, has, lacks, least, most, nothing}
use Rattle.logic.specs.Tree.{Early, Row, end, leaf_row, node_row, row_owner, tree}
use Rattle.meaning.specs.RowEntries.{row_entry}

-- the entry of the row at position i
abbrev pub entry_of_row : List (Row Atom ℕ) → ℕ → Entry
entry_of_row rs i = get_or (map row_entry rs) i zero_entry

-- an atom's kind is not that of 'every'
rank-other : (a : Kind) → 5 ≡ rank a → ⊥
rank-other has e = omega arith
rank-other lacks e = omega arith
rank-other least e = omega arith
rank-other most e = omega arith
rank-other nothing e = omega arith

-- ---- the order of a place's entries

-- where all entries of a place stand after a kind and name, so does each of its rows
pub above-row : (c x k : ℕ) (rs : List (Row Atom ℕ)) (i : ℕ) → i < length rs → Above c x (tree k rs (entry_of_row rs i).owner)
    → before c x (entry_of_row rs i).kind (entry_of_row rs i).name ≡ true
unfolding tree
above-row c x k [] i l h = absurd (omega arith)
above-row c x k (leaf_row o (atom a n m) ∷ rs) zero l h =
    let g : before c x (rank a) n ≡ true × Above c x (tree (suc k) rs o) = rw (eqb-self o) at h in g.0
above-row c x k (node_row o b ∷ rs) zero l h =
    let g : before c x 5 b ≡ true × Above c x (tree (suc k) rs o) = rw (eqb-self o) at h in g.0
above-row c x k (leaf_row o (atom a n m) ∷ rs) (suc i) l h =
    bool_cases (eqb (entry_of_row rs i).owner o)
    (λ q.
    let g : before c x (rank a) n ≡ true × Above c x (tree (suc k) rs (entry_of_row rs i).owner) = rw q at h in
    above-row c x (suc k) rs i (omega arith) g.1)
    (λ q. above-row c x (suc k) rs i (omega arith) (rw q at h))
above-row c x k (node_row o b ∷ rs) (suc i) l h =
    bool_cases (eqb (entry_of_row rs i).owner o)
    (λ q.
    let g : before c x 5 b ≡ true × Above c x (tree (suc k) rs (entry_of_row rs i).owner) = rw q at h in
    above-row c x (suc k) rs i (omega arith) g.1)
    (λ q. above-row c x (suc k) rs i (omega arith) (rw q at h))

-- in an ascending place an earlier row's kind and name stand before a later one's
pub ascending-rows : (k : ℕ) (rs : List (Row Atom ℕ)) (i j o : ℕ) → i < j → j < length rs → (entry_of_row rs i).owner ≡ o → (entry_of_row rs j).owner ≡ o
    → Ascending (tree k rs o) → before (entry_of_row rs i).kind (entry_of_row rs i).name (entry_of_row rs j).kind (entry_of_row rs j).name ≡ true
unfolding tree
ascending-rows k [] i j o u l e f h = absurd (omega arith)
ascending-rows k (r ∷ rs) i zero o u l e f h = absurd (omega arith)
ascending-rows k (leaf_row o' (atom a n m) ∷ rs) zero (suc j) o u l e f h =
    let g : Above (rank a) n (tree (suc k) rs o) × Ascending (tree (suc k) rs o) = rw (e, eqb-self o) at h in
    above-row (rank a) n (suc k) rs j (omega arith) (rw f g.0)
ascending-rows k (node_row o' b ∷ rs) zero (suc j) o u l e f h =
    let g : Above 5 b (tree (suc k) rs o) × (is_end (tree (suc k) rs k) ≡ false) × Ascending (tree (suc k) rs o) = rw (e, eqb-self o) at h in
    above-row 5 b (suc k) rs j (omega arith) (rw f g.0)
ascending-rows k (leaf_row o' (atom a n m) ∷ rs) (suc i) (suc j) o u l e f h =
    bool_cases (eqb o o')
    (λ q.
    let g : Above (rank a) n (tree (suc k) rs o) × Ascending (tree (suc k) rs o) = rw q at h in
    ascending-rows (suc k) rs i j o (omega arith) (omega arith) e f g.1)
    (λ q. ascending-rows (suc k) rs i j o (omega arith) (omega arith) e f (rw q at h))
ascending-rows k (node_row o' b ∷ rs) (suc i) (suc j) o u l e f h =
    bool_cases (eqb o o')
    (λ q.
    let g : Above 5 b (tree (suc k) rs o) × (is_end (tree (suc k) rs k) ≡ false) × Ascending (tree (suc k) rs o) = rw q at h in
    ascending-rows (suc k) rs i j o (omega arith) (omega arith) e f g.2)
    (λ q. ascending-rows (suc k) rs i j o (omega arith) (omega arith) e f (rw q at h))

-- ---- what a place lists

-- an ascending place lists the atom of each of its rows
pub row_listed : (k : ℕ) (rs : List (Row Atom ℕ)) (i : ℕ) (a : Kind) (o n m : ℕ) → i < length rs
    → (entry_of_row rs i).kind ≡ rank a → (entry_of_row rs i).owner ≡ o → (entry_of_row rs i).name ≡ n → (entry_of_row rs i).number ≡ m
    → Ascending (tree k rs o) → find a n (tree k rs o) ≡ some m
unfolding tree find
row_listed k [] i a o n m l ek eo en em h = absurd (omega arith)
row_listed k (leaf_row o' (atom a' n' m') ∷ rs) zero a o n m l ek eo en em h =
    let i : a' ≡ a = same_rank a' a (eq-eqb ek) in
    rw (eo, eqb-self o, i, en, em, same_self a n)
row_listed k (node_row o' b ∷ rs) zero a o n m l ek eo en em h = absurd (rank-other a ek)
row_listed k (leaf_row o' (atom a' n' m') ∷ rs) (suc i) a o n m l ek eo en em h =
    bool_cases (eqb o o')
    (λ q.
    let g : Above (rank a') n' (tree (suc k) rs o) × Ascending (tree (suc k) rs o) = rw q at h in
    let ih : find a n (tree (suc k) rs o) ≡ some m = row_listed (suc k) rs i a o n m (omega arith) ek eo en em g.1 in
    rw q (find-rest a' n' m' (tree (suc k) rs o) g.0 a n m ih))
    (λ q. rw q (row_listed (suc k) rs i a o n m (omega arith) ek eo en em (rw q at h)))
row_listed k (node_row o' b ∷ rs) (suc i) a o n m l ek eo en em h =
    bool_cases (eqb o o')
    (λ q.
    let g : Above 5 b (tree (suc k) rs o) × (is_end (tree (suc k) rs k) ≡ false) × Ascending (tree (suc k) rs o) = rw q at h in
    rw q (row_listed (suc k) rs i a o n m (omega arith) ek eo en em g.2))
    (λ q. rw q (row_listed (suc k) rs i a o n m (omega arith) ek eo en em (rw q at h)))

-- what an entry owns stands in the rows after it
skip-row : (r : Row Atom ℕ) (k : ℕ) (rs : List (Row Atom ℕ)) (o : ℕ) → row_owner r < k → k ≤ o → tree (suc k) rs o ≡ tree k (r ∷ rs) o
unfolding tree
skip-row (leaf_row o' a) k rs o h l = let z : eqb o o' ≡ false = omega tests in rw z
skip-row (node_row o' b) k rs o h l = let z : eqb o o' ≡ false = omega tests in rw z

-- what an 'every' row at number n owns is the place below its owner's by its link, and it is not empty
pub record EveryRow (t s : Place) (link : ℕ) : Type 0 where
  pub below-link : sub link t ≡ s
  pub owns : is_end s ≡ false

every-later : {t s s' : Place} {l : ℕ} → s ≡ s' → EveryRow t s l → EveryRow t s' l
every-later e h = rw (← e) h

pub every-row : (k : ℕ) (rs : List (Row Atom ℕ)) → Early k rs → (i n o l : ℕ) → i < length rs → n ≡ k + i
    → (entry_of_row rs i).kind ≡ 5 → (entry_of_row rs i).owner ≡ o → (entry_of_row rs i).name ≡ l
    → Ascending (tree k rs o) → EveryRow (tree k rs o) (tree k rs n) l
unfolding tree sub
every-row k [] y i n o l u v ek eo el h = absurd (omega arith)
every-row k (leaf_row o' (atom a m c) ∷ rs) y zero n o l u v ek eo el h = absurd (rank-other a (omega arith))
every-row k (node_row o' b ∷ rs) y zero n o l u v ek eo el h =
    let g : Above 5 b (tree (suc k) rs o) × (is_end (tree (suc k) rs k) ≡ false) × Ascending (tree (suc k) rs o) = rw (eo, eqb-self o) at h in
    let w : n ≡ k = omega arith in
    every-later {s = tree (suc k) rs k} (rw w (skip-row (node_row o' b) k rs k y.0 (omega arith)))
    (record { below-link = rw (eo, eqb-self o, el, eqb-self l); owns = g.1 })
every-row k (leaf_row o' (atom a m c) ∷ rs) y (suc i) n o l u v ek eo el h =
    every-later (skip-row (leaf_row o' (atom a m c)) k rs n y.0 (omega arith))
    (bool_cases (eqb o o')
    (λ q.
    let g : Above (rank a) m (tree (suc k) rs o) × Ascending (tree (suc k) rs o) = rw q at h in
    let ih : EveryRow (tree (suc k) rs o) (tree (suc k) rs n) l = every-row (suc k) rs y.1 i n o l (omega arith) (omega arith) ek eo el g.1 in
    record { below-link = rw q ih.below-link; owns = ih.owns })
    (λ q. rw q (every-row (suc k) rs y.1 i n o l (omega arith) (omega arith) ek eo el (rw q at h))))
every-row k (node_row o' b ∷ rs) y (suc i) n o l u v ek eo el h =
    every-later (skip-row (node_row o' b) k rs n y.0 (omega arith))
    (bool_cases (eqb o o')
    (λ q.
    let g : Above 5 b (tree (suc k) rs o) × (is_end (tree (suc k) rs k) ≡ false) × Ascending (tree (suc k) rs o) = rw q at h in
    let ih : EveryRow (tree (suc k) rs o) (tree (suc k) rs n) l = every-row (suc k) rs y.1 i n o l (omega arith) (omega arith) ek eo el g.2 in
    let p : before 5 b (entry_of_row rs i).kind (entry_of_row rs i).name ≡ true = above-row 5 b (suc k) rs i (omega arith) (rw eo g.0) in
    let z : eqb l b ≡ false = before-cases 5 b 5 l (rw (ek, el) at p) (λ x. absurd (omega arith)) (λ x w. omega tests) in
    record { below-link = rw (q, z) ih.below-link; owns = ih.owns })
    (λ q. rw q (every-row (suc k) rs y.1 i n o l (omega arith) (omega arith) ek eo el (rw q at h))))

-- ---- places without rows

-- a number that owns no row has an empty place
pub no_rows : (k : ℕ) (rs : List (Row Atom ℕ)) (o : ℕ) → ((i : ℕ) → i < length rs → (entry_of_row rs i).owner ≢ o) → tree k rs o ≡ end
unfolding tree
no_rows k [] o h = refl
no_rows k (leaf_row o' (atom a n m) ∷ rs) o h =
    let z : eqb o o' ≡ false = ne_eqb (λ e. h 0 (omega arith) (sym e)) in
    rw z (no_rows (suc k) rs o (λ i l. h (suc i) (omega arith)))
no_rows k (node_row o' b ∷ rs) o h =
    let z : eqb o o' ≡ false = ne_eqb (λ e. h 0 (omega arith) (sym e)) in
    rw z (no_rows (suc k) rs o (λ i l. h (suc i) (omega arith)))
