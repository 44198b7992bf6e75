-- Laws of tables that are filled row by row, and of the jobs that they stand for.
-- Assumes nothing.
use Prim.Native.Nat.{◌+◌, ◌-◌, ◌<◌, ◌≤◌, suc, zero, ℕ}
use lib.Dec.{eqb}
use lib.ListN.{get_or, length, length-append, length-set, set, take}
use lib.Seq.{get_or-set_other, get_or-set_same, take-suc-set}
use mathlib.Core.List.{List, [], ◌++◌, ◌∷◌, append_assoc, append-nil}
use mathlib.Core.Logic.{◌≢◌}
use mathlib.Core.Path.{◌∙◌, ◌≡◌, ap, refl, subst, sym}
use mathlib.Core.Bool.{cond}
use native.Mathlib.Nat.{add_assoc, add-zero}
use native.Mathlib.Numerals.{add-one}
use native.Mathlib.Omega.{arith}
use Rattle.base.proofs.Tests.{bool_cases, eq-cases, eq-eqb, ne_eqb}
use Rattle.logic.specs.Filling.{Filled, Joined, later_each, noted, queue_from}
use Rattle.logic.specs.Layout.{Queue, job, later}

-- ---- numbers after numbers

pub filled_none : {w : ℕ} {rows : List ℕ} {n : ℕ} → length rows ≡ w → Filled w rows n [] rows n
filled_none {w} {rows} {n} l = record { size = l; total = sym (add-zero n); held = sym (append-nil (take n rows)) }

pub filled-one : {w : ℕ} {rows : List ℕ} {n x y : ℕ} → length rows ≡ w → n < w → x ≡ y → Filled w rows n (y ∷ []) (set rows n x) (n + 1)
filled-one {w} {rows} {n} {x} {y} l b e =
    record { size = length-set rows n x ∙ l; total = refl; held = rw (add-one n) (take-suc-set rows n x (omega (arith, l)) ∙ rw e) }

pub filled_more : {w : ℕ} {a b c : List ℕ} {i j k : ℕ} {L M : List ℕ} → Filled w a i L b j → Filled w b j M c k → Filled w a i (L ++ M) c k
filled_more {w} {a} {b} {c} {i} {j} {k} {L} {M} p q =
    record {
      size = q.size;
      total = q.total ∙ rw (p.total, length-append L M, add_assoc);
      held = q.held ∙ rw (p.held, append_assoc);
    }

-- from the first row on, what the table held before is of no account
pub filled-anew : {w : ℕ} {a b : List ℕ} {j : ℕ} {L : List ℕ} (c : List ℕ) → Filled w a 0 L b j → Filled w c 0 L b j
filled-anew c p = record { size = p.size; total = p.total; held = p.held }

-- ---- codes that are noted

-- the table stays as long as it was
pub noted-length : (below : List ℕ) (k : ℕ) (cs : List ℕ) → length (noted below k cs) ≡ length below
unfolding noted
noted-length below k [] = refl
noted-length below k (c ∷ cs) = noted-length (set below k c) (suc k) cs ∙ length-set below k c

-- rows after those that codes are noted for keep theirs
pub noted-after : (below : List ℕ) (k : ℕ) (cs : List ℕ) (j : ℕ) → k + length cs ≤ j → get_or (noted below k cs) j 0 ≡ get_or below j 0
unfolding noted
noted-after below k [] j l = refl
noted-after below k (c ∷ cs) j l = noted-after (set below k c) (suc k) cs j (omega arith) ∙ get_or-set_other below k j c 0 (λ q. omega arith)

-- codes after codes
pub noted-append : (below : List ℕ) (k : ℕ) (cs ds : List ℕ) → noted below k (cs ++ ds) ≡ noted (noted below k cs) (k + length cs) ds
unfolding noted
noted-append below k [] ds = rw (add-zero k)
noted-append below k (c ∷ cs) ds =
    noted-append (set below k c) (suc k) cs ds ∙ (let e : suc k + length cs ≡ k + suc (length cs) = omega arith in rw e)

-- none of the codes is 0, and each is good
abbrev pub Codes : (ℕ → Type 0) → List ℕ → Type 0
Codes Good [] = Unit {0}
Codes Good (c ∷ cs) = (c ≢ 0) × Good c × Codes Good cs

-- good codes noted in a table of good codes
pub noted-good : (Good : ℕ → Type 0) (below : List ℕ) (k : ℕ) (cs : List ℕ) → Codes Good cs → k + length cs ≤ length below
    → ((j : ℕ) → get_or below j 0 ≢ 0 → Good (get_or below j 0)) → (j : ℕ) → get_or (noted below k cs) j 0 ≢ 0 → Good (get_or (noted below k cs) j 0)
unfolding noted
noted-good Good below k [] s l h = h
noted-good Good below k (c ∷ cs) s l h =
    noted-good Good (set below k c) (suc k) cs s.2 (omega (arith, length-set below k c))
    (λ j. eq-cases j k (λ e. rw (e, get_or-set_same below k c 0 (omega arith)) (λ z. s.1)) (λ e. rw (get_or-set_other below k j c 0 e) (h j)))

-- ---- numbers and codes

pub joined-none : {w : ℕ} {rows below : List ℕ} {n at : ℕ} → length rows ≡ w → Joined w rows n [] below at [] rows n below
unfolding noted
joined-none l = record { pushed = filled_none l; notes = refl }

-- a row and its code
pub joined-one : {w : ℕ} {rows below : List ℕ} {n c x y : ℕ} → length rows ≡ w → n < w → x ≡ y
    → Joined w rows n (y ∷ []) below (n + 1) (c ∷ []) (set rows n x) (n + 1) (set below (n + 1) c)
unfolding noted
joined-one l b e = record { pushed = filled-one l b e; notes = refl }

-- rows without codes, then rows with codes
pub joined-after : {w : ℕ} {a b c β β' : List ℕ} {i j k at at' : ℕ} {L M cs : List ℕ} → Filled w a i L b j → Joined w b j M β at cs c k β' → at ≡ at'
    → Joined w a i (L ++ M) β at' cs c k β'
joined-after p q e = record { pushed = filled_more p q.pushed; notes = rw (← e) q.notes }

-- rows with codes, then further rows with codes
pub joined-more : {w : ℕ} {a b c β β' β'' : List ℕ} {i j k at at' : ℕ} {L M cs ds : List ℕ} → Joined w a i L β at cs b j β' → Joined w b j M β' at' ds c k β''
    → at' ≡ at + length cs → Joined w a i (L ++ M) β at (cs ++ ds) c k β''
joined-more {β = β} {at = at} {cs = cs} {ds = ds} p q e =
    record { pushed = filled_more p.pushed q.pushed; notes = q.notes ∙ rw (p.notes, e) (sym (noted-append β at cs ds)) }

-- ---- the jobs in a table

module _ {X : Type 0} (T : ℕ → X) where
  -- rows that lead nowhere add no job
  pub queue-none : (below : List ℕ) (i n m : ℕ) → ((j : ℕ) → i + n ≤ j → j < i + n + m → get_or below j 0 ≡ 0)
      → queue_from T below i (n + m) ≡ queue_from T below i n
  unfolding queue_from
  queue-none below i zero zero h = refl
  queue-none below i zero (suc m) h =
      let e : 0 + suc m ≡ suc m = omega arith in
      let z : get_or below i 0 ≡ 0 = h i (omega arith) (omega arith) in
      let r = queue-none below (suc i) 0 m (λ j a b. h j (omega arith) (omega arith)) in
      let f : 0 + m ≡ m = omega arith in
      rw (e, queue_from, eq-eqb z) (rw f at r)
  queue-none below i (suc n) m h =
      let e : suc n + m ≡ suc (n + m) = omega arith in
      rw (e, queue_from, queue-none below (suc i) n m (λ j a b. h j (omega arith) (omega arith)))

  -- a row that leads somewhere adds a job at the end
  queue-more : (below : List ℕ) (i n c : ℕ) → c ≢ 0 → i + n < length below
      → queue_from T (set below (i + n) c) i (suc n) ≡ later (queue_from T below i n) (i + n) (T c)
  unfolding queue_from later
  queue-more below i zero c z l =
      let e : i + 0 ≡ i = add-zero i in
      rw (e, queue_from, get_or-set_same below i c 0 (omega arith), ne_eqb z)
  queue-more below i (suc n) c z l =
      let e : i + suc n ≡ suc i + n = omega arith in
      let r = queue-more below (suc i) n c z (omega arith) in
      let B = set below (suc i + n) c in
      let Q : Queue X = later (queue_from T below (suc i) n) (suc i + n) (T c) in
      let g = get_or-set_other below (suc i + n) i c 0 (λ q. omega arith) in
      subst (λ (j : ℕ). queue_from T (set below j c) i (suc (suc n)) ≡ later (queue_from T below i (suc n)) j (T c)) (sym e)
      (ap (λ (q : Queue X). cond (eqb (get_or B i 0) 0) q (job i (T (get_or B i 0)) q)) r
      ∙ ap (λ (k : ℕ). cond (eqb k 0) Q (job i (T k) Q)) g
      ∙ bool_cases (eqb (get_or below i 0) 0) (λ q. rw (queue_from, q)) (λ q. rw (queue_from, q)))

  -- the rows that codes are noted for become jobs
  pub queue-each : (Good : ℕ → Type 0) (below : List ℕ) (i n : ℕ) (cs : List ℕ) → Codes Good cs → i + n + length cs ≤ length below
      → queue_from T (noted below (i + n) cs) i (n + length cs) ≡ later_each T (queue_from T below i n) (i + n) cs
  unfolding noted later_each
  queue-each Good below i n [] s l = rw add-zero
  queue-each Good below i n (c ∷ cs) s l =
      let e : n + suc (length cs) ≡ suc n + length cs = omega arith in
      let f : suc (i + n) ≡ i + suc n = omega arith in
      let r = queue-each Good (set below (i + n) c) i (suc n) cs s.2 (omega (arith, length-set below (i + n) c)) in
      rw (e, f, r, queue-more below i n c s.0 (omega arith))

  -- row k, where it leads nowhere, and where it leads somewhere
  pub queue-past : (below : List ℕ) (k count : ℕ) → k ≤ count → get_or below k 0 ≡ 0
      → queue_from T below k (count + 1 - k) ≡ queue_from T below (k + 1) (count + 1 - (k + 1))
  unfolding queue_from
  queue-past below k count l z =
      let e : count + 1 - k ≡ suc (count + 1 - (k + 1)) = omega arith in
      rw (e, queue_from, eq-eqb z, add-one k)

  pub queue-next : (below : List ℕ) (k count : ℕ) → k ≤ count → get_or below k 0 ≢ 0
      → queue_from T below k (count + 1 - k) ≡ job k (T (get_or below k 0)) (queue_from T below (k + 1) (count + 1 - (k + 1)))
  unfolding queue_from
  queue-next below k count l z =
      let e : count + 1 - k ≡ suc (count + 1 - (k + 1)) = omega arith in
      rw (e, queue_from, ne_eqb z, add-one k)
