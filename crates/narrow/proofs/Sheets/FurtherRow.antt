-- A line more at each entry, after the others: what is refused by another line is refused without it, and nothing is
-- refused exactly if nothing is without it and the line applies to no entry.
-- Assumes nothing.
use Prim.Native.Nat.{◌+◌, ◌<◌, ◌≤◌, suc, zero, ℕ}
use mathlib.Core.Bool.{Bool, false, not, true}
use mathlib.Core.List.{List, [], ◌∷◌, ◌++◌}
use mathlib.Core.Logic.{◌↔◌}
use mathlib.Core.Path.{◌∙◌, ◌≡◌, refl, sym}
use native.Mathlib.Omega.{arith}
use Rattle.base.proofs.Tests.{bool_cases, eq-cases}
use Rattle.blocks.proofs.Refusing.FirstFault.{first-append, or_else}
use Rattle.blocks.specs.Faults.{Clean, Fault, Faulty, Finding, fault, first, rows_from}
use Rattle.blocks.specs.declared.Cause.{Cause}

finding-cases {ℓ} : {A : Type ℓ} (f : Finding) → (f ≡ Clean → A) → ((k : Cause) (p : ℕ) → f ≡ Faulty k p → A) → A
finding-cases Clean f g = f refl
finding-cases (Faulty k p) f g = g k p refl

not-faulty : {A : Type 0} {k : Cause} {p : ℕ} → Faulty k p ≡ Clean → A
not-faulty e = cc

module _ (R : ℕ → List Fault) (ok : ℕ → Bool) (x : Cause) where
  -- the lines with the further one
  abbrev pub with_row : ℕ → List Fault
  with_row n = R n ++ (fault (not (ok n)) x n ∷ [])

  -- what one entry's lines find
  here-ok : (n : ℕ) → ok n ≡ true → first (with_row n) ≡ first (R n)
  unfolding first
  here-ok n e = rw (first-append (R n) (fault (not (ok n)) x n ∷ []), e) (drop (first (R n)))
    where
      drop : (f : Finding) → or_else f Clean ≡ f
      drop Clean = refl
      drop (Faulty k p) = refl

  here-not : (n : ℕ) → ok n ≡ false → first (R n) ≡ Clean → first (with_row n) ≡ Faulty x n
  unfolding first
  here-not n e c = rw (first-append (R n) (fault (not (ok n)) x n ∷ []), e, c)

  here-faulty : (n : ℕ) {k : Cause} {p : ℕ} → first (R n) ≡ Faulty k p → first (with_row n) ≡ Faulty k p
  here-faulty n c = rw (first-append (R n) (fault (not (ok n)) x n ∷ []), c)

  -- nothing is found
  pub clean-both : (n left : ℕ) → first (rows_from with_row n left) ≡ Clean
      → (first (rows_from R n left) ≡ Clean) × ((j : ℕ) → n ≤ j → j < n + left → ok j ≡ true)
  unfolding rows_from
  clean-both n zero e = (e, λ j a b. absurd (omega arith))
  clean-both n (suc left) e =
      let y : or_else (first (with_row n)) (first (rows_from with_row (suc n) left)) ≡ Clean
      = sym (first-append (with_row n) (rows_from with_row (suc n) left)) ∙ e in
      finding-cases (first (R n))
      (λ c. bool_cases (ok n)
      (λ o.
      let z : first (with_row n) ≡ Clean = here-ok n o ∙ c in
      let ih = clean-both (suc n) left (rw z at y) in (
        rw (first-append (R n) (rows_from R (suc n) left), c) ih.0,
        λ j a b. eq-cases j n (λ q. rw q o) (λ q. ih.1 j (omega arith) (omega arith)),
      ))
      (λ o. let w : Faulty x n ≡ Clean = rw (here-not n o c) at y in not-faulty w))
      (λ k p c. let w : Faulty k p ≡ Clean = rw (here-faulty n c) at y in not-faulty w)

  pub both-clean : (n left : ℕ) → first (rows_from R n left) ≡ Clean → ((j : ℕ) → n ≤ j → j < n + left → ok j ≡ true)
      → first (rows_from with_row n left) ≡ Clean
  unfolding rows_from
  both-clean n zero e f = e
  both-clean n (suc left) e f =
      let y : or_else (first (R n)) (first (rows_from R (suc n) left)) ≡ Clean = sym (first-append (R n) (rows_from R (suc n) left)) ∙ e in
      let o : ok n ≡ true = f n (omega arith) (omega arith) in
      finding-cases (first (R n))
      (λ c. rw (first-append (with_row n) (rows_from with_row (suc n) left), here-ok n o, c)
      (both-clean (suc n) left (rw c at y) (λ j a b. f j (omega arith) (omega arith))))
      (λ k p c. let w : Faulty k p ≡ Clean = rw c at y in not-faulty w)

  -- what another line finds is found without the further one
  pub other-same : (n left : ℕ) {k : Cause} {p : ℕ} → first (rows_from with_row n left) ≡ Faulty k p → (k ≡ x → ⊥)
      → first (rows_from R n left) ≡ Faulty k p
  unfolding rows_from
  other-same n zero e z = e
  other-same n (suc left) {k} {p} e z =
      let y : or_else (first (with_row n)) (first (rows_from with_row (suc n) left)) ≡ Faulty k p
      = sym (first-append (with_row n) (rows_from with_row (suc n) left)) ∙ e in
      finding-cases (first (R n))
      (λ c. bool_cases (ok n)
      (λ o.
      let w : first (with_row n) ≡ Clean = here-ok n o ∙ c in
      rw (first-append (R n) (rows_from R (suc n) left), c) (other-same (suc n) left (rw w at y) z))
      (λ o.
      let w : Faulty x n ≡ Faulty k p = rw (here-not n o c) at y in
      let i : x ≡ k = cc in
      absurd (z (sym i))))
      (λ k' p' c.
      let w : Faulty k' p' ≡ Faulty k p = rw (here-faulty n c) at y in
      rw (first-append (R n) (rows_from R (suc n) left), c) w)

  -- where the further line is found: at an entry that it applies to, before which and at which no other line applies,
  -- nor it before
  pub record Further (n p : ℕ) : Type 0 where
    pub from : n ≤ p
    pub applies : ok p ≡ false
    pub others : (j : ℕ) → n ≤ j → j ≤ p → first (R j) ≡ Clean
    pub before : (j : ℕ) → n ≤ j → j < p → ok j ≡ true

  pub further-found : ((j q : ℕ) → first (R j) ≡ Faulty x q → ⊥) → (n left : ℕ) {p : ℕ} → first (rows_from with_row n left) ≡ Faulty x p
      → Further n p × (p < n + left)
  unfolding rows_from first
  further-found never n zero e = not-faulty (sym e)
  further-found never n (suc left) {p} e =
      let y : or_else (first (with_row n)) (first (rows_from with_row (suc n) left)) ≡ Faulty x p
      = sym (first-append (with_row n) (rows_from with_row (suc n) left)) ∙ e in
      finding-cases (first (R n))
      (λ c. bool_cases (ok n)
      (λ o.
      let w : first (with_row n) ≡ Clean = here-ok n o ∙ c in
      let ih = further-found never (suc n) left (rw w at y) in
      let f = ih.0 in (
        record {
          from = omega (arith, f.from);
          applies = f.applies;
          others = λ j a b. eq-cases j n (λ q. rw q c) (λ q. f.others j (omega arith) b);
          before = λ j a b. eq-cases j n (λ q. rw q o) (λ q. f.before j (omega arith) b);
        },
        omega (arith, ih.1),
      ))
      (λ o.
      let w : Faulty x n ≡ Faulty x p = rw (here-not n o c) at y in
      let i : n ≡ p = cc in (
        record {
          from = omega arith;
          applies = rw (← i) o;
          others = λ j a b. let k : j ≡ n = omega arith in rw k c;
          before = λ j a b. absurd (omega arith);
        },
        omega arith,
      )))
      (λ k q c.
      let w : Faulty k q ≡ Faulty x p = rw (here-faulty n c) at y in
      let i : k ≡ x = cc in
      let j : q ≡ p = cc in
      absurd (never n q (rw i at c)))

  pub found-further : (n left : ℕ) {p : ℕ} → Further n p → p < n + left → first (rows_from with_row n left) ≡ Faulty x p
  unfolding rows_from
  found-further n zero f h = let l = f.from in absurd (omega arith)
  found-further n (suc left) {p} f h =
      let l = f.from in
      let c = f.others n (omega arith) l in
      first-append (with_row n) (rows_from with_row (suc n) left) ∙ eq-cases p n
      (λ z. let o = f.applies in rw (here-not n (rw z at o) c) (rw z))
      (λ z.
      rw (here-ok n (f.before n (omega arith) (omega arith)), c)
      (found-further (suc n) left (record {
        from = omega arith;
        applies = f.applies;
        others = λ j a b. f.others j (omega arith) b;
        before = λ j a b. f.before j (omega arith) b;
      }) (omega arith)))

-- ---- a whole input

module _ (front : List Fault) (R : ℕ → List Fault) (ok : ℕ → Bool) (x : Cause) (total : ℕ) where
  abbrev pub with_all : List Fault
  with_all = front ++ rows_from (with_row R ok x) 1 total

  abbrev pub without : List Fault
  without = front ++ rows_from R 1 total

  -- nothing is found exactly if nothing is without the further line, and it applies to no entry
  pub nothing-exactly : (first with_all ≡ Clean) ↔ ((first without ≡ Clean) × ((j : ℕ) → 1 ≤ j → j ≤ total → ok j ≡ true))
  nothing-exactly = (
    λ e.
        let y : or_else (first front) (first (rows_from (with_row R ok x) 1 total)) ≡ Clean = sym (first-append front (rows_from (with_row R ok x) 1 total)) ∙ e in
        finding-cases (first front)
        (λ c.
        let z = clean-both R ok x 1 total (rw c at y) in
        (first-append front (rows_from R 1 total) ∙ rw c z.0, λ j a b. z.1 j a (omega arith)))
        (λ k p c. let w : Faulty k p ≡ Clean = rw c at y in not-faulty w),
    λ g.
        let y : or_else (first front) (first (rows_from R 1 total)) ≡ Clean = sym (first-append front (rows_from R 1 total)) ∙ g.0 in
        finding-cases (first front)
        (λ c. first-append front (rows_from (with_row R ok x) 1 total) ∙ rw c (both-clean R ok x 1 total (rw c at y) (λ j a b. g.1 j a (omega arith))))
        (λ k p c. let w : Faulty k p ≡ Clean = rw c at y in not-faulty w),
  )

  -- what another line finds is found without the further one
  pub others-same : {k : Cause} {p : ℕ} → first with_all ≡ Faulty k p → (k ≡ x → ⊥) → first without ≡ Faulty k p
  others-same {k} {p} e z =
      let y : or_else (first front) (first (rows_from (with_row R ok x) 1 total)) ≡ Faulty k p = sym (first-append front (rows_from (with_row R ok x) 1 total)) ∙ e in
      finding-cases (first front)
      (λ c. first-append front (rows_from R 1 total) ∙ rw c (other-same R ok x 1 total (rw c at y) z))
      (λ k' p' c. let w : Faulty k' p' ≡ Faulty k p = rw c at y in first-append front (rows_from R 1 total) ∙ rw c w)

  -- what the further line finds: that none of the front applies, and where it is
  pub found-outside : ((q : ℕ) → first front ≡ Faulty x q → ⊥) → ((j q : ℕ) → first (R j) ≡ Faulty x q → ⊥) → {p : ℕ}
      → first with_all ≡ Faulty x p → (first front ≡ Clean) × (Further R ok x 1 p × (p ≤ total))
  found-outside apart never {p} e =
      let rows = rows_from (with_row R ok x) 1 total in
      let y : or_else (first front) (first rows) ≡ Faulty x p = sym (first-append front rows) ∙ e in
      finding-cases (first front)
      (λ c. let f = further-found R ok x never 1 total (rw c at y) in (c, (f.0, omega (arith, f.1))))
      (λ k q c.
      let w : Faulty k q ≡ Faulty x p = rw c at y in
      let i : k ≡ x = cc in
      absurd (apart q (rw i at c)))

  -- and where it is so, it is found
  pub outside-found : {p : ℕ} → first front ≡ Clean → Further R ok x 1 p → p ≤ total → first with_all ≡ Faulty x p
  outside-found c f h =
      first-append front (rows_from (with_row R ok x) 1 total) ∙ rw c (found-further R ok x 1 total f (omega arith))
