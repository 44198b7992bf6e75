-- The entries of a place stand together.
-- Assumes nothing.
use Prim.Native.Nat.{◌+◌, ◌-◌, ◌<◌, ◌≤◌, suc, ℕ}
use lib.Dec.{eqb}
use lib.ListN.{drop, get_or, length, length-drop, take}
use lib.Seq.{length-take-le}
use mathlib.Core.Bool.{false, true}
use mathlib.Core.List.{List, [], ◌++◌, ◌∷◌, append-nil, map-append}
use mathlib.Core.Logic.{◌≢◌}
use mathlib.Core.Path.{◌∙◌, ◌≡◌, ap, refl, sym}
use native.Mathlib.Omega.{arith}
use Rattle.base.proofs.Tests.{bool_cases, eq-eqb, lt-cases, ne_eqb}
use Rattle.blocks.specs.declared.Entry.{Entry}
use Rattle.narrowest.proofs.form.SeekLaws.{entry-small}
use Rattle.narrowest.specs.code.Forms.{Seeks, Spans, entries_in, key_for, key_in, owned_by}
use Rattle.std.proofs.lemmas.List.{get_or-drop, get_or-take, take-append-drop}
use Rattle.unfolding.specs.code.Rows.{entry_of_row}

-- ---- the entries of one owner, among others

pub owned-append : (o : ℕ) (es fs : List Entry) → owned_by o (es ++ fs) ≡ owned_by o es ++ owned_by o fs
unfolding owned_by
owned-append o [] fs = refl
owned-append o (e ∷ es) fs = bool_cases (eqb o e.owner) (λ q. rw (q, owned-append o es fs)) (λ q. rw (q, owned-append o es fs))

pub owned-split : (o : ℕ) (xs ys : List ℕ) → owned_by o (entries_in (xs ++ ys)) ≡ owned_by o (entries_in xs) ++ owned_by o (entries_in ys)
owned-split o xs ys = ap (owned_by o) (map-append entry_of_row xs ys) ∙ owned-append o (entries_in xs) (entries_in ys)

owned-none : (o : ℕ) (rows : List ℕ) → ((i : ℕ) → i < length rows → (entry_of_row (get_or rows i 0)).owner ≢ o) → owned_by o (entries_in rows) ≡ []
unfolding owned_by
owned-none o [] h = refl
owned-none o (x ∷ rows) h =
    let z : eqb o (entry_of_row x).owner ≡ false = ne_eqb (λ y. h 0 (omega arith) (sym y)) in
    rw z (owned-none o rows (λ i l. h (suc i) (omega arith)))

owned-all : (o : ℕ) (rows : List ℕ) → ((i : ℕ) → i < length rows → (entry_of_row (get_or rows i 0)).owner ≡ o) → owned_by o (entries_in rows) ≡ entries_in rows
unfolding owned_by
owned-all o [] h = refl
owned-all o (x ∷ rows) h =
    let z : eqb o (entry_of_row x).owner ≡ true = eq-eqb (sym (h 0 (omega arith))) in
    rw z (ap (λ (q : List Entry). entry_of_row x ∷ q) (owned-all o rows (λ i l. h (suc i) (omega arith))))

-- ---- between two places in the order

-- the key of a place's entries
owner-key : (x o : ℕ) → (key_in x < key_for o 0 0 → (entry_of_row x).owner < o) × (key_for o 0 0 ≤ key_in x → o ≤ (entry_of_row x).owner)
unfolding key_in
owner-key x o = let b = entry-small x in (λ h. omega (arith, b.0, b.1), λ h. omega (arith, b.0, b.1))

module _ (rows : List ℕ) (o : ℕ) {from to next : ℕ} (after : next ≡ key_for (o + 1) 0 0) (S : Seeks rows (key_for o 0 0) from) (N : Seeks rows next to) where
  abbrev z : List ℕ
  z = take (to - from) (drop from rows)

  -- the second is not before the first
  pub between-order : from ≤ to
  between-order =
      leb-cases from to
      (λ l. l)
      (λ l.
      let a = S.below to l in
      let b = N.above to (omega arith) (omega (arith, S.to)) in
      absurd (omega (arith, after)))
    where
      leb-cases : (a b : ℕ) {A : Type 0} → (a ≤ b → A) → (b < a → A) → A
      leb-cases a b f g = lt-cases b a g (λ l. f (omega arith))

  size : length z ≡ to - from
  size = length-take-le (to - from) (drop from rows) (omega (arith, length-drop from rows, N.to, between-order))

  -- the numbers by their place
  at : (i : ℕ) → i < to - from → get_or z i 0 ≡ get_or rows (from + i) 0
  at i l = get_or-take (to - from) (drop from rows) i 0 l ∙ get_or-drop from rows i 0

  parts : rows ≡ take from rows ++ (z ++ drop (to - from) (drop from rows))
  parts = sym (take-append-drop from rows) ∙ ap (λ (q : List ℕ). take from rows ++ q) (sym (take-append-drop (to - from) (drop from rows)))

  first-none : owned_by o (entries_in (take from rows)) ≡ []
  first-none =
      owned-none o (take from rows) (λ i l y.
      let m : i < from = omega (arith, length-take-le from rows S.to) in
      let a = (owner-key (get_or rows i 0) o).0 (S.below i m) in
      let e = get_or-take from rows i 0 m in
      absurd (omega (arith, ap (λ (x : ℕ). (entry_of_row x).owner) e)))

  last-none : owned_by o (entries_in (drop (to - from) (drop from rows))) ≡ []
  last-none =
      owned-none o (drop (to - from) (drop from rows)) (λ i l y.
      let n = length-drop (to - from) (drop from rows) in
      let n' = length-drop from rows in
      let j : ℕ = from + (to - from + i) in
      let a = (owner-key (get_or rows j 0) (o + 1)).1 (rw (← after) (N.above j (omega (arith, between-order)) (omega (arith, n, n', between-order, N.to)))) in
      let e = get_or-drop (to - from) (drop from rows) i 0 ∙ get_or-drop from rows (to - from + i) 0 in
      absurd (omega (arith, ap (λ (x : ℕ). (entry_of_row x).owner) e)))

  all-own : owned_by o (entries_in z) ≡ entries_in z
  all-own =
      owned-all o z (λ i l.
      let m : i < to - from = omega (arith, size) in
      let a = (owner-key (get_or rows (from + i) 0) o).1 (S.above (from + i) (omega arith) (omega (arith, N.to))) in
      let b = (owner-key (get_or rows (from + i) 0) (o + 1)).0 (rw (← after) (N.below (from + i) (omega arith))) in
      let e = ap (λ (x : ℕ). (entry_of_row x).owner) (at i m) in
      omega (arith, e))

  whole : owned_by o (entries_in rows) ≡ owned_by o (entries_in (take from rows)) ++ (owned_by o (entries_in z) ++ owned_by o (entries_in (drop (to - from) (drop from rows))))
  whole =
      ap (λ (q : List ℕ). owned_by o (entries_in q)) parts ∙ owned-split o (take from rows) (z ++ drop (to - from) (drop from rows))
      ∙ ap (λ (q : List Entry). owned_by o (entries_in (take from rows)) ++ q) (owned-split o z (drop (to - from) (drop from rows)))

  pub spans-between : Spans rows o from z
  spans-between =
      record {
        to = omega (arith, size, between-order, N.to);
        held = ap (λ (n : ℕ). take n (drop from rows)) (sym size);
        owns = sym (whole ∙ rw (first-none, last-none, all-own) (append-nil (entries_in z)));
      }
