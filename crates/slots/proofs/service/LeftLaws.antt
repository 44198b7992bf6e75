-- An iterator that counts, over the entries of a service that are left: where it begins, what a call of it gives, and where it ends.
-- Assumes nothing.
use Rattle.std.proofs.Common.{◌≡◌, ◌+◌, ◌-◌, ◌∷◌, ◌^◌, ◌<◌, ◌≤◌, ℕ, Err, List, None, Ok, Result, Some, add-one, ap, arith, drop, drop-cons, get_or, length, length-drop, length-take-le, subst, suc, sym, take, ◌∙◌}
use mathlib.Core.Logic.{inl}
use denote.Ref.{Bor}
use Rattle.std.proofs.lemmas.List.{get_or-take}
use Rattle.std.specs.Iterator.{item_count}
use Rattle.std.specs.Iterator.Adapters.{enumerate_count, enumerate_source, enumerate_steps}
use Rattle.std.specs.Iterator.Runs.{CountFits}
use Rattle.std.specs.declared.iter.Enumerate.{Enumerate}
use Rattle.blocks.proofs.Refusing.InOrder.{left_of, steps, there-front}
use Rattle.blocks.proofs.Refusing.LevelLaws.{entries-end}
use Rattle.blocks.specs.Entries.{entries_of, entry_from, nth, zero_entry}
use Rattle.blocks.specs.Faults.{Clean, Faulty, first}
use Rattle.blocks.specs.code.Blockwise.{Whole, entries_there}
use Rattle.blocks.specs.code.ReadingSteps.{Levels, rule_faults}
use Rattle.blocks.specs.declared.Entry.{Entry}
use Rattle.blocks.specs.declared.Refusal.{Refusal}
use Rattle.blocks.specs.declared.Schema.TheVariants.{Named}
use Rattle.blocks.specs.declared.in_order.InOrder.{InOrder}
use Rattle.slots.specs.code.Pass.{EntryChecked, Left, left_in}

module _ {d : List ℕ} {total : ℕ} where
  pub left-start : {made : InOrder} {it : Enumerate InOrder} → Whole d total → total ≤ length (entries_of d)
      → left_of made ≡ entries_there d total
      → enumerate_source it ≡ made → enumerate_count it ≡ 0 → Left d total it
  left-start w few m f z = record { few = few; given = omega (arith, z); left = rw (f, z) (m ∙ there-front d total w few) }

  -- those given and those left are all
  pub left-length : {it : Enumerate InOrder} → Left d total it → enumerate_count it + length (left_in it) ≡ total
  left-length {it} L =
      omega (arith, L.given, ap length L.left, length-drop (enumerate_count it) (take total (entries_of d)), length-take-le total (entries_of d) L.few)

  -- it may be called: its numbers fit
  pub left-may : (it : Enumerate InOrder) → Left d total it → total < 2 ^ 64
      → CountFits steps (item_count left_of) (enumerate_count it) (enumerate_source it)
  left-may it L h = inl (omega (arith, left-length L))

  -- the next is the one after those given
  pub left-next : (t u : Enumerate InOrder) (k : ℕ) (b : Bor (List ℕ)) → Left d total t → enumerate_steps steps t (Some (k, b)) u
      → (k ≡ enumerate_count t) × (k < total) × (entry_from b.now 0 ≡ nth (entries_of d) (k + 1))
      × Left d total u × (enumerate_count u ≡ k + 1)
  unfolding nth
  left-next t u k b L h =
      let es = entries_of d in
      let n = enumerate_count t in
      let xs = take total es in
      let all = length-take-le total es L.few in
      let some : n < total = omega (arith, left-length L, ap length h.0) in
      let e : get_or xs n zero_entry ∷ drop (suc n) xs ≡ entry_from b.now 0 ∷ left_in u =
      sym (drop-cons xs n zero_entry (omega (arith, all))) ∙ sym L.left ∙ h.0 in
      let on : enumerate_count u ≡ suc n = omega (arith, h.2) in (
        h.1,
        omega (arith, h.1),
        rw (add-one k, h.1) (sym (ap (λ (l : List Entry). get_or l 0 zero_entry) e) ∙ get_or-take total es n zero_entry some),
        record { few = L.few; given = omega (arith, on); left = rw on (sym (ap (drop 1) e)) },
        omega (arith, h.1, h.2),
      )

  -- where there is none, all are given
  pub left-end : (t u : Enumerate InOrder) → Left d total t → enumerate_steps steps t None u → enumerate_count t ≡ total
  left-end t u L h = omega (arith, left-length L, ap length h.0.0)

-- Some are left of those after the first n: the table has the levels of those given, and what a search from n on finds is what one of those
-- left does.
pub record Resting (d : List ℕ) (total n : ℕ) (it : Enumerate InOrder) (level : List ℕ) : Type 0 where
  pub left : Left d total it
  pub levels : Levels (Named 0) (entries_of d) level (enumerate_count it + 1)
  pub rest : first (rule_faults (Named 0) (entries_of d) (n + 1) (total + 1 - (n + 1)))
      ≡ first (rule_faults (Named 0) (entries_of d) (enumerate_count it + 1) (total + 1 - (enumerate_count it + 1)))

-- a search of those after none is one of all
pub all-faults : (es : List Entry) (total : ℕ)
    → first (rule_faults (Named 0) es 1 total) ≡ first (rule_faults (Named 0) es (0 + 1) (total + 1 - (0 + 1)))
all-faults es total = let e : total + 1 - 1 ≡ total = omega arith in rw e

-- none is passed, or all are
pub resting-start : {d : List ℕ} {total : ℕ} {it : Enumerate InOrder} {level : List ℕ} → Left d total it → enumerate_count it ≡ 0
    → Levels (Named 0) (entries_of d) level 1 → Resting d total 0 it level
resting-start L z T = record { left = L; levels = rw z T; rest = rw z }

pub resting-all : {d : List ℕ} {total n : ℕ} {it : Enumerate InOrder} {level : List ℕ} → Resting d total n it level → enumerate_count it ≡ total
    → first (rule_faults (Named 0) (entries_of d) (n + 1) (total + 1 - (n + 1))) ≡ Clean
resting-all R e = R.rest ∙ entries-end _ _ _ _ (omega (arith, e))

-- what checking the next one gives
abbrev Checks : Entry → ℕ → List ℕ → ℕ → Result (Unit {0}) Refusal → List ℕ → Type 0
Checks e n level i r after =
    (es : List Entry) → Levels (Named 0) es level n → 1 ≤ n → n ≤ length es → e ≡ nth es n → EntryChecked es n i r after

module _ {d : List ℕ} {total n : ℕ} {t : Enumerate InOrder} {level : List ℕ} (R : Resting d total n t level)
    (u : Enumerate InOrder) (k : ℕ) (b : Bor (List ℕ)) (h : enumerate_steps steps t (Some (k, b)) u)
    {e : Entry} (is' : e ≡ entry_from b.now 0) (i : ℕ) (r : Result (Unit {0}) Refusal) (after : List ℕ)
    (C : Checks e (k + 1) level i r after) where
  checked : EntryChecked (entries_of d) (k + 1) i r after
  checked =
      let x = left-next t u k b R.left h in
      C (entries_of d) (rw (x.0) R.levels) (omega arith) (omega (arith, x.1, R.left.few)) (is' ∙ x.2)

  pub resting-more : {v : Unit {0}} → r ≡ Ok v → Resting d total n u after
  resting-more q =
      let x = left-next t u k b R.left h in
      let y = subst (λ s. EntryChecked (entries_of d) (k + 1) i s after) q checked in
      record {
        left = x.3;
        levels = rw x.4 y.0;
        rest = R.rest ∙ rw (← x.0, x.4) (y.1 total (omega (arith, x.1)));
      }

  pub resting-refused : {x : Refusal} → r ≡ Err x
      → (first (rule_faults (Named 0) (entries_of d) (n + 1) (total + 1 - (n + 1))) ≡ Faulty x.cause x.place) × (x.input ≡ i)
  resting-refused q =
      let x = left-next t u k b R.left h in
      let y = subst (λ s. EntryChecked (entries_of d) (k + 1) i s after) q checked in
      (R.rest ∙ rw (← x.0) (y.0 total (omega (arith, x.1))), y.1)
