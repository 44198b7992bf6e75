-- Laws of the second pass: one slot settled.
-- Assumes nothing.
use Prim.Native.Nat.{◌%◌, ◌-◌, ◌/◌, ◌<◌, ◌≤◌, suc, ℕ}
use lib.Dec.{eqb}
use lib.ListN.{get_or, length, length-set, set}
use lib.Seq.{get_or-set_other, get_or-set_same}
use mathlib.Core.Bool.{Bool, ◌&&◌, ◌||◌, cond, false, not, true}
use mathlib.Core.List.{List, ◌∷◌}
use mathlib.Core.Logic.{inl}
use mathlib.Core.Path.{◌∙◌, ◌≡◌, ap, refl, subst, sym}
use native.Mathlib.Omega.{arith}
use Rattle.base.proofs.Tests.{and_zero, bool_cases, eq-cases, eq-eqb, ne_eqb}
use Rattle.base.specs.Range.{bit}
use Rattle.logic.specs.Normal.{found}
use Rattle.passes.specs.code.Slots.{Slot, broken, closed, inconsistent, nonempty, settled, slot}
use Rattle.slots.proofs.slots.TableLaws.{high-made, key-made, low-made, slots-other}
use Rattle.slots.specs.code.Tables.{Blank, Placed, Settling, Slotted, closed_bound, high_in, high_part, key_in, low_part, slot_in, slot_number, slots_from}

-- an upper bound that is closed
closed-high : (c : Bool) (h : ℕ) → high_in (cond c 0 h) ≡ closed c (high_in h)
closed-high true h = refl
closed-high false h = refl

-- a mark is a bit
bit-set : (c : Bool) → not (eqb (bit c) 0) ≡ c
bit-set true = refl
bit-set false = refl

-- a mark put where a test holds
mark-or : (c : Bool) (marks : List ℕ) (u v : ℕ) (d : Bool) → u < length marks → get_or marks v 0 ≡ bit d
    → get_or (cond c (set marks u 1) marks) v 0 ≡ bit ((eqb v u && c) || d)
mark-or true marks u v d l e =
    eq-cases v u
    (λ q. rw (eq-eqb q, q) (get_or-set_same marks u 1 0 l))
    (λ q. rw (ne_eqb q) (get_or-set_other marks u v 1 0 q ∙ e))
mark-or false marks u v d l e = rw (and_zero (eqb v u)) e

pub settle-starts : {t bad full : List ℕ} {used : ℕ} → Blank used bad → Blank used full → Settling t used used t bad full
unfolding slots_from settled inconsistent nonempty
settle-starts {t} {bad} {full} {used} e f =
    let none-left' : used - used ≡ 0 = omega arith in
    record {
      size = refl;
      below = λ j l. refl;
      keys = λ j. refl;
      highs = λ j. omega arith;
      rest = λ j l. refl;
      above = rw none-left';
      bads = λ v. rw none-left' (e.zero' v);
      fulls = λ v. rw none-left' (f.zero' v);
    }

module _ {o t bad full : List ℕ} {used s : ℕ} (S : Settling o used s t bad full) (P : Placed o used) (one : 1 ≤ s) (le : s ≤ used)
    (there : s < length t) (there' : s < length bad) (there'' : s < length full)
    {t' bad' full' : List ℕ} (T : Slotted t bad full s t' bad' full') where
  abbrev X : ℕ
  X = get_or o s 0

  abbrev is_link_here : Bool
  is_link_here = eqb (key_in X / 65536 % 2) 1

  abbrev Rest : List Slot
  Rest = slots_from o (suc s) (used - s)

  same-slot : get_or t s 0 ≡ X
  same-slot = S.below s (omega arith)

  -- the bound after it is closed
  bound-is : closed_bound t bad s ≡ cond (is_link_here && inconsistent (suc s) Rest s) 0 (high_part X)
  bound-is = rw (same-slot, S.bads s, bit-set (inconsistent (suc s) Rest s))

  abbrev Y : ℕ
  Y = slot_number (key_in X) (low_part X) (cond (is_link_here && inconsistent (suc s) Rest s) 0 (high_part X))

  table_is : t' ≡ set t s Y
  table_is = T.table ∙ rw (bound-is, same-slot)

  small-bound : cond (is_link_here && inconsistent (suc s) Rest s) 0 (high_part X) < 131072
  unfolding high_part
  small-bound = bool_cases (is_link_here && inconsistent (suc s) Rest s) (λ q. rw q (omega arith)) (λ q. rw q (omega arith))

  lower-bound : cond (is_link_here && inconsistent (suc s) Rest s) 0 (high_part X) ≤ high_part X
  lower-bound = bool_cases (is_link_here && inconsistent (suc s) Rest s) (λ q. rw q (omega arith)) (λ q. rw q (omega arith))

  small_low : low_part X < 131072
  unfolding low_part
  small_low = omega arith

  -- the settled slot
  slot-now : slot_in Y ≡ slot (key_in X / 131072) is_link_here (key_in X % 65536) (low_part X) (closed (is_link_here && inconsistent (suc s) Rest s) (high_in (high_part X)))
  unfolding slot_in
  slot-now =
      rw (
        slot_in,
        key-made (key_in X) (low_part X) (cond (is_link_here && inconsistent (suc s) Rest s) 0 (high_part X)) small_low small-bound,
        low-made (key_in X) (low_part X) (cond (is_link_here && inconsistent (suc s) Rest s) 0 (high_part X)) small_low small-bound,
        high-made (key_in X) (low_part X) (cond (is_link_here && inconsistent (suc s) Rest s) 0 (high_part X)) small_low small-bound,
        closed-high (is_link_here && inconsistent (suc s) Rest s) (high_part X),
      )

  more_left : used - (s - 1) ≡ suc (used - s)
  more_left = omega arith

  next_one : suc (s - 1) ≡ s
  next_one = omega arith

  pub settle_goes : Settling o used (s - 1) t' bad' full'
  unfolding slots_from settled inconsistent nonempty slot_in
  settle_goes =
      let here : get_or (set t s Y) s 0 ≡ Y = get_or-set_same t s Y 0 there in
      let d = inconsistent (suc s) Rest s in
      let h = closed (is_link_here && d) (high_in (high_part X)) in
      let low : key_in X / 131072 < s = P.lower s one le in
      let bad-is : bad' ≡ cond (broken is_link_here (low_part X) h) (set bad (key_in X / 131072) 1) bad =
      T.badly ∙ rw (bound-is, same-slot, closed-high (is_link_here && d) (high_part X)) in
      let say = nonempty (suc s) (settled (suc s) Rest) s in
      let full_is : full' ≡ cond (not (eqb (low_part X) 0) || (found h || (is_link_here && say))) (set full (key_in X / 131072) 1) full =
      T.fully ∙ rw (bound-is, same-slot, closed-high (is_link_here && d) (high_part X), S.fulls s, bit-set say) in
      record {
        size = ap length table_is ∙ length-set t s Y ∙ S.size;
        below = λ j l. rw table_is (get_or-set_other t s j Y 0 (λ q. omega arith) ∙ S.below j (omega arith));
        keys = λ j. rw table_is (eq-cases j s
            (λ q. rw q (ap key_in here ∙ key-made (key_in X) (low_part X) (cond (is_link_here && d) 0 (high_part X)) small_low small-bound))
            (λ q. ap key_in (get_or-set_other t s j Y 0 q) ∙ S.keys j));
        highs = λ j. rw table_is (eq-cases j s
            (λ q. rw q (omega (arith, ap high_part here, high-made (key_in X) (low_part X) (cond (is_link_here && d) 0 (high_part X)) small_low small-bound, lower-bound)))
            (λ q. omega (arith, ap high_part (get_or-set_other t s j Y 0 q), S.highs j)));
        rest = λ j l. rw table_is (get_or-set_other t s j Y 0 (λ q. omega arith) ∙ S.rest j l);
        above = rw (more_left, next_one)
            (subst (λ (x : List ℕ). slots_from x s (suc (used - s)) ≡ settled s (slots_from o s (suc (used - s)))) (sym table_is)
            (ap (λ (q : List Slot). slot_in (get_or (set t s Y) s 0) ∷ q) (slots-other t s Y (suc s) (used - s) (inl (omega arith)) ∙ S.above)
            ∙ ap (λ (x : Slot). x ∷ settled (suc s) Rest) (ap slot_in here ∙ slot-now)));
        bads = λ v. rw (more_left, next_one, bad-is) (mark-or (broken is_link_here (low_part X) h) bad (key_in X / 131072) v (inconsistent (suc s) Rest v) (omega arith) (S.bads v));
        fulls = λ v. rw (more_left, next_one, full_is)
            (mark-or (not (eqb (low_part X) 0) || (found h || (is_link_here && say))) full (key_in X / 131072) v (nonempty (suc s) (settled (suc s) Rest) v) (omega arith) (S.fulls v));
      }
