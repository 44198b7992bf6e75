-- A pass that checks and judges the entries of a service: what it knows at the start, after one entry more, and at the end.
-- Assumes nothing.
use Prim.Native.Nat.{◌+◌, ◌-◌, ◌<◌, ◌≤◌, suc, ℕ}
use lib.ListN.{get_or, length, length-set, set}
use lib.Seq.{get_or-set_other, get_or-set_same}
use mathlib.Core.Bool.{Bool, cond, false, true}
use mathlib.Core.List.{List}
use mathlib.Core.Path.{◌∙◌, ◌≡◌, ap, refl, sym}
use native.Mathlib.Omega.{arith}
use Rattle.base.proofs.SearchLaws.{first-later, first-sooner}
use Rattle.base.proofs.Tests.{bool_cases, eq-cases}
use Rattle.base.specs.Search.{first_from}
use Rattle.blocks.specs.Entries.{entries_of, nth}
use Rattle.blocks.specs.Owners.{owner_of}
use Rattle.blocks.specs.code.ReadingSteps.{Levels}
use Rattle.blocks.specs.declared.Entry.{Entry}
use Rattle.blocks.specs.declared.Schema.TheVariants.{Named}
use Rattle.logic.specs.Background.{Background}
use Rattle.meaning.specs.Owned.{Owned}
use Rattle.passes.specs.code.Slots.{Slot}
use Rattle.slots.proofs.states.SlotStates.{holds-here, stated-more, stated-start}
use Rattle.slots.specs.code.Pass.{JudgedSoFar}
use Rattle.slots.specs.code.States.{Indexed, holds_by_slots, holds_in_state, passed, state_below}

-- ---- the first that fails among one more

module _ (f : ℕ → Bool) (n : ℕ) where
  one_more : suc n ≡ suc (suc n) - 1
  one_more = omega arith

  -- none before fails: the last decides
  first-last : 0 ≡ first_from f 1 n → cond (f (suc n)) 0 (suc n) ≡ first_from f 1 (suc n)
  unfolding first_from
  first-last z =
      let one : suc (suc n) - (1 + n) ≡ 1 = omega arith in
      let next : 1 + n ≡ suc n = omega arith in
      let split : first_from f 1 (suc n) ≡ first_from f (suc n) 1 =
      ap (first_from f 1) one_more ∙ first-later f 1 n (suc (suc n)) (omega arith) (omega arith) (sym z) ∙ rw (one, next) in
      sym (split ∙ bool_cases (f (suc n)) (λ q. rw q) (λ q. rw q))

-- ---- the pass

-- before the first entry
module _ {b : Background} {d t cells : List ℕ} {most : ℕ} {used : ℕ} where
  pub judged-start : (states : List ℕ) → length (entries_of d) < length states → JudgedSoFar b d t most cells used 0 (set states 0 0)
  unfolding first_from
  judged-start states l =
      record {
        room = rw (length-set states 0 0) l;
        small = λ j h. let q : j ≡ 0 = omega arith in rw q (omega (arith, get_or-set_same states 0 0 0 (omega arith)));
        stated = λ O. stated-start states l;
        none = λ O ss x. refl;
      }

  -- one more, looked up in the state of its owner
  module _ {n : ℕ} {states : List ℕ} (J : JudgedSoFar b d t most cells used n states) (le : n < length (entries_of d)) {e : Entry} (is' : e ≡ nth (entries_of d) (suc n))
      {s : ℕ} (read : s ≡ get_or states e.owner 0) where
    pub judged-state : e.owner ≤ n → s ≤ passed
    judged-state h = rw read (J.small _ h)

    -- it decides, as none before it fails
    decided : {r : Bool} → Owned (entries_of d) → (ss : List Slot) → Indexed ss t most cells used → r ≡ holds_in_state b ss s e
        → cond r 0 (suc n) ≡ first_from (holds_by_slots b ss (entries_of d)) 1 (suc n)
    decided {r} O ss x h =
        let f = holds_by_slots b ss (entries_of d) in
        let here : f (suc n) ≡ r = holds-here O (J.stated O) le is' read refl b ss x h in
        ap (λ (q : Bool). cond q 0 (suc n)) (sym here) ∙ first-last f n (J.none O ss x)

    -- it holds
    pub judged-more : {m y : ℕ} → m ≡ suc n → y ≤ passed → (e.kind ≡ 5 → (ss : List Slot) → Indexed ss t most cells used → y ≡ state_below ss s e.name)
        → ((ss : List Slot) → Indexed ss t most cells used → true ≡ holds_in_state b ss s e) → JudgedSoFar b d t most cells used m (set states m y)
    judged-more {m} {y} q small below holds =
        let there : suc n < length states = omega (arith, J.room) in
        record {
          room = rw (length-set states m y) J.room;
          small = λ j h. eq-cases j m
              (λ w. rw (w, q, get_or-set_same states (suc n) y 0 there) small)
              (λ w. rw (get_or-set_other states m j y 0 w) (J.small j (omega arith)));
          stated = λ O. stated-more O (J.stated O) le is' read q small below;
          none = λ O ss x. rw q (decided O ss x (holds ss x));
        }

    -- it does not: it is the first of all
    pub judged-fails : {total : ℕ} → n < total → ((ss : List Slot) → Indexed ss t most cells used → false ≡ holds_in_state b ss s e)
        → Owned (entries_of d) → (ss : List Slot) → Indexed ss t most cells used → suc n ≡ first_from (holds_by_slots b ss (entries_of d)) 1 total
    judged-fails {total} h holds O ss x =
        let e : total + 1 - 1 ≡ total = omega arith in
        sym (ap (first_from (holds_by_slots b ss (entries_of d)) 1) (sym e)
        ∙ first-sooner (holds_by_slots b ss (entries_of d)) 1 (suc n) (total + 1) (omega arith) (decided O ss x (holds ss x)) (λ z. omega arith))

-- an owner that has a level stands earlier
pub owner-early : (es : List Entry) {t : List ℕ} {n : ℕ} {e : Entry} → Levels (Named 0) es t (n + 1) → 1 ≤ n → e ≡ nth es n → e.owner < n
unfolding owner_of
owner-early es {n = n} T one is = rw is (T.early n one (omega arith))

-- all are passed
pub judged-all : {b : Background} {d t cells : List ℕ} {most : ℕ} {used n total : ℕ} {states : List ℕ} → JudgedSoFar b d t most cells used n states → n ≡ total
    → Owned (entries_of d) → (ss : List Slot) → Indexed ss t most cells used → 0 ≡ first_from (holds_by_slots b ss (entries_of d)) 1 total
judged-all J e O ss x = rw (← e) (J.none O ss x)
