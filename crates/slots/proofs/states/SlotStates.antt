-- The table of states that the search for the first failing entry keeps: right for the top and for each 'every' that was passed.
-- Assumes nothing.
use Prim.Native.Nat.{◌<◌, ◌≤◌, suc, ℕ}
use lib.ListN.{get_or, length, length-set, set}
use lib.Seq.{get_or-set_other, get_or-set_same}
use mathlib.Core.Bool.{Bool}
use mathlib.Core.List.{List}
use mathlib.Core.Path.{◌∙◌, ◌≡◌, ap, sym}
use native.Mathlib.Omega.{arith}
use Rattle.base.proofs.Tests.{eq-cases}
use Rattle.blocks.specs.Entries.{entries_of, nth}
use Rattle.blocks.specs.Owners.{owner_of}
use Rattle.blocks.specs.declared.Entry.{Entry}
use Rattle.logic.specs.Background.{Background}
use Rattle.meaning.specs.Owned.{Owned}
use Rattle.passes.specs.code.Slots.{Slot}
use Rattle.slots.proofs.HoldingLaws.{state-every}
use Rattle.slots.proofs.NextEntry.{owner-before}
use Rattle.slots.specs.code.States.{Indexed, Stated, holds_by_slots, holds_in_state, passed, state_below, state_of}

module _ {d t cells : List ℕ} {most : ℕ} {used : ℕ} where
  -- the top's
  pub stated-start : (states : List ℕ) → length (entries_of d) < length states → Stated d t most cells used 0 (set states 0 0)
  unfolding state_of
  stated-start states l =
      let top : (j : ℕ) → j ≤ 0 → get_or (set states 0 0) j 0 ≡ 0 = λ j h. let z : j ≡ 0 = omega arith in rw z (get_or-set_same states 0 0 0 (omega arith)) in
      record {
        room = rw (length-set states 0 0) l;
        small = λ j h. omega (arith, top j h);
        right = λ ss x o h k. let z : o ≡ 0 = omega arith in rw z (top 0 (omega arith));
      }

  -- one entry more
  module _ (O : Owned (entries_of d)) {n : ℕ} {states : List ℕ} (S : Stated d t most cells used n states) (le : n < length (entries_of d)) {e : Entry} (is' : e ≡ nth (entries_of d) (suc n))
      {s : ℕ} (read : s ≡ get_or states e.owner 0) where
    owner-is : e.owner ≡ owner_of (entries_of d) (suc n)
    unfolding owner_of
    owner-is = ap (λ (x : Entry). x.owner) is'

    -- the state of its owner is in the table
    pub state-small : s ≤ passed
    state-small = rw read (S.small _ (owner-before O le is'))

    state-read : (ss : List Slot) → Indexed ss t most cells used → s ≡ state_of ss (entries_of d) (owner_of (entries_of d) (suc n)) (owner_of (entries_of d) (suc n))
    state-read ss x =
        read ∙ rw owner-is (S.right ss x _ (omega (arith, O.earlier (suc n) (omega arith) (omega arith))) (O.every (suc n) (omega arith) (omega arith)))

    -- its own is put in, if it is an 'every'
    pub stated-more : {m y : ℕ} → m ≡ suc n → y ≤ passed → (e.kind ≡ 5 → (ss : List Slot) → Indexed ss t most cells used → y ≡ state_below ss s e.name)
        → Stated d t most cells used m (set states m y)
    stated-more {m} {y} q small below =
        let there : suc n < length states = omega (arith, S.room) in
        rw q (record {
          room = rw (length-set states (suc n) y) S.room;
          small = λ j h. eq-cases j (suc n)
              (λ z. rw (z, get_or-set_same states (suc n) y 0 there) small)
              (λ z. rw (get_or-set_other states (suc n) j y 0 z) (S.small j (omega arith)));
          right = λ ss x o h k. eq-cases o (suc n)
              (λ z.
              rw (z, get_or-set_same states (suc n) y 0 there)
              (below (ap (λ (a : Entry). a.kind) is' ∙ rw z at (k (λ w. omega arith))) ss x
              ∙ rw (state-read ss x, is') (sym (state-every ss (entries_of d) (λ i lo hi. O.earlier i lo hi) (suc n) (omega arith) (omega arith)))))
              (λ z. get_or-set_other states (suc n) o y 0 z ∙ S.right ss x o (omega arith) k);
        })

    -- it holds in the state of its owner
    pub holds-here : {m : ℕ} → m ≡ suc n → {r : Bool} (b : Background) (ss : List Slot) → Indexed ss t most cells used → r ≡ holds_in_state b ss s e
        → holds_by_slots b ss (entries_of d) m ≡ r
    unfolding holds_by_slots
    holds-here q b ss x h = rw (q, ← state-read ss x, ← is') (sym h)
