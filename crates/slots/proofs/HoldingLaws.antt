-- What the states of a description's places mean: each stands for the path of links into its place, so the entries that hold by the
-- slots are those that the normal form holds.
-- Assumes nothing.
use Prim.Native.Nat.{◌+◌, ◌<◌, ◌≤◌, suc, zero, ℕ}
use lib.Dec.{eqb, leb}
use lib.ListN.{length}
use mathlib.Core.Bool.{Bool, ◌||◌, cond, false, not, or-false, true}
use mathlib.Core.List.{List, [], ◌++◌, ◌∷◌, append_assoc, append-nil, map}
use mathlib.Core.Logic.{◌≢◌}
use mathlib.Core.Option.{Option}
use mathlib.Core.Path.{◌∙◌, ◌≡◌, refl, sym}
use native.Mathlib.Omega.{arith}
use Rattle.base.proofs.SearchLaws.{first-same}
use Rattle.base.proofs.Tests.{bool_cases, eq-cases, eq-eqb, iff-eq, ne_eqb, or-one, tests}
use Rattle.base.specs.Search.{first_from}
use Rattle.blocks.proofs.Refusing.Legal.{form-kind, owner-earlier}
use Rattle.blocks.specs.Entries.{nth}
use Rattle.blocks.specs.Owners.{owner_of}
use Rattle.blocks.specs.Promise.{Legal}
use Rattle.blocks.specs.declared.Entry.{Entry}
use Rattle.blocks.specs.declared.Schema.TheVariants.{Description}
use Rattle.logic.specs.Background.{Background, LawfulBackground}
use Rattle.logic.specs.Holds.{holds, holds_at}
use Rattle.logic.specs.Normal.{at_most, enough, excluded, find, found, sub, supports}
use Rattle.logic.specs.Place.{Atom, Kind, atom, has, kind_of, lacks, least, most}
use Rattle.logic.specs.Tree.{Row, end}
use Rattle.meaning.proofs.Descriptions.Links.{links-into, links_into}
use Rattle.meaning.proofs.Verdicts.FirstLaws.{none-failing}
use Rattle.meaning.specs.Description.{atom_of, links_to, place_of, row_of}
use Rattle.meaning.specs.Failing.{failing, normal_of}
use Rattle.meaning.specs.First.{entry_holds, first_failing}
use Rattle.passes.proofs.CellPlaces.FormLists.{form-excluded}
use Rattle.passes.proofs.CellPlaces.FormNormal.{form-top, top-bottom}
use Rattle.passes.proofs.Cells.CellsTell.{cap-open}
use Rattle.passes.proofs.Cells.WrittenLists.{value_none}
use Rattle.passes.proofs.SlotLists.RestrictLaws.{excluded-restricted}
use Rattle.passes.proofs.SlotLists.SlotLaws.{position_from}
use Rattle.passes.proofs.SlotLists.SlotNumbers.{no-link-slot, no_slot, position-range, slot-lists, slot_owns}
use Rattle.passes.specs.code.Forms.{form, formed}
use Rattle.passes.specs.code.Restrict.{excluded_at, restrict, slots_under}
use Rattle.passes.specs.code.Slots.{Slot, inconsistent, is_link, position, slots, taken, value}
use Rattle.slots.specs.code.States.{entry_slot, holds_in_state, holds_by_slots, high_at, low_at, nowhere, passed, slot_for, state_below, state_of, supported_by}
use Rattle.slots.specs.code.Tables.{link_kind}

-- ---- the states

module _ (ss : List Slot) (d : List Entry) (early : (k : ℕ) → 1 ≤ k → k ≤ length d → owner_of d k < k) where
  -- a state does not depend on the steps, if they reach the top
  pub state-steps : (f g o : ℕ) → o ≤ length d → o ≤ f → o ≤ g → state_of ss d f o ≡ state_of ss d g o
  unfolding state_of
  state-steps zero zero o hi a b = refl
  state-steps zero (suc g) o hi a b = let z : o ≡ 0 = omega arith in rw (eq-eqb z)
  state-steps (suc f) zero o hi a b = let z : o ≡ 0 = omega arith in rw (eq-eqb z)
  state-steps (suc f) (suc g) o hi a b =
      eq-cases o 0
      (λ z. rw (eq-eqb z))
      (λ z.
      let e = early o (omega arith) hi in
      rw (ne_eqb z, state-steps f g (owner_of d o) (omega arith) (omega arith) (omega arith)))

  -- the state of what an entry owns, from the state of the entry's place
  pub state-every : (n : ℕ) → 1 ≤ n → n ≤ length d
      → state_of ss d n n ≡ state_below ss (state_of ss d (owner_of d n) (owner_of d n)) (nth d n).name
  unfolding state_of
  state-every zero lo hi = absurd (omega arith)
  state-every (suc n) lo hi =
      let e = early (suc n) lo hi in
      let z : eqb (suc n) 0 ≡ false = omega tests in
      rw (z, state-steps n (owner_of d (suc n)) (owner_of d (suc n)) (omega arith) (omega arith) (omega arith))

-- ---- the slot of a key

-- it is among the slots
pub slot_small : (ss : List Slot) (v : ℕ) (b : Bool) (n : ℕ) → slot_for ss v b n ≤ length ss
unfolding slot_for
slot_small ss v b n =
    bool_cases (taken ss v b n) (λ q. rw q (omega (arith, position-range 1 ss v b n q))) (λ q. rw q (omega arith))

-- where there is none, there is no upper bound
no_bound_lem : (ss : List Slot) (j : ℕ) → eqb j 0 ≡ true → at_most 0 (high_at ss j) ≡ false
unfolding high_at
no_bound_lem ss j q = rw q

-- no slot stands past the last one
formed-end : (k : ℕ) (ss : List Slot) (v : ℕ) → k + length ss ≤ v → formed k ss v ≡ end
unfolding formed
formed-end k [] v l = refl
formed-end k (s ∷ ss) v l = let z : eqb v k ≡ false = omega tests in rw z (formed-end (suc k) ss v (omega arith))

-- so the place there is empty
pub form-end : (ss : List Slot) (v : ℕ) → length ss < v → form ss v ≡ end
unfolding form
form-end ss v l = let z : eqb v 0 ≡ false = omega tests in rw z (formed-end 1 ss v (omega arith))

module _ (b : Background) (rs : List (Row Atom ℕ)) where
  -- what a place lists of a name, by the bounds of its slot
  pub place-lists : (v : ℕ) (a : Kind) (n : ℕ) → find a n (form (slots_under b rs) v)
      ≡ value a (low_at (slots_under b rs) (slot_for (slots_under b rs) v (is_link a) n)) (high_at (slots_under b rs) (slot_for (slots_under b rs) v (is_link a) n))
  unfolding slot_for low_at high_at
  place-lists v a n =
      bool_cases (taken (slots_under b rs) v (is_link a) n)
      (λ q.
      let z : eqb (position 1 (slots_under b rs) v (is_link a) n) 0 ≡ false = omega (tests, position_from 1 (slots_under b rs) v (is_link a) n) in
      rw (q, z) (slot-lists b rs v a n q))
      (λ q. rw q (no_slot b rs v a n q ∙ sym (value_none a)))

  -- what a link owns there, if it is not at most 0
  pub place-owns : length (slots_under b rs) ≤ 1008 → (v l : ℕ) → at_most 0 (high_at (slots_under b rs) (slot_for (slots_under b rs) v true l)) ≡ false
      → sub l (form (slots_under b rs) v) ≡ form (slots_under b rs) (cond (eqb (slot_for (slots_under b rs) v true l) 0) nowhere (slot_for (slots_under b rs) v true l))
  unfolding slot_for high_at
  place-owns few v l h =
      bool_cases (taken (slots_under b rs) v true l)
      (λ q.
      let z : eqb (position 1 (slots_under b rs) v true l) 0 ≡ false = omega (tests, position_from 1 (slots_under b rs) v true l) in
      rw (q, z) (slot_owns b rs v l q ∙ rw (rw (q, z) at h)))
      (λ q. rw q (no-link-slot b rs v l q ∙ sym (form-end (slots_under b rs) nowhere (omega arith))))

-- ---- support

module _ {b : Background} (law : LawfulBackground b) (rs : List (Row Atom ℕ)) where
  -- what is listed, by the bounds of its slot
  has-said : (v n : ℕ) → not (eqb (low_at (slots_under b rs) (slot_for (slots_under b rs) v false n)) 0) ≡ found (find has n (form (slots_under b rs) v))
  has-said v n =
      let lo : ℕ = low_at (slots_under b rs) (slot_for (slots_under b rs) v false n) in
      rw (place-lists b rs v has n) (bool_cases (eqb lo 0) (λ q. rw q) (λ q. rw q))

  lacks-said : (v n : ℕ) → found (high_at (slots_under b rs) (slot_for (slots_under b rs) v false n)) ≡ found (find lacks n (form (slots_under b rs) v))
  lacks-said v n =
      let hi : Option ℕ = high_at (slots_under b rs) (slot_for (slots_under b rs) v false n) in
      rw (place-lists b rs v lacks n) (bool_cases (found hi) (λ q. rw q) (λ q. rw q))

  -- [C4] at least n
  least-said : (v l m : ℕ) → leb m (low_at (slots_under b rs) (slot_for (slots_under b rs) v true l)) ≡ enough m (find least l (form (slots_under b rs) v))
  least-said v l m =
      let lo : ℕ = low_at (slots_under b rs) (slot_for (slots_under b rs) v true l) in
      let none : lo ≡ 0 → leb m lo ≡ eqb m 0 = λ q. iff-eq (λ h. omega tests) (λ h. omega tests) in
      rw (place-lists b rs v least l) (eq-cases lo 0 (λ q. rw (eq-eqb q) (none q)) (λ q. rw (ne_eqb q)))

  -- [C4] at most n
  most-said : (v l m : ℕ) → at_most m (high_at (slots_under b rs) (slot_for (slots_under b rs) v true l)) ≡ at_most m (find most l (form (slots_under b rs) v))
  most-said v l m = rw (place-lists b rs v most l)

  -- a property that is excluded at a place
  excluded-said : (v p : ℕ) → excluded_at b (slots_under b rs) v p ≡ excluded b p (form (slots_under b rs) v)
  unfolding slots_under restrict
  excluded-said v p = excluded-restricted b (excluded_at b (slots rs)) (slots rs) v p ∙ sym (form-excluded b rs v p)

  -- the place supports what an entry says that is no 'every'
  pub support-slots : (v : ℕ) (e : Entry) → 1 ≤ e.kind → e.kind ≤ 6 → e.kind ≢ 5
      → supported_by b (excluded_at b (slots_under b rs) v e.name) e.kind e.name e.number
      (low_at (slots_under b rs) (entry_slot (slots_under b rs) v e)) (high_at (slots_under b rs) (entry_slot (slots_under b rs) v e))
      ≡ supports b (form (slots_under b rs) v) (atom_of e)
  unfolding supported_by link_kind kind_of
  support-slots v e lo hi z =
      eq-cases e.kind 1 (λ q. rw q (has-said v e.name))
      (λ z₁. eq-cases e.kind 2 (λ q. rw (q, lacks-said v e.name, excluded-said v e.name))
      (λ z₂. eq-cases e.kind 3 (λ q. rw q (least-said v e.name e.number))
      (λ z₃. eq-cases e.kind 4 (λ q. rw (q, most-said v e.name e.number))
      (λ z₄. let q : e.kind ≡ 6 = omega arith in rw q))))

  -- [C3] at most 0 of the next link: no cap says that
  none_said : (v l : ℕ) → at_most 0 (high_at (slots_under b rs) (slot_for (slots_under b rs) v true l)) ≡ supports b (form (slots_under b rs) v) (atom most l 0)
  none_said v l = most-said v l 0 ∙ rw (cap-open law l) (sym (or-false _))

-- ---- paths

-- The state s stands for the path w: beyond w the place of that number holds what the top holds; the top holds all if the state is
-- `passed`.
pub record StandsFor (b : Background) (ss : List Slot) (w : List ℕ) (s : ℕ) : Type 0 where
  pub beyond : s ≡ passed → (w' : List ℕ) (a : Atom) → holds_at b (form ss 0) (w ++ w') a ≡ true
  pub at : s ≢ passed → (w' : List ℕ) (a : Atom) → holds_at b (form ss 0) (w ++ w') a ≡ holds_at b (form ss s) w' a

-- the top's state stands for the empty path, and no link leads into the top
pub start-stands : (b : Background) (ss : List Slot) → StandsFor b ss [] 0
start-stands b ss = record { beyond = λ z w' a. absurd (omega arith); at = λ z w' a. refl }

top-stands : (b : Background) (ss : List Slot) (d : List Entry) → StandsFor b ss (links_into d 0) (state_of ss d 0 0)
unfolding links_into state_of
top-stands b ss d = start-stands b ss

module _ {b : Background} (law : LawfulBackground b) (rs : List (Row Atom ℕ)) (few : length (slots_under b rs) ≤ 1008) where
  -- a step from a place that has at most 0 of the link, and from one that has not
  none-step : (s l : ℕ) → at_most 0 (high_at (slots_under b rs) (slot_for (slots_under b rs) s true l)) ≡ true → (w : List ℕ) (a : Atom)
      → holds_at b (form (slots_under b rs) s) (l ∷ w) a ≡ true
  unfolding holds_at
  none-step s l q w a = rw (sym (none_said law rs s l) ∙ q)

  some-step : (s l : ℕ) → at_most 0 (high_at (slots_under b rs) (slot_for (slots_under b rs) s true l)) ≡ false → (w : List ℕ) (a : Atom)
      → holds_at b (form (slots_under b rs) s) (l ∷ w) a
      ≡ holds_at b (form (slots_under b rs) (cond (eqb (slot_for (slots_under b rs) s true l) 0) nowhere (slot_for (slots_under b rs) s true l))) w a
  unfolding holds_at
  some-step s l q w a = rw (sym (none_said law rs s l) ∙ q, place-owns b rs few s l q)

  -- a link leads to the state below
  pub step-stands : {w : List ℕ} {s : ℕ} (l : ℕ) → StandsFor b (slots_under b rs) w s → StandsFor b (slots_under b rs) (w ++ (l ∷ [])) (state_below (slots_under b rs) s l)
  unfolding state_below
  step-stands {w} {s} l h =
      let j : ℕ = slot_for (slots_under b rs) s true l in
      let small : j ≤ length (slots_under b rs) = slot_small (slots_under b rs) s true l in
      eq-cases s passed
      (λ e. rw (eq-eqb e)
      (record { beyond = λ y w' a. rw append_assoc (h.beyond e (l ∷ w') a); at = λ y w' a. absurd (y refl) }))
      (λ z. rw (ne_eqb z)
      (bool_cases (eqb j 0)
      (λ q. rw q
      (record {
        beyond = λ y w' a. absurd (omega arith);
        at = λ y w' a. rw append_assoc (h.at z (l ∷ w') a ∙ some-step s l (no_bound_lem (slots_under b rs) j q) w' a ∙ rw q);
      }))
      (λ q. rw q
      (bool_cases (at_most 0 (high_at (slots_under b rs) j))
      (λ x. rw x
      (record {
        beyond = λ y w' a. rw append_assoc (h.at z (l ∷ w') a ∙ none-step s l x w' a);
        at = λ y w' a. absurd (y refl);
      }))
      (λ x. rw x
      (record {
        beyond = λ y w' a. absurd (omega arith);
        at = λ y w' a. rw append_assoc (h.at z (l ∷ w') a ∙ some-step s l x w' a ∙ rw q);
      }))))))

-- ---- the entries that hold

-- [C4] an 'every' always holds
pub every_holds : (b : Background) (ss : List Slot) (s : ℕ) (e : Entry) → e.kind ≡ 5 → holds_in_state b ss s e ≡ true
unfolding holds_in_state supported_by
every_holds b ss s e q = rw (holds_in_state, q) (bool_cases (eqb s passed) (λ z. rw z) (λ z. rw z))

module _ {b : Background} (law : LawfulBackground b) (rs : List (Row Atom ℕ)) (few : length (slots_under b rs) ≤ 1008) (d : List Entry) (lawful : Legal Description d) where
  -- the state of the place that an entry owns stands for the links into it: first for entries below a bound
  stands-below : (m o : ℕ) → o < m → o ≤ length d → StandsFor b (slots_under b rs) (links_into d o) (state_of (slots_under b rs) d o o)
  unfolding links_into
  stands-below zero o l hi = absurd (omega arith)
  stands-below (suc m) o l hi =
      eq-cases o 0
      (λ z. rw z (top-stands b (slots_under b rs) d))
      (λ z.
      let u : ℕ = owner_of d o in
      let e = owner-earlier lawful o (omega arith) hi in
      rw (ne_eqb z, links-into d (owner-earlier lawful) o (omega arith) hi, state-every (slots_under b rs) d (owner-earlier lawful) o (omega arith) hi)
      (step-stands law rs few (nth d o).name (stands-below m u (omega arith) (omega arith))))

  -- and so for all
  pub state-stands : (o : ℕ) → o ≤ length d → StandsFor b (slots_under b rs) (links_into d o) (state_of (slots_under b rs) d o o)
  state-stands o hi = stands-below (suc o) o (omega arith) hi

  -- an entry holds by the slots exactly if their places hold it
  pub slots-hold : (n : ℕ) → 1 ≤ n → n ≤ length d
      → holds_by_slots b (slots_under b rs) d n ≡ (eqb (nth d n).kind 5 || holds_at b (form (slots_under b rs) 0) (links_to d n) (atom_of (nth d n)))
  unfolding holds_by_slots holds_in_state holds_at
  slots-hold n lo hi =
      let o : ℕ = owner_of d n in
      let s : ℕ = state_of (slots_under b rs) d o o in
      let e : Entry = nth d n in
      let early = owner-earlier lawful n lo hi in
      let there : StandsFor b (slots_under b rs) (links_to d n) s = rw (links-into d (owner-earlier lawful) n lo hi) (state-stands o (omega arith)) in
      let range = form-kind e (lawful.form n lo hi) in
      eq-cases e.kind 5
      (λ q. rw (eq-eqb q) (every_holds b (slots_under b rs) s e q))
      (λ y. rw (ne_eqb y)
      (eq-cases s passed
      (λ q.
      let all : holds_at b (form (slots_under b rs) 0) (links_to d n) (atom_of e) ≡ true = rw append-nil at (there.beyond q [] (atom_of e)) in
      rw (eq-eqb q) (sym all))
      (λ z.
      let here : holds_at b (form (slots_under b rs) 0) (links_to d n) (atom_of e) ≡ supports b (form (slots_under b rs) s) (atom_of e)
      = rw append-nil at (there.at z [] (atom_of e)) in
      rw (ne_eqb z) (support-slots law rs s e range.0 range.1 y ∙ sym here))))

-- ---- each entry, and the first that fails

module _ {b : Background} (law : LawfulBackground b) (c d : List Entry) where
  -- where the top is possible, the entries that hold by the slots are those that the normal form holds
  pub slots-each : length (slots_under b (map row_of c)) ≤ 1008 → Legal Description d → inconsistent 1 (slots_under b (map row_of c)) 0 ≡ false
      → (n : ℕ) → 1 ≤ n → n ≤ length d → holds_by_slots b (slots_under b (map row_of c)) d n ≡ entry_holds b (normal_of b c) d n
  unfolding normal_of entry_holds holds place_of
  slots-each few lawful z n lo hi =
      slots-hold law (map row_of c) few d lawful n lo hi ∙ rw (top-bottom law (map row_of c), z, ← (form-top law (map row_of c) z))

  -- where it is impossible, the normal form holds all
  pub bottom-each : inconsistent 1 (slots_under b (map row_of c)) 0 ≡ true → (n : ℕ) → entry_holds b (normal_of b c) d n ≡ true
  unfolding normal_of entry_holds holds place_of
  bottom-each z n = rw (top-bottom law (map row_of c), z) (or-one (eqb (nth d n).kind 5))

  -- so the first entry that fails by the slots is the first that the normal form does not hold
  pub slots-first : length (slots_under b (map row_of c)) ≤ 1008 → Legal Description d → inconsistent 1 (slots_under b (map row_of c)) 0 ≡ false
      → first_from (holds_by_slots b (slots_under b (map row_of c)) d) 1 (length d) ≡ failing b c d
  unfolding failing first_failing
  slots-first few lawful z = first-same _ _ 1 (length d) (λ j lo hi. slots-each few lawful z j lo (omega arith))

  pub bottom-first : inconsistent 1 (slots_under b (map row_of c)) 0 ≡ true → failing b c d ≡ 0
  unfolding failing
  bottom-first z = none-failing b (normal_of b c) d (λ n lo hi. bottom-each z n)
