-- Laws of filled tables: every number that stands in them is known by the slots.
-- Assumes nothing.
use Prim.Native.Nat.{◌*◌, ◌+◌, ◌-◌, ◌<◌, ◌≤◌, suc, zero, ℕ}
use lib.Dec.{ltb}
use lib.ListN.{get_or, length, length-replicate, replicate, set}
use lib.Seq.{ext_get_or, get_or-set_other, sets}
use mathlib.Core.Bool.{Bool, false, true}
use mathlib.Core.List.{List, [], ◌∷◌, map}
use mathlib.Core.Logic.{◌⊎◌, inl, inr, ⊎_elim}
use mathlib.Core.Path.{◌∙◌, ◌≡◌, ap, refl, sym}
use native.Mathlib.Nat.{zero-add}
use native.Mathlib.Omega.{arith}
use Rattle.base.proofs.Lists.{get_d-listed, length-listed, listed, listed-eq, zeros-read}
use Rattle.base.proofs.StoresLaws.{get_d-stored, length-stored}
use Rattle.base.proofs.Tests.{eq-cases, ge-ltb, lt-cases, lt-ltb}
use Rattle.base.specs.Range.{bit}
use Rattle.base.specs.Stores.{stored}
use Rattle.blocks.specs.Entries.{entries_of}
use Rattle.blocks.specs.Reading.{reading_of, Reading}
use Rattle.std.specs.Prelude.{Ok, Err}
use Rattle.blocks.specs.Refusals.{refused}
use Rattle.blocks.specs.declared.Refusal.{Refusal}
use Rattle.blocks.specs.declared.Schema.TheVariants.{Description}
use Rattle.logic.specs.Background.{Background}
use Rattle.pairs.specs.Pairs.{pairs_reading, under}
use Rattle.passes.proofs.SlotLists.KeyLaws.{key-parts}
use Rattle.passes.specs.code.Slots.{inconsistent, nonempty, settled}
use Rattle.slots.proofs.FailingLaws.{accepted-few}
use Rattle.slots.proofs.PassLaws.{blank-zeros}
use Rattle.slots.specs.code.Standing.{FilledBy, FilledUnder, Fills, bad_after, bad_under, full_after, full_under, room_in, slots_stored, slotting_of, slotting_under, table_after, table_under}
use Rattle.slots.specs.code.Tables.{Blank, Cleared, Exact, Settled, Tabled, high_in, high_number, high_part, key_in, low_part, marks_from, no_bound, slot_in, slot_number, slot_word, slots_from, slots_of}
use Rattle.blocks.specs.declared.Cause.TheVariants.{Room}

-- ---- cleared tables

pub cleared-zeros : (n k m c : ℕ) → n < k → 251 ≤ m → m ≤ 4093 → m + 2 * k ≤ c → c ≤ 8192 → Cleared n m (replicate c 0) (replicate k 0)
cleared-zeros n k m c h l b r s =
    record {
      wide = l;
      narrow = b;
      inside = rw (length-replicate {A = ℕ} c 0) (omega arith);
      small = rw (length-replicate {A = ℕ} c 0) s;
      zero' = zeros-read c refl;
      nodes = blank-zeros n k h;
    }

-- and what a workspace of such tables is told to be
pub ready-zeros : (n k m c : ℕ) → n < k → 251 ≤ m → m ≤ 4093 → m + 2 * k ≤ c → c ≤ 8192
    → Cleared n m (replicate c 0) (replicate k 0) × Blank n (replicate k 0) × Blank n (replicate k 0)
ready-zeros n k m c h l b r s = (cleared-zeros n k m c h l b r s, blank-zeros n k h, blank-zeros n k h)

-- ---- a table of slots

number-parts : (x : ℕ) → slot_number (key_in x) (low_part x) (high_part x) ≡ x
unfolding slot_number key_in low_part high_part
number-parts x = omega arith

high-back : (h : ℕ) → h ≤ no_bound → high_number (high_in h) ≡ h
high-back h l = lt-cases h no_bound (λ k. rw (lt-ltb k)) (λ k. rw (ge-ltb k) (omega arith))

-- a slot that was read from a number gives the number back
slot-back : (x : ℕ) → high_part x ≤ no_bound → slot_word (slot_in x) ≡ x
unfolding slot_in
slot-back x h = rw (slot_in, key-parts (key_in x), high-back (high_part x) h) (number-parts x)

slots-back : (t : List ℕ) (i n : ℕ) → ((j : ℕ) → i ≤ j → j < i + n → high_part (get_or t j 0) ≤ no_bound) → map slot_word (slots_from t i n) ≡ listed (λ k. get_or t k 0) i n
unfolding slots_from listed
slots-back t i zero h = refl
slots-back t i (suc n) h = rw (slot-back (get_or t i 0) (h i (omega arith) (omega arith)), slots-back t (suc i) n (λ j lo hi. h j (omega arith) (omega arith)))

-- a number outside stores in a row stays
sets-other : (xs l : List ℕ) (i j : ℕ) → (j < i) ⊎ (i + length xs ≤ j) → get_or (sets l i xs) j 0 ≡ get_or l j 0
sets-other [] l i j h = refl
sets-other (x ∷ xs) l i j h =
    sets-other xs (set l i x) (suc i) j (⊎_elim (λ (a : j < i). inl (omega arith)) (λ (a : i + suc (length xs) ≤ j). inr (omega arith)) h)
    ∙ get_or-set_other l i j x 0 (λ q. ⊎_elim (λ (a : j < i). omega arith) (λ (a : i + suc (length xs) ≤ j). omega arith) h)

stored_other : (xs l : List ℕ) (i j : ℕ) → (j < i) ⊎ (i + length xs ≤ j) → get_or (stored l i xs) j 0 ≡ get_or l j 0
unfolding stored
stored_other xs l i j h = sets-other xs l i j h

-- a table is the one before with the slots that stand in it
pub table-exact : {b : Background} {o t d : List ℕ} {used : ℕ} → Exact o t used → Tabled b d used t → t ≡ slots_stored b d o
unfolding slots_stored
table-exact {b} {o} {t} {d} {used} x s =
    let ws = listed (λ k. get_or t k 0) 1 used in
    let n = length-listed (λ k. get_or t k 0) 1 used in
    let back : map slot_word (settled 1 (slots_of b d)) ≡ ws = rw (← s.slotted) (slots-back t 1 used (λ j lo hi. x.high j lo (omega arith))) in
    let l = length-stored o ws 1 in
    rw (slots_stored, back) (ext_get_or 0 t (stored o 1 ws) (x.size ∙ sym l) (λ k l'.
    eq-cases k 0
    (λ z. rw z (x.top ∙ sym (stored_other ws o 1 0 (inl (omega arith)))))
    (λ z. lt-cases used k
    (λ a. x.rest k a ∙ sym (stored_other ws o 1 k (inr (omega arith))))
    (λ a.
    let e : k ≡ 1 + (k - 1) = omega arith in
    ap (λ (i : ℕ). get_or t i 0) e ∙ sym (get_d-listed (λ i. get_or t i 0) 1 used 0 (k - 1) (omega arith))
    ∙ sym (ap (λ (i : ℕ). get_or (stored o 1 ws) i 0) e ∙ get_d-stored o ws 1 (k - 1) (omega arith) (omega (arith, s.room, x.size)))))))

-- ---- a table of marks

marks-listed : (f : ℕ → Bool) (v n : ℕ) → marks_from f v n ≡ listed (λ u. bit (f u)) v n
unfolding marks_from listed
marks-listed f v zero = refl
marks-listed f v (suc n) = rw (marks-listed f (suc v) n)

pub marks-exact : {m : List ℕ} (f : ℕ → Bool) (n : ℕ) → length m ≡ n → ((v : ℕ) → get_or m v 0 ≡ bit (f v)) → m ≡ marks_from f 0 n
marks-exact {m} f n e h = sym (marks-listed f 0 n ∙ rw (← e) (listed-eq (λ u. bit (f u)) 0 0 m (λ k l. rw zero-add (sym (h k)))))

-- ---- the ways through filling

-- refused: nothing changes
pub filling-refused : (b : Background) (d : List ℕ) {x : Refusal} → reading_of Description 1 d ≡ Err x → (t bad full : List ℕ) → Fills b d t bad full (Err x) t bad full
unfolding slotting_under table_under bad_under full_under
filling-refused b d e t bad full = (rw (slotting_under, e), rw (table_under, e), rw (bad_under, e), rw (full_under, e), λ room. e)

module _ (b : Background) (d : List ℕ) {n : ℕ} (e : reading_of Description 1 d ≡ Ok n) (t bad full : List ℕ) where
  -- a table is too short: nothing changes
  pub filling-short : room_in t bad full ≤ n → Fills b d t bad full (refused Room 0 0) t bad full
  unfolding slotting_under table_under bad_under full_under
  filling-short h =
      let few = accepted-few 1 d e in
      let no : ltb (length (entries_of d)) (room_in t bad full) ≡ false = rw (← few.0) (ge-ltb h) in
      (rw (slotting_under, e, no), rw (table_under, e, no), rw (bad_under, e, no), rw (full_under, e, no), λ room. absurd (omega (arith, few.1, h, room)))

  -- filled: the marks are those of the slots, whatever they were
  pub filling-accepted : {t' bad' full' : List ℕ} {used : ℕ} → n < room_in t bad full → Settled b d used t' bad' full' → Exact t t' used → length bad' ≡ length bad → length full' ≡ length full
      → Fills b d t bad full (Ok used) t' bad' full'
  unfolding slotting_under table_under bad_under full_under
  filling-accepted h s x m f =
      let there : ltb (length (entries_of d)) (room_in t bad full) ≡ true = rw (← (accepted-few 1 d e).0) (lt-ltb h) in (
        rw (slotting_under, e, there) (ap Ok s.tabled.counted),
        rw (table_under, e, there) (table-exact x s.tabled),
        rw (bad_under, e, there) (marks-exact (inconsistent 1 (slots_of b d)) (length bad) m s.bads),
        rw (full_under, e, there) (marks-exact (nonempty 1 (settled 1 (slots_of b d))) (length full) f s.fulls),
        record { total = n; read = e; slots-settled = s },
      )

-- ---- under a list of pairs

module _ (P d : List ℕ) where
  abbrev FillsListed : List ℕ → List ℕ → List ℕ → Reading → List ℕ → List ℕ → List ℕ → Type 0
  FillsListed t bad full r t' bad' full' =
      (r ≡ slotting_of P (room_in t bad full) d) × (t' ≡ table_after P (room_in t bad full) d t) × (bad' ≡ bad_after P (room_in t bad full) d bad)
      × (full' ≡ full_after P (room_in t bad full) d full) × FilledBy P (room_in t bad full) d t' bad' full' r

  -- it is refused: nothing changes
  pub filling-list : (t bad full : List ℕ) {x : Refusal} → pairs_reading P ≡ Err x → FillsListed t bad full (Err x) t bad full
  unfolding slotting_of table_after bad_after full_after
  filling-list t bad full e = (rw (slotting_of, e), rw (table_after, e), rw (bad_after, e), rw (full_after, e), λ room. rw e)

  -- it is accepted
  module _ {n : ℕ} (e : pairs_reading P ≡ Ok n) where
    filled-listed : (room : ℕ) (t bad full : List ℕ) (r : Reading) → FilledUnder (under P) room d t bad full r → FilledBy P room d t bad full r
    filled-listed room t bad full (Ok used) f = (record { count = n; list_read = e }, f)
    filled-listed room t bad full (Err x) f = λ more. rw e (f more)

    pub filling-listed : (t bad full t' bad' full' : List ℕ) {r : Reading} → Fills (under P) d t bad full r t' bad' full' → FillsListed t bad full r t' bad' full'
    unfolding slotting_of table_after bad_after full_after
    filling-listed t bad full t' bad' full' {r} f =
        (f.0 ∙ rw (slotting_of, e), f.1 ∙ rw (table_after, e), f.2 ∙ rw (bad_after, e), f.3 ∙ rw (full_after, e), filled-listed (room_in t bad full) t' bad' full' r f.4)
