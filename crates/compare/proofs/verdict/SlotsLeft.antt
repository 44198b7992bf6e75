-- What the slots' layer answers and leaves behind: refused, all hold, or the slots of the first description and the entry that fails.
-- Assumes nothing.
use Prim.Native.Nat.{◌+◌, ◌<◌, ◌≤◌, ℕ}
use lib.ListN.{get_or, length, length-map, take}
use lib.Seq.{get_or-take, length-take-le}
use mathlib.Core.List.{List, map}
use mathlib.Core.Path.{◌∙◌, ◌≡◌, ap, refl, sym}
use native.Mathlib.Omega.{arith}
use Rattle.blocks.proofs.RoundTrip.Accepting.{none-of-accepted}
use Rattle.blocks.specs.Entries.{entries_of}
use Rattle.blocks.specs.declared.Schema.TheVariants.{Description}
use Rattle.blocks.proofs.Refusing.Readings.{reading-cases}
use Rattle.std.specs.Prelude.{Ok, Err, None, Some}
use Rattle.blocks.specs.Refusals.{refusal, refused}
use Rattle.compare.proofs.AnswerLaws.{first-refused, list_read, list-refused, second-refused}
use Rattle.compare.proofs.PromiseKept.{refused-unchanged}
use Rattle.compare.specs.Answer.{compare_of, output_of}
use Rattle.compare.specs.code.Prepared.{Agreed, Failed, FailedSomehow, Roomy}
use Rattle.logic.specs.Background.{Background, LawfulBackground}
use Rattle.meaning.specs.Description.{place_of, row_of}
use Rattle.meaning.specs.Failing.{failing, normal_of}
use Rattle.passes.proofs.CellPlaces.FormNormal.{form-top}
use Rattle.passes.proofs.CellPlaces.FormSettled.{form-settled}
use Rattle.passes.proofs.SlotLists.RestrictLaws.{under-length}
use Rattle.passes.specs.code.Slots.{settled}
use Rattle.pairs.proofs.Under.{ruled-under}
use Rattle.pairs.specs.Pairs.{pairs_reading, under}
use Rattle.pairs.specs.Promise.{ListRead}
use Rattle.slots.proofs.FailingLaws as slots
use Rattle.slots.proofs.FailingLaws.{all_hold, one-fails, refused-by}
use Rattle.slots.proofs.PassLaws.{settled-low}
use Rattle.slots.proofs.PlacesInTable.{table-stood}
use Rattle.slots.proofs.TableSearch.{front-slots}
use Rattle.slots.specs.Holding.{Holding, failing_in, holding_of, holding_under}
use Rattle.slots.specs.code.Standing.{Judged, JudgedBy}
use Rattle.slots.specs.code.TablePlaces.{Stood, all_slots, place_in, used_in}
use Rattle.slots.specs.code.Tables.{slots_of}
use Rattle.slots.specs.declared.Unheld.{Unheld}
use Rattle.blocks.specs.declared.Refusal.{Refusal}
use Rattle.blocks.specs.declared.Cause.{Cause}

-- ---- the front of a table

-- as far as the last slot
module _ {b : Background} (law : LawfulBackground b) {c d : List ℕ} {used : ℕ} {t : List ℕ} (j : Judged b c d used t) where
  abbrev front : List ℕ
  front = take (used + 1) t

  front_length : length front ≡ used + 1
  front_length = length-take-le (used + 1) t (omega (arith, j.tabled.room))

  front-used : used_in front ≡ used
  front-used = omega (arith, front_length)

  front-slotted : all_slots front ≡ settled 1 (slots_of b c)
  front-slotted = rw front-used (front-slots t (used + 1) 1 used (omega arith) ∙ j.tabled.slotted)

  front_at : (i : ℕ) → i ≤ used_in front → get_or front i 0 ≡ get_or t i 0
  front_at i h = get_or-take (used + 1) t i 0 (omega (arith, front-used))

  -- the slots of the first description stand in it
  front-stood : Stood front
  front-stood =
      table-stood b (map row_of (entries_of c)) front (omega (arith, front_length)) (omega (arith, front_length, j.tabled.few)) front-slotted
      (λ a e lo l hi. rw (front_at a (omega arith), front_at e hi) (j.tabled.apart a e lo l (omega (arith, front-used))))
      (λ a lo hi. rw (front_at a hi) (j.tabled.lower a lo (omega (arith, front-used))))
      (λ a lo hi. rw (front_at a hi) (settled-low j.tabled a lo (omega (arith, front-used))))

  -- its normal form at their top
  front-top : place_in front 0 ≡ normal_of b (entries_of c)
  unfolding normal_of place_of
  front-top = rw front-slotted (form-settled (slots_of b c) 0 ∙ form-top law (map row_of (entries_of c)) j.possible)

  front-few : length front ≤ length (entries_of c) + 1
  front-few =
      omega (arith, front_length, j.tabled.counted, under-length b (map row_of (entries_of c)), length-map (entries_of c) row_of)

-- ---- by the answer

failing-in : (b : Background) (c d : List ℕ) → failing_in b c d ≡ failing b (entries_of c) (entries_of d)
unfolding failing_in failing normal_of
failing-in b c d = refl

module _ (P c d : List ℕ) where
  -- a refusal is the refusal: there is room in the table
  pub holding-refused : (t out : List ℕ) {x : Refusal} → Roomy c t → holding_of P (length t) c d ≡ Err x
      → (Err x ≡ compare_of P c d out) × (out ≡ output_of P c d out)
  holding-refused t out {x} room h =
      let answered : compare_of P c d out ≡ Err x → (Err x ≡ compare_of P c d out) × (out ≡ output_of P c d out)
      = λ e. (sym e, sym (refused-unchanged P c d out e)) in
      reading-cases (pairs_reading P)
      (λ k' i' p' q.
      let y = slots.list-refused P (length t) c d q in
      let g : refusal k' i' p' ≡ x = cc in
      answered (list-refused P c d out q ∙ ap Err g))
      (λ n l.
      let under' = sym (slots.list_read P (length t) c d l) ∙ h in
      let read = list_read P c d out l in
      refused-by (under P) (length t) c d under'
      (λ q. answered (read ∙ first-refused (under P) c d out q))
      (λ n e q. answered (read ∙ second-refused (under P) c d out e q))
      (λ r l. absurd (omega (arith, room r.first r.first_read, (none-of-accepted Description 1 c r.first_read).1))))

  -- an answer that is no refusal is one under the list's background
  holding-listed : {X : Type 0} (room : ℕ) → ((k : Cause) (i p : ℕ) → holding_of P room c d ≡ refused k i p → X)
      → ((n : ℕ) → pairs_reading P ≡ Ok n → holding_of P room c d ≡ holding_under (under P) room c d → X) → X
  holding-listed room f g =
      reading-cases (pairs_reading P) (λ k i p q. f k i p (slots.list-refused P room c d q)) (λ n l. g n l (slots.list_read P room c d l))

  -- all entries hold
  pub holding-agreed : (room : ℕ) → holding_of P room c d ≡ Ok None → ListRead P × Agreed (under P) c d
  holding-agreed room h =
      holding-listed room
      (λ k i p q. let z : ◌≡◌ {A = ℕ} 0 1 = cc in absurd (omega arith))
      (λ n l e.
      let r = all_hold (under P) room c d (sym e ∙ h) in
      (record { count = n; list_read = l }, record { read = r.0; none = sym (failing-in (under P) c d) ∙ r.1 }))

  -- one fails, and the slots stand in the table
  pub holding-room : (t : List ℕ) {x : Unheld} {r : Holding} → r ≡ Ok (Some x) → JudgedBy P c d t r → x.used < length t
  holding-room t {x = x} is by = let j : Judged (under P) c d x.used t = rw is at by in j.tabled.room

  -- they are lent as far as the last
  left-failed : (room : ℕ) (t : List ℕ) (k : ℕ) {x : Unheld} {r : Holding} → r ≡ holding_of P room c d → r ≡ Ok (Some x) → JudgedBy P c d t r
      → k ≡ x.used + 1 → ListRead P × Failed (under P) c d x.entry (take k t)
  left-failed room t k {x} e is by size =
      let answer : holding_of P room c d ≡ Ok (Some x) = sym e ∙ is in
      holding-listed room
      (λ k i p q. let z : ◌≡◌ {A = ℕ} 0 1 = cc in absurd (omega arith))
      (λ m l u.
      let f = one-fails (under P) room c d (sym u ∙ answer) in
      let j : Judged (under P) c d x.used t = rw is at by in
      let law = (ruled-under P l).lawful in (
        record { count = m; list_read = l },
        rw size
            (record {
              read = f.0;
              fails = sym (failing-in (under P) c d) ∙ f.1;
              some' = f.2;
              stood = front-stood law j;
              few = front-few law j;
              top = front-top law j;
              bounded = j.tabled.bounded;
            }),
      ))

  -- by the numbers of the entry and of the slots as they are handed on
  pub holding-failed : (room : ℕ) (t : List ℕ) (n k : ℕ) {x : Unheld} {r : Holding} → r ≡ holding_of P room c d → r ≡ Ok (Some x)
      → JudgedBy P c d t r → n ≡ x.entry → k ≡ x.used + 1 → ListRead P × Failed (under P) c d n (take k t)
  holding-failed room t n k e is by entry size = rw entry (left-failed room t k e is by size)

-- a list that is accepted, and an entry that fails under its background
pub failed-somehow : {P c d t : List ℕ} {n : ℕ} → ListRead P × Failed (under P) c d n t → FailedSomehow c d n t
failed-somehow {P} f = record { background = under P; ruled = ruled-under P f.0.list_read; failed = f.1 }
