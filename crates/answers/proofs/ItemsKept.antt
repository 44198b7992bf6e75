-- Fitting all items of a delivered record refuses exactly by the first row that applies, and each byte says whether its item fits.
-- Assumes nothing.
use Rattle.std.proofs.lemmas.List.{get_or_append_left}
use Rattle.std.proofs.Common.{◌≡◌, ℕ, ◌+◌, ◌-◌, ◌<◌, ◌≤◌, Bool, true, false, List, [], ◌++◌, length, drop, get_or, Ok, Err, refl, sym, ap, ◌∙◌, arith}
use lib.Seq.{drop_at}
use Rattle.answers.proofs.Accepted.{plain-entries, plain-read}
use Rattle.answers.proofs.AnswerLaws.{refused-answered, same-refused}
use Rattle.answers.proofs.DictionaryOrder.{dictionary-accepted, dictionary-cases, dictionary-refused, line_refused, none-accepted}
use Rattle.answers.proofs.Order.{by_lines, line-cases, list_cases}
use Rattle.answers.proofs.RankingKept.{bit-one}
use Rattle.answers.specs.Calls.{NothingWritten, RefusedExactly}
use Rattle.answers.specs.Items.{ItemsRefused, MarksItems, item_byte}
use Rattle.answers.specs.Items.ItemsRefused.{delivered as by-record, description as by-description, dictionary as by-dictionary, list as by-list, short as by-short}
use Rattle.answers.specs.Promise.{Admitted, ContainedNamed, fits_in}
use Rattle.answers.specs.Refusals.{AcceptedBy, DictionaryTaken}
use Rattle.base.proofs.Lists.{get_d-listed, length-listed, listed}
use Rattle.base.proofs.Tests.{bool_cases, ge-ltb, lt-cases, lt-ltb}
use Rattle.base.specs.Range.{bit}
use Rattle.blocks.proofs.Refusing.FirstFault.{clean-none, first_found, found_first, none-clean}
use Rattle.blocks.proofs.Refusing.Readings.{accepted-finding, reading-cases, refused-finding}
use Rattle.blocks.specs.Entries.{entries_of}
use Rattle.blocks.specs.Faults.{first}
use Rattle.blocks.specs.Frame.{plain, total_in}
use Rattle.blocks.specs.Promise.{FirstOf, NoneApplies}
use Rattle.blocks.specs.Reading.{Reading, answer}
use Rattle.blocks.specs.Refusals.{refused}
use Rattle.blocks.specs.declared.Cause.{Cause}
use Rattle.blocks.specs.declared.Cause.TheVariants.{Room}
use Rattle.delivered.proofs.PromiseKept.{delivered-keeps}
use Rattle.delivered.proofs.ReadingLaws.{taken, under-list}
use Rattle.delivered.specs.Reading.{delivered_faults, delivered_reading}
use Rattle.delivered.specs.Record.{delivered_record}
use Rattle.items.proofs.AnswerLaws.{description-last, none-taken, none-unfolds}
use Rattle.items.specs.Answer.{bytes_of, items_of, items_reading, marked_of}
use Rattle.logic.specs.Background.{Keeps}
use Rattle.logic.specs.Record.{Record, fits}
use Rattle.meaning.specs.Description.{place_of}
use Rattle.names.proofs.Legality.AcceptedReadings.{sent-accepted, sent-legal}
use Rattle.names.proofs.PromiseKept.{unfolds-plainly}
use Rattle.names.specs.NamedReading.{dictionary_of, dictionary_reading, named_faults, named_reading, named_unfolding, plain_of, sent_of, unfolding_of}
use Rattle.names.specs.Unfold.{unfolded_by}
use Rattle.pairs.proofs.PairsAccepted as list
use Rattle.pairs.proofs.PairsRefused.{pairs-refused}
use Rattle.pairs.specs.Pairs.{pair_faults, pairs_reading, under}
use Rattle.unfolding.proofs.BufferLaws.{sent-itself}

-- ---- by each row

module _ (P D : List ℕ) (total : ℕ) (r d out : List ℕ) where
  record-refused : NoneApplies (pair_faults P) → {k : Cause} {p : ℕ} → FirstOf (delivered_faults P total r) k p → delivered_reading P total r ≡ refused k 1 p
  record-refused n {k} {p} f =
      let q = first_found (delivered_faults P total r) k p f in
      under-list P total r (list.none-accepted P n) ∙ rw q

  record-taken : NoneApplies (pair_faults P) → NoneApplies (delivered_faults P total r) → delivered_reading P total r ≡ Ok (total_in plain r)
  record-taken n z =
      let q = none-clean (delivered_faults P total r) z in
      under-list P total r (list.none-accepted P n) ∙ rw q

  by-reading : {k : Cause} {i p : ℕ} → items_reading P D total r d ≡ refused k i p → items_of P D total r d out ≡ refused k i p
  unfolding items_of
  by-reading e = rw (items_of, e)

  -- what is read where nothing is refused
  items-read : {X : Type 0} → NoneApplies (pair_faults P) → AcceptedBy D d → NoneApplies (delivered_faults P total r)
      → ((m : ℕ) → items_reading P D total r d ≡ Ok m → X) → X
  unfolding items_reading named_unfolding
  items-read n B z f =
      let e = list.none-accepted P n in
      let u = dictionary-accepted D B.dictionary in
      let v = record-taken n z in
      let w = none-accepted (dictionary_of D) 2 d B.description in
      f (length (unfolded_by (dictionary_of D) (entries_of d))) (rw (items_reading, named_unfolding, e, u, v, w))

  items-refuses : {k : Cause} {i p : ℕ} → ItemsRefused P D total r d out k i p → items_of P D total r d out ≡ refused k i p
  unfolding items_of items_reading named_unfolding
  items-refuses (by-list f) = let e = pairs-refused P f in by-reading (rw (items_reading, e))
  items-refuses (by-dictionary n q) = let e = list.none-accepted P n in let u = dictionary-refused D q in by-reading (rw (items_reading, e, u))
  items-refuses (by-record n T f) =
      let e = list.none-accepted P n in
      let u = dictionary-accepted D T in
      let v = record-refused n f in
      by-reading (rw (items_reading, e, u, v))
  items-refuses (by-description n T z f) =
      let e = list.none-accepted P n in
      let u = dictionary-accepted D T in
      let v = record-taken n z in
      let w = line_refused (dictionary_of D) 2 d f in
      by-reading (rw (items_reading, named_unfolding, e, u, v, w))
  items-refuses (by-short n B z h) = items-read n B z (λ m e. rw (items_of, e, lt-ltb h))

  items-answers : NoneApplies (pair_faults P) → AcceptedBy D d → NoneApplies (delivered_faults P total r) → total ≤ length out → items_of P D total r d out ≡ Ok total
  unfolding items_of
  items-answers n B z h = items-read n B z (λ m e. rw (items_of, e, ge-ltb h))

  delivered-cases : {X : Type 0} → ((k : Cause) (p : ℕ) → FirstOf (delivered_faults P total r) k p → X) → (NoneApplies (delivered_faults P total r) → X) → X
  delivered-cases f g =
      let found = first (delivered_faults P total r) in
      reading-cases (answer 1 (total_in plain r) found)
      (λ k i p e. f k p (found_first (delivered_faults P total r) k p (refused-finding 1 (total_in plain r) found e).1))
      (λ n e. g (clean-none (delivered_faults P total r) (accepted-finding 1 (total_in plain r) found e).1))

  items-cases : {X : Type 0} → ((k : Cause) (i p : ℕ) → ItemsRefused P D total r d out k i p → X)
      → (NoneApplies (pair_faults P) → AcceptedBy D d → NoneApplies (delivered_faults P total r) → total ≤ length out → X) → X
  items-cases f g =
      list_cases P
      (λ k p q. f k 0 p (by-list q))
      (λ n. dictionary-cases D
      (λ k i p q. f k i p (by-dictionary n q))
      (λ T. delivered-cases
      (λ k p q. f k 1 p (by-record n T q))
      (λ z. line-cases D 2 d
      (λ k p q. f k 2 p (by-description n T z q))
      (λ y.
      let B : AcceptedBy D d = record { dictionary = T; description = y } in
      lt-cases (length out) total (λ h. f Room 0 0 (by-short n B z h)) (λ h. g n B z h)))))

  -- [J6] exactly by the first that applies
  pub items-refused-exactly : RefusedExactly (items_of P D total r d out) (ItemsRefused P D total r d out)
  items-refused-exactly k i p = (
    λ e. items-cases
        (λ k' i' p' q. same-refused (ItemsRefused P D total r d out) (items-refuses q) e q)
        (λ n B z h. refused-answered e (items-answers n B z h)),
    items-refuses,
  )

  -- [R21] a refusal writes nothing
  pub items-unchanged : NothingWritten (items_of P D total r d out) (marked_of P D total r d out) out
  unfolding marked_of
  items-unchanged k i p e = rw (marked_of, e)

-- ---- what is answered

-- the description that a call goes on with is fitted by the same items as the one with names
sent-means : (D d : List ℕ) (A : Admitted D d) (R : Record) (x : ℕ) → fits R (place_of (entries_of (sent_of D d)) 0) x ≡ fits_in R D d x
sent-means D d A R x =
    rw ((sent-accepted D 1 d (A.read 1) 1).1) ((unfolds-plainly (dictionary_of D) (entries_of d) (sent-legal D 1 d (A.read 1))).means R x)

-- what was answered was accepted, and the output has room
module _ (P D : List ℕ) (total : ℕ) (r d out : List ℕ) {n : ℕ} (e : items_of P D total r d out ≡ Ok n) where
  pub answered : {X : Type 0} → ((k : ℕ) → delivered_reading P total r ≡ Ok k → Admitted D d → total ≤ length out → X) → X
  answered f =
      items-cases P D total r d out
      (λ k i p q. refused-answered (items-refuses P D total r d out q) e)
      (λ m B z h. f (total_in plain r) (record-taken P D total r d out m z) (by_lines D d B) h)

  pub answered-count : n ≡ total
  answered-count =
      items-cases P D total r d out
      (λ k i p q. refused-answered (items-refuses P D total r d out q) e)
      (λ m B z h. let w : Ok n ≡ Ok total = sym e ∙ items-answers P D total r d out m B z h in let y : n ≡ total = cc in y)

  written : marked_of P D total r d out ≡ bytes_of total (entries_of r) (entries_of (sent_of D d)) ++ drop total out
  unfolding marked_of
  written = rw (marked_of, e)

  pub byte-is : (x : ℕ) → x < total → item_byte P D total r d out x ≡ bit (fits_in (delivered_record total (entries_of r)) D d x)
  unfolding bytes_of
  byte-is x h =
      answered (λ k t A room.
      let R = delivered_record total (entries_of r) in
      let f : ℕ → ℕ = λ y. bit (fits R (place_of (entries_of (sent_of D d)) 0) y) in
      let z : 0 + x ≡ x = omega arith in
      rw written
      (get_or_append_left (listed f 0 total) (drop total out) 0 x (omega (arith, length-listed f 0 total))
      ∙ get_d-listed f 0 total 0 x h ∙ ap f z ∙ ap bit (sent-means D d A R x)))

-- [J4] [J7] each byte is the answer for its item
pub marks-items : (P D : List ℕ) (total : ℕ) (r d out : List ℕ) {n : ℕ} → items_of P D total r d out ≡ Ok n → MarksItems P D total r d out n
unfolding bytes_of items_of delivered_record
marks-items P D total r d out {n} e =
    answered P D total r d out e (λ k t A room.
    let T = taken P total r t in
    let R = delivered_record total (entries_of r) in
    let count = answered-count P D total r d out e in
    let bytes = bytes_of total (entries_of r) (entries_of (sent_of D d)) in
    let long : length bytes ≡ total = length-listed _ 0 total in
    let plainly = none-unfolds (plain_of D d) (plain-read D d A 2) in
    let same : items_of P [] total r (plain_of D d) out ≡ Ok total =
    rw (items_of, sym (description-last P [] total r (plain_of D d) none-taken t (sym plainly)), ge-ltb room) in
    let entries : entries_of (sent_of [] (plain_of D d)) ≡ entries_of (sent_of D d) =
    ap entries_of (sent-itself [] (plain_of D d) refl) ∙ plain-entries D d A ∙ sym ((sent-accepted D 1 d (A.read 1) 1).1) in
    record {
      count = count;
      some = T.some;
      most = T.most;
      room = room;
      later = ap (drop total) (written P D total r d out e) ∙ drop_at bytes (drop total out) total long;
      kept = delivered-keeps P total r t;
      byte = byte-is P D total r d out e;
      unfolded = (same ∙ ap Ok (sym count), written P [] total r (plain_of D d) out same ∙ rw entries (sym (written P D total r d out e)));
      contained = λ c out' m C e' x h b.
          let one = bit-one _ (sym (byte-is P D total r d out e x h) ∙ b) in
          byte-is P D total r c out' e' x h ∙ ap bit (C R (delivered-keeps P total r t) x h one);
    })
