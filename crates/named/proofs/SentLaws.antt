-- With a dictionary of length 0: the answers by those of the plain calls.
-- Assumes nothing.
use Prim.Native.Nat.{◌+◌, ℕ}
use lib.Dec.{eqb, ltb}
use lib.ListN.{length}
use mathlib.Core.Bool.{Bool, ◌&&◌, false, true}
use mathlib.Core.List.{List, [], ◌∷◌}
use mathlib.Core.Logic.{◌≢◌}
use mathlib.Core.Path.{◌∙◌, ◌≡◌, ap, refl, sym}
use native.Mathlib.Omega.{arith}
use Rattle.base.proofs.Tests.{bool_cases, eq-cases, eq-eqb, ne_eqb}
use Rattle.blocks.proofs.Refusing.Readings.{reading-cases, refused-finding}
use Rattle.blocks.proofs.RoundTrip.RefusalNumbers.{reading-number}
use Rattle.blocks.specs.Entries.{entries_of, entry_of, is_named}
use Rattle.blocks.specs.Faults.{first}
use Rattle.blocks.specs.Frame.{plain, total_in}
use Rattle.blocks.specs.Reading.{answer, reading_of, Reading}
use Rattle.blocks.specs.declared.Entry.{Entry}
use Rattle.std.proofs.lemmas.Result.{err_from_is_err_and}
use Rattle.std.specs.Prelude.{Err, IsErrAnd, MatchResult, Ok, Result}
use Rattle.blocks.specs.declared.Refusal.{Refusal}
use Rattle.blocks.specs.Refusals.{number_of, refused}
use Rattle.blocks.specs.declared.Schema.TheVariants.{Description}
use Rattle.clashes.specs.Clash.{specimen_faults, specimen_reading}
use Rattle.compare.proofs.AnswerLaws.{empty-list}
use Rattle.compare.specs.Answer as compared
use Rattle.compare.specs.Answer.{Comparison, compare_under, not_contained, output_under}
use Rattle.fit.proofs.AnswerLaws as judged
use Rattle.fit.specs.Answer.{FitAnswer, fit_of, top_fits}
use Rattle.fit.specs.Counted.{counted_of}
use Rattle.fit.specs.declared.Counted.{Counted}
use Rattle.lists.specs.Parts.{parts_from, parts_of}
use Rattle.logic.specs.Background.{standing}
use Rattle.meaning.specs.Failing.{failing}
use Rattle.named.specs.Answer.{compare_named, counted_named, fit_named, normalise_named, normalised_named, output_named}
use Rattle.named.specs.code.Sent.{sent_as, sent_at, sent_by}
use Rattle.names.proofs.Legality.Nameless.{named_none}
use Rattle.names.specs.NamedForm.{named_form_ok}
use Rattle.names.specs.NamedReading.{dictionary_reading, cause_at, named_unfolding, parts_reading, unfolding_of}
use Rattle.names.specs.Unfold.{unfolded_by}
use Rattle.normal.specs.Answer as normal
use Rattle.pairs.specs.Pairs.{pair_count, pair_faults, pairs_reading, under}
use Rattle.unfolding.proofs.BufferLaws.{sent-itself}
use Rattle.blocks.specs.declared.Cause.{Cause}
use Rattle.blocks.specs.declared.Cause.TheVariants.{Length, Check, Framing, Form, Owner, Depth, Room, Count, Double, Item, Pairs, Clash, Name, Size, Walking, Full, Empty, Stand, Profile, Desk}

-- ---- what `map_err` gives

-- a result that `map_err` gives: what its closure ensures of a refusal is that it is sent so
pub sent-mapped : {A : Type 0} (s : List ℕ) (i : ℕ) (r : Result A Refusal) {t : Result A Refusal} {Q : Refusal → Refusal → Type 0}
    → ((e x : Refusal) → Q e x → x ≡ sent_as s i e)
    → MatchResult r (λ a. t ≡ Ok a) (λ e. IsErrAnd t (Q e))
    → t ≡ sent_by s i r
sent-mapped s i (Ok a) f h = h
sent-mapped s i (Err e) {t} f h = let p = err_from_is_err_and t h in p.1 ∙ ap Err (f e p.0 p.2)

-- ---- why something is refused

-- number 4 is Form
pub form-number : (k : Cause) → number_of k ≡ 4 → k ≡ Form
form-number Length e = absurd (omega arith)
form-number Check e = absurd (omega arith)
form-number Framing e = absurd (omega arith)
form-number Form e = refl
form-number Owner e = absurd (omega arith)
form-number Depth e = absurd (omega arith)
form-number Room e = absurd (omega arith)
form-number Count e = absurd (omega arith)
form-number Double e = absurd (omega arith)
form-number Item e = absurd (omega arith)
form-number Pairs e = absurd (omega arith)
form-number Clash e = absurd (omega arith)
form-number Name e = absurd (omega arith)
form-number Size e = absurd (omega arith)
form-number Walking e = absurd (omega arith)
form-number Full e = absurd (omega arith)
form-number Empty e = absurd (omega arith)
form-number Stand e = absurd (omega arith)
form-number Profile e = absurd (omega arith)
form-number Desk e = absurd (omega arith)

pub number-else : (e : Entry) {k : Cause} → number_of k ≢ 4 → k ≡ cause_at e k
unfolding cause_at
number-else e z = rw (ne_eqb z)

module _ {e x : Entry} {b : Bool} (q : x ≡ e) (t : b ≡ (is_named x && named_form_ok x)) where
  told : (is_named e && named_form_ok e) ≡ b
  told = sym (t ∙ ap (λ (y : Entry). is_named y && named_form_ok y) q)

  pub number-name : (k : Cause) → number_of k ≡ 4 → b ≡ true → Name ≡ cause_at e k
  unfolding cause_at
  number-name k z y = rw (eq-eqb z, told, y)

  pub number-other : (k : Cause) → b ≡ false → k ≡ cause_at e k
  unfolding cause_at
  number-other k y = bool_cases (eqb (number_of k) 4) (λ w. rw (w, told, y)) (λ w. rw w)

-- ---- no dictionary

-- what holds of a dictionary of no bytes holds of one of length 0
pub none-given : (F : List ℕ → Type 0) (D : List ℕ) → length D ≡ 0 → F [] → F D
none-given F [] e h = h
none-given F (x ∷ D) e h = absurd (omega arith)

module _ (P D : List ℕ) (z : length D ≡ 0) where
  pub normal-none : (d out : List ℕ) {r : Reading} {o : List ℕ}
      → (r ≡ normalise_named P [] d out) × (o ≡ normalised_named P [] d out) → (r ≡ normalise_named P D d out) × (o ≡ normalised_named P D d out)
  normal-none d out {r} {o} h = none-given (λ (K : List ℕ). (r ≡ normalise_named P K d out) × (o ≡ normalised_named P K d out)) D z h

  pub comparison-none : (c d out : List ℕ) {r : Comparison} {o : List ℕ}
      → (r ≡ compare_named P [] c d out) × (o ≡ output_named P [] c d out) → (r ≡ compare_named P D c d out) × (o ≡ output_named P D c d out)
  comparison-none c d out {r} {o} h = none-given (λ (K : List ℕ). (r ≡ compare_named P K c d out) × (o ≡ output_named P K c d out)) D z h

  pub fit_none : (s d : List ℕ) {r : FitAnswer} → r ≡ fit_named P [] s d → r ≡ fit_named P D s d
  fit_none s d {r} h = none-given (λ (K : List ℕ). r ≡ fit_named P K s d) D z h

-- ---- reading

module _ (i : ℕ) (s : List ℕ) where
  none-goes : unfolding_of [] i s ≡ named_unfolding [] i s
  unfolding unfolding_of dictionary_reading parts_reading parts_of parts_from
  none-goes = refl

  -- a refusal of the plain description is one of the named, with the number of its entry
  pub sent-refused : {k : Cause} {j p : ℕ} → reading_of Description i s ≡ refused k j p → unfolding_of [] i s ≡ refused (sent_at s p k) j p
  unfolding named_unfolding
  sent-refused e = let n = named_none i s in none-goes ∙ rw (n, e)

  -- and so is what is accepted
  pub sent-accepted : {n : ℕ} → reading_of Description i s ≡ Ok n → unfolding_of [] i s ≡ Ok (length (unfolded_by [] (entries_of s)))
  unfolding named_unfolding
  sent-accepted e = let n = named_none i s in none-goes ∙ rw (n, e)

-- a list is refused as input 0
pub list-input : (P : List ℕ) {k : Cause} {i p : ℕ} → pairs_reading P ≡ refused k i p → i ≡ 0
unfolding pairs_reading
list-input P e = (refused-finding 0 (pair_count P) (first (pair_faults P)) e).0

-- ---- the normal form

module _ (P d out : List ℕ) where
  -- 7 stays, and so does a number of entries
  room-stays : sent_by d 1 (normal.room_of (under P) d out) ≡ normal.room_of (under P) d out
  unfolding sent_as
  room-stays = bool_cases (ltb (length out) (length d)) (λ q. rw q) (λ q. rw q)

  pub normal-sent : (normalise_named P [] d out ≡ sent_by d 1 (normal.normalise_of P d out))
      × (normalised_named P [] d out ≡ normal.normalised_of P d out)
  unfolding normalise_named normalised_named normal.normalise_of normal.normalised_of normal.normalise_under sent_as
  normal-sent =
      reading-cases (pairs_reading P)
      (λ k i p e. let z = list-input P e in (rw (e, z), rw e))
      (λ m e. reading-cases (reading_of Description 1 d)
      (λ k i p f.
      let one = (reading-number Description 1 d f).1 in
      let u = sent-refused 1 d f in
      (rw (e, u, f, one), rw (e, u, f)))
      (λ n f. let u = sent-accepted 1 d f in (rw (e, u, sent-itself [] d refl, f) (sym room-stays), rw (e, u, sent-itself [] d refl, f))))

-- ---- the comparison

-- input 1, and then input 2
abbrev pub comparison_by : List ℕ → List ℕ → Comparison → Comparison
comparison_by c d r = sent_by d 2 (sent_by c 1 r)

module _ (P c d out : List ℕ) where
  -- 7 stays, and so does a verdict
  verdict-stays : comparison_by c d (compared.room_of (under P) c d out) ≡ compared.room_of (under P) c d out
  unfolding sent_as compared.verdict
  verdict-stays =
      bool_cases (ltb (length out) (length c + length d))
      (λ q. rw q)
      (λ q. bool_cases (eqb (failing (under P) (entries_of c) (entries_of d)) 0) (λ z. rw (q, z)) (λ z. rw (q, z)))

  pub comparison-sent : (compare_named P [] c d out ≡ comparison_by c d (compared.compare_of P c d out))
      × (output_named P [] c d out ≡ compared.output_of P c d out)
  unfolding compare_named output_named compared.compare_of compared.output_of compared.compare_under sent_as
  comparison-sent =
      reading-cases (pairs_reading P)
      (λ k i p e. let z = list-input P e in (rw (e, z), rw e))
      (λ m e. reading-cases (reading_of Description 1 c)
      (λ k i p f.
      let one = (reading-number Description 1 c f).1 in
      let u = sent-refused 1 c f in
      (rw (e, u, f, one), rw (e, u, f)))
      (λ n f.
      let u = sent-accepted 1 c f in
      reading-cases (reading_of Description 2 d)
      (λ k i p g.
      let two = (reading-number Description 2 d g).1 in
      let v = sent-refused 2 d g in
      (rw (e, u, v, f, g, two), rw (e, u, v, f, g)))
      (λ l g.
      let v = sent-accepted 2 d g in (
        rw (e, u, v, sent-itself [] c refl, sent-itself [] d refl, f, g) (sym verdict-stays),
        rw (e, u, v, sent-itself [] c refl, sent-itself [] d refl, f, g),
      ))))

-- with no pairs either: what is answered that is no refusal, and a refusal by another number than 4, are as for plain descriptions
by-not : (c d : List ℕ) (r : Comparison) {j k : ℕ} → comparison_by c d r ≡ not_contained j k → r ≡ not_contained j k
by-not c d (Err x) e = let y : ◌≡◌ {A = ℕ} 0 1 = cc in absurd (omega arith)
by-not c d (Ok v) e = e

module _ (c d out : List ℕ) where
  by-plain : (compare_named [] [] c d out ≡ comparison_by c d (compare_under standing c d out))
      × (output_named [] [] c d out ≡ output_under standing c d out)
  by-plain =
      let s = comparison-sent [] c d out in
      let e = empty-list c d out in
      (s.0 ∙ ap (comparison_by c d) e.0, s.1 ∙ e.1)

  pub plain-verdict : {j k : ℕ} → compare_named [] [] c d out ≡ not_contained j k
      → (compare_under standing c d out ≡ not_contained j k) × (output_named [] [] c d out ≡ output_under standing c d out)
  plain-verdict e = (by-not c d (compare_under standing c d out) (sym by-plain.0 ∙ e), by-plain.1)

  pub plain-answered : {j k : ℕ} → compare_under standing c d out ≡ not_contained j k
      → (compare_named [] [] c d out ≡ not_contained j k) × (output_named [] [] c d out ≡ output_under standing c d out)
  plain-answered e = (by-plain.0 ∙ ap (comparison_by c d) e, by-plain.1)

  pub plain-refused : {k : Cause} {i p : ℕ} → number_of k ≢ 4 → compare_under standing c d out ≡ refused k i p
      → compare_named [] [] c d out ≡ refused k i p
  unfolding sent_as
  plain-refused {k} {i} {p} z e =
      let a : sent_at c p k ≡ k = sym (number-else (entry_of c p p) z) in
      let b : sent_at d p k ≡ k = sym (number-else (entry_of d p p) z) in
      by-plain.0 ∙ ap (comparison_by c d) e
      ∙ eq-cases i 1
      (λ q. rw (eq-eqb q, q, a))
      (λ q. eq-cases i 2 (λ w. rw (w, b)) (λ w. rw (ne_eqb q, ne_eqb w)))

-- ---- the fit answer

module _ (P s d : List ℕ) where
  pub fit-sent : fit_named P [] s d ≡ sent_by d 2 (fit_of P s d)
  unfolding fit_named fit_of sent_as specimen_reading dictionary_reading parts_reading parts_of parts_from
  fit-sent =
      let total = total_in plain s in
      let found = first (specimen_faults P s) in
      reading-cases (pairs_reading P)
      (λ k i p e. let z = list-input P e in rw (e, z))
      (λ m e. reading-cases (answer 1 total found)
      (λ k i p f. let one = (refused-finding 1 total found f).0 in rw (e, f, one))
      (λ n f. reading-cases (reading_of Description 2 d)
      (λ k i p g.
      let two = (reading-number Description 2 d g).1 in
      let u = sym (none-goes 2 d) ∙ sent-refused 2 d g in
      rw (e, f, u, g, two))
      (λ l g.
      let u = sym (none-goes 2 d) ∙ sent-accepted 2 d g in
      rw (e, f, u, sent-itself [] d refl, g) (bool_cases (top_fits s d) (λ y. rw y) (λ y. rw y)))))

-- the same with the additions
pub counted-sent : (s d : List ℕ) {r : FitAnswer} {c : Counted} → c ≡ counted_of s d → r ≡ sent_by d 2 c.answer
    → record { answer = r; table = c.table; walk = c.walk } ≡ counted_named s d
counted-sent s d {r} {c} e f =
    let a : r ≡ fit_named [] [] s d =
    f ∙ ap (λ (x : Counted). sent_by d 2 x.answer) e
    ∙ ap (sent_by d 2) (sym (judged.empty-list s d)) ∙ sym (fit-sent [] s d) in
    rw (a, e)
