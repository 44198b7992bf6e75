-- Asking which entries earn a yes refuses exactly by the first row that applies, and the description cut down to them is contained by the single
-- comparison.
-- Assumes nothing.
use Rattle.std.proofs.Common.{◌≡◌, ℕ, ◌+◌, ◌<◌, ◌≤◌, Bool, true, List, [], length, None, Ok, Result, eqb, refl, sym, ap, ◌∙◌}
use Rattle.answers.proofs.AnswerLaws.{refused-answered, same-refused}
use Rattle.answers.proofs.Nameless.{comparison-nameless}
use Rattle.answers.proofs.Order.{list_cases}
use Rattle.answers.proofs.RankingKept.{none-named}
use Rattle.answers.specs.Calls.{NothingWritten, RefusedExactly}
use Rattle.answers.specs.Earning.{AskedRefused, Earns}
use Rattle.answers.specs.Earning.AskedRefused.{first as by-first, list as by-list, second as by-second, short as by-short}
use Rattle.base.proofs.Tests.{lt-cases}
use Rattle.blocks.proofs.Refusing.Readings.{reading-cases}
use Rattle.blocks.proofs.RoundTrip.Accepting.{accepted-by-none, first-of-refused, none-of-accepted, refused-by-first}
use Rattle.blocks.proofs.RoundTrip.Decoding.{decode-encode}
use Rattle.blocks.specs.Encoding.{encode}
use Rattle.blocks.specs.Entries.{entries_of}
use Rattle.blocks.specs.Faults.{faults}
use Rattle.blocks.specs.Promise.{NoneApplies}
use Rattle.blocks.specs.Reading.{reading_of}
use Rattle.blocks.specs.Refusals.{refused}
use Rattle.blocks.specs.declared.Cause.TheVariants.{Room}
use Rattle.blocks.specs.declared.Cause.{Cause}
use Rattle.blocks.specs.declared.Entry.{Entry}
use Rattle.blocks.specs.declared.Schema.TheVariants.{Description}
use Rattle.compare.proofs.AnswerLaws.{compared, list_read, verdict-contained}
use Rattle.earning.proofs.AnswerLaws.{asked-answers, asked-first, asked-pairs, asked-second, asked-short}
use Rattle.earning.proofs.PromiseKept.{Taken, asked-taken, earns-entries, refused-stays}
use Rattle.earning.specs.Answer.{asked_of, contained, earned_of, earning_of}
use Rattle.earning.specs.Promise.{EarnsEntries, cut_to, earners_of}
use Rattle.meaning.proofs.Verdicts.Contained.{contained-all}
use Rattle.meaning.specs.Failing.{failing}
use Rattle.named.specs.Answer.{compare_named}
use Rattle.narrow_listed.proofs.AcceptedLegal.{legal-read}
use Rattle.pairs.proofs.PairsAccepted as excluding
use Rattle.pairs.proofs.PairsRefused.{pairs-refused}
use Rattle.pairs.proofs.Under.{ruled-under}
use Rattle.pairs.specs.Pairs.{pair_faults, under}

-- ---- by each row

module _ {A : Type 0} (P c d of out : List ℕ) (a : A) where
  pub asked-refuses : {k : Cause} {i p : ℕ} → AskedRefused P c d of out k i p → asked_of P c d of out a ≡ refused k i p
  asked-refuses (by-list f) = asked-pairs P c d of out a (pairs-refused P f)
  asked-refuses (by-first n f) = asked-first P c d of out a (excluding.none-accepted P n) (refused-by-first Description 1 c f)
  asked-refuses (by-second n x f) =
      asked-second P c d of out a (excluding.none-accepted P n) (accepted-by-none Description 1 c x) (refused-by-first Description 2 d f)
  asked-refuses (by-short n x y h) =
      asked-short P c d of out a (excluding.none-accepted P n) (accepted-by-none Description 1 c x) (accepted-by-none Description 2 d y) h

  asked-given : NoneApplies (pair_faults P) → NoneApplies (faults Description c) → NoneApplies (faults Description d)
      → length (entries_of of) ≤ length out → asked_of P c d of out a ≡ Ok a
  asked-given n x y h = asked-answers P c d of out a (excluding.none-accepted P n) (accepted-by-none Description 1 c x) (accepted-by-none Description 2 d y) h

  asked-cases : {X : Type 0} → ((k : Cause) (i p : ℕ) → AskedRefused P c d of out k i p → X)
      → (NoneApplies (pair_faults P) → NoneApplies (faults Description c) → NoneApplies (faults Description d) → length (entries_of of) ≤ length out → X) → X
  asked-cases f g =
      list_cases P
      (λ k p r. f k 0 p (by-list r))
      (λ n. reading-cases (reading_of Description 1 c)
      (λ k i p r. f k 1 p (by-first n (first-of-refused Description 1 c r).1))
      (λ t r. let x = (none-of-accepted Description 1 c r).0 in
      reading-cases (reading_of Description 2 d)
      (λ k i p s. f k 2 p (by-second n x (first-of-refused Description 2 d s).1))
      (λ u s. let y = (none-of-accepted Description 2 d s).0 in
      lt-cases (length out) (length (entries_of of)) (λ h. f Room 0 0 (by-short n x y h)) (λ h. g n x y h))))

  pub asked-refused-exactly : RefusedExactly (asked_of P c d of out a) (AskedRefused P c d of out)
  asked-refused-exactly k i p = (
    λ e. asked-cases
        (λ k' i' p' r. same-refused (AskedRefused P c d of out) (asked-refuses r) e r)
        (λ n x y h. refused-answered e (asked-given n x y h)),
    asked-refuses,
  )

-- ---- which entries earn a yes

module _ (P c d out : List ℕ) where
  pub earning-refused-exactly : RefusedExactly (earning_of P c d out) (AskedRefused P c d c out)
  unfolding earning_of
  earning-refused-exactly = asked-refused-exactly P c d c out (contained P c d)

  pub earning-unchanged : NothingWritten (earning_of P c d out) (earned_of P c d out) out
  earning-unchanged k i p e = refused-stays P c d out e

  module _ {yes : Bool} (e : earning_of P c d out ≡ Ok yes) where
    abbrev kept : List Entry
    kept = cut_to c (earners_of P c d)

    single : Taken P c d c out → yes ≡ true → (o : List ℕ) → length (encode kept) + length d ≤ length o → compare_named P [] (encode kept) d o ≡ Ok None
    single T y o room =
        let E = (earns-entries P c d out e).some y in
        let none : failing (under P) (entries_of (encode kept)) (entries_of d) ≡ 0
        = (contained-all (ruled-under P T.list_read).lawful (entries_of (encode kept)) (entries_of d) (legal-read 2 d T.second-read)).1 (rw (decode-encode kept) E.still) in
        (comparison-nameless P [] (encode kept) d o none-named 1 (E.accepted 1) 2 T.second-read).0
        ∙ list_read P (encode kept) d o T.list_read
        ∙ compared (under P) (encode kept) d o (record { first = _; second = T.second; first_read = E.accepted 1; second-read = T.second-read; room = room })
        ∙ verdict-contained (under P) (entries_of (encode kept)) (entries_of d) none

    pub earns : Earns P c d out yes
    unfolding earning_of
    earns =
        record {
          earns = earns-entries P c d out e;
          compared = λ y o room. asked-taken P c d c out {a = contained P c d} e (λ T is. single T y o room);
        }
