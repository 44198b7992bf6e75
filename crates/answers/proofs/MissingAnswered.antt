-- Asking what a description lacks refuses exactly by the first row that applies, and the description with the addition is contained by the single
-- comparison.
-- Assumes nothing.
use Rattle.std.proofs.Common.{◌≡◌, ℕ, ◌+◌, ◌<◌, ◌≤◌, List, [], length, None, Ok, sym, ◌∙◌}
use Rattle.answers.proofs.AnswerLaws.{refused-answered, same-refused}
use Rattle.answers.proofs.Nameless.{comparison-nameless}
use Rattle.answers.proofs.Order.{list_cases}
use Rattle.answers.proofs.RankingKept.{none-named}
use Rattle.answers.specs.Calls.{NothingWritten, RefusedExactly}
use Rattle.answers.specs.Missing.{Lacks, MissingRefused}
use Rattle.answers.specs.Missing.MissingRefused.{first as by-first, list as by-list, long as by-long, second as by-second, short as by-short}
use Rattle.base.proofs.Tests.{lt-cases}
use Rattle.blocks.proofs.Refusing.Readings.{reading-cases}
use Rattle.blocks.proofs.RoundTrip.Accepting.{accepted-by-none, first-of-refused, none-of-accepted, refused-by-first}
use Rattle.blocks.proofs.RoundTrip.Decoding.{decode-encode}
use Rattle.blocks.specs.Encoding.{encode}
use Rattle.blocks.specs.Entries.{entries_of}
use Rattle.blocks.specs.Faults.{faults}
use Rattle.blocks.specs.Promise.{NoneApplies}
use Rattle.blocks.specs.Reading.{reading_of}
use Rattle.blocks.specs.Refusals.{refused}
use Rattle.blocks.specs.declared.Cause.TheVariants.{Length, Room}
use Rattle.blocks.specs.declared.Cause.{Cause}
use Rattle.blocks.specs.declared.Entry.{Entry}
use Rattle.blocks.specs.declared.Schema.TheVariants.{Description}
use Rattle.compare.proofs.AnswerLaws.{compared, list_read, verdict-contained}
use Rattle.meaning.proofs.Verdicts.Contained.{contained-all}
use Rattle.meaning.specs.Failing.{failing}
use Rattle.missing.proofs.AnswerLaws.{both-answers, both-first, both-long, both-narrow, both-pairs, both-second}
use Rattle.missing.proofs.PromiseKept.{Taken, asked-taken, lacks-entries, refused-stays}
use Rattle.missing.specs.Answer.{asked_both, lack_of, lacked_of, missing_of}
use Rattle.missing.specs.Promise.{addition, with_more}
use Rattle.missing.specs.declared.Lack.{Lack}
use Rattle.named.specs.Answer.{compare_named}
use Rattle.narrow_listed.proofs.AcceptedLegal.{legal-read}
use Rattle.pairs.proofs.PairsAccepted as excluding
use Rattle.pairs.proofs.PairsRefused.{pairs-refused}
use Rattle.pairs.proofs.Under.{ruled-under}
use Rattle.pairs.specs.Pairs.{pair_faults, under}

-- ---- by each row

module _ {A : Type 0} (P c d out : List ℕ) (a : A) where
  missing-refuses : {k : Cause} {i p : ℕ} → MissingRefused P c d out k i p → asked_both P c d out a ≡ refused k i p
  missing-refuses (by-list f) = both-pairs P c d out a (pairs-refused P f)
  missing-refuses (by-first n f) = both-first P c d out a (excluding.none-accepted P n) (refused-by-first Description 1 c f)
  missing-refuses (by-second n x f) =
      both-second P c d out a (excluding.none-accepted P n) (accepted-by-none Description 1 c x) (refused-by-first Description 2 d f)
  missing-refuses (by-long n x y h) =
      both-long P c d out a (excluding.none-accepted P n) (accepted-by-none Description 1 c x) (accepted-by-none Description 2 d y) h
  missing-refuses (by-short n x y w h) =
      both-narrow P c d out a (excluding.none-accepted P n) (accepted-by-none Description 1 c x) (accepted-by-none Description 2 d y) w h

  missing-cases : {X : Type 0} → ((k : Cause) (i p : ℕ) → MissingRefused P c d out k i p → X) → (asked_both P c d out a ≡ Ok a → X) → X
  missing-cases f g =
      list_cases P
      (λ k p r. f k 0 p (by-list r))
      (λ n. reading-cases (reading_of Description 1 c)
      (λ k i p r. f k 1 p (by-first n (first-of-refused Description 1 c r).1))
      (λ t r. let x = (none-of-accepted Description 1 c r).0 in
      reading-cases (reading_of Description 2 d)
      (λ k i p s. f k 2 p (by-second n x (first-of-refused Description 2 d s).1))
      (λ u s. let y = (none-of-accepted Description 2 d s).0 in
      lt-cases 8192 (length c + length d)
      (λ h. f Length 2 0 (by-long n x y h))
      (λ w. lt-cases (length out) (length (entries_of d))
      (λ h. f Room 0 0 (by-short n x y w h))
      (λ h. g (both-answers P c d out a (excluding.none-accepted P n) (accepted-by-none Description 1 c x) (accepted-by-none Description 2 d y) w h))))))

  both-refused-exactly : RefusedExactly (asked_both P c d out a) (MissingRefused P c d out)
  both-refused-exactly k i p = (
    λ e. missing-cases (λ k' i' p' r. same-refused (MissingRefused P c d out) (missing-refuses r) e r) (λ q. refused-answered e q),
    missing-refuses,
  )

-- ---- what is lacking

module _ (P c d out : List ℕ) where
  pub missing-refused-exactly : RefusedExactly (missing_of P c d out) (MissingRefused P c d out)
  unfolding missing_of
  missing-refused-exactly = both-refused-exactly P c d out (lack_of P c d)

  pub missing-unchanged : NothingWritten (missing_of P c d out) (lacked_of P c d out) out
  missing-unchanged k i p e = refused-stays P c d out e

  module _ {a : Lack} (e : missing_of P c d out ≡ Ok a) where
    abbrev whole : List Entry
    whole = with_more c (addition P c d)

    single : Taken P c d out → (o : List ℕ) → length (encode whole) + length d ≤ length o → compare_named P [] (encode whole) d o ≡ Ok None
    single T o room =
        let E = (lacks-entries P c d out e).adds in
        let none : failing (under P) (entries_of (encode whole)) (entries_of d) ≡ 0
        = (contained-all (ruled-under P T.list_read).lawful (entries_of (encode whole)) (entries_of d) (legal-read 2 d T.second-read)).1 (rw (decode-encode whole) E.enough) in
        (comparison-nameless P [] (encode whole) d o none-named 1 (E.joined 1) 2 T.second-read).0
        ∙ list_read P (encode whole) d o T.list_read
        ∙ compared (under P) (encode whole) d o (record { first = _; second = T.second; first_read = E.joined 1; second-read = T.second-read; room = room })
        ∙ verdict-contained (under P) (entries_of (encode whole)) (entries_of d) none

    pub lacks : Lacks P c d out a
    unfolding missing_of
    lacks =
        record {
          lacks = lacks-entries P c d out e;
          compared = λ o room. asked-taken P c d out {a = lack_of P c d} e (λ T is. single T o room);
        }
