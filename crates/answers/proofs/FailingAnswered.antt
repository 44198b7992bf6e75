-- Asking which entries fail refuses exactly by the first row that applies, and agrees with the single comparison entry by entry.
-- Assumes nothing.
use Rattle.std.proofs.Common.{◌≡◌, ℕ, ◌+◌, ◌<◌, ◌≤◌, ◌↔◌, Bool, List, [], length, None, Ok, sym, ◌≢◌, ◌∙◌}
use Rattle.answers.proofs.EarningAnswered.{asked-refused-exactly}
use Rattle.answers.proofs.Nameless.{comparison-nameless}
use Rattle.answers.proofs.RankingKept.{none-named}
use Rattle.answers.specs.Calls.{NothingWritten, RefusedExactly}
use Rattle.answers.specs.Earning.{AskedRefused}
use Rattle.answers.specs.Failing.{Fails}
use Rattle.blocks.proofs.RoundTrip.Decoding.{decode-encode}
use Rattle.blocks.specs.Encoding.{encode}
use Rattle.blocks.specs.Entries.{entries_of}
use Rattle.blocks.specs.Reading.{reading_of}
use Rattle.blocks.specs.declared.Entry.{Entry}
use Rattle.blocks.specs.declared.Schema.TheVariants.{Description}
use Rattle.compare.proofs.AnswerLaws.{compared, contained-verdict, list_read, not-contained-ready, not-verdict, verdict-contained}
use Rattle.compare.specs.Answer.{compare_under, not_contained, verdict}
use Rattle.earning.proofs.PromiseKept.{Taken, asked-taken}
use Rattle.earning.specs.Answer.{contained}
use Rattle.failings.proofs.PromiseKept.{fails-each, failing-stays}
use Rattle.failings.specs.Answer.{failed_of, failing_of}
use Rattle.failings.specs.Promise.{Says, failing_byte}
use Rattle.meaning.proofs.Verdicts.Contained.{contained-all}
use Rattle.meaning.specs.Failing.{failing}
use Rattle.named.specs.Answer.{compare_named}
use Rattle.narrow.specs.Missing.{only}
use Rattle.narrow_listed.proofs.AcceptedLegal.{legal-read}
use Rattle.pairs.proofs.Under.{ruled-under}
use Rattle.pairs.specs.Pairs.{under}

module _ (P c d out : List ℕ) where
  pub failing-refused-exactly : RefusedExactly (failing_of P c d out) (AskedRefused P c d d out)
  unfolding failing_of
  failing-refused-exactly = asked-refused-exactly P c d d out (contained P c d)

  pub failing-unchanged : NothingWritten (failing_of P c d out) (failed_of P c d out) out
  failing-unchanged k i p e = failing-stays P c d out e

  module _ (T : Taken P c d d out) where
    -- the comparison without a dictionary is the one under the list's background
    plainly : (e o : List ℕ) {m : ℕ} → reading_of Description 2 e ≡ Ok m → compare_named P [] c e o ≡ compare_under (under P) c e o
    plainly e o r = (comparison-nameless P [] c e o none-named 1 T.first_read 2 r).0 ∙ list_read P c e o T.list_read

    -- it answers contained exactly where every item that fits the one fits the other
    single : (e o : List ℕ) {m : ℕ} → reading_of Description 2 e ≡ Ok m → length c + length e ≤ length o
        → Says P c (entries_of e) ↔ (compare_named P [] c e o ≡ Ok None)
    single e o {m} r room =
        let x = contained-all (ruled-under P T.list_read).lawful (entries_of c) (entries_of e) (legal-read 2 e r) in
        let is : compare_named P [] c e o ≡ verdict (under P) (entries_of c) (entries_of e)
        = plainly e o r ∙ compared (under P) c e o (record { first = T.first; second = m; first_read = T.first_read; second-read = r; room = room }) in (
          λ s. is ∙ verdict-contained (under P) (entries_of c) (entries_of e) (x.1 s),
          λ q. x.0 (contained-verdict (under P) (entries_of c) (entries_of e) (sym is ∙ q)),
        )

    -- the entry that it names is the first that fails
    names : (o : List ℕ) {j k : ℕ} → compare_named P [] c d o ≡ not_contained j k
        → (failing (under P) (entries_of c) (entries_of d) ≢ 0) × (failing (under P) (entries_of c) (entries_of d) ≡ j)
    names o {j} {k} q =
        let here : compare_under (under P) c d o ≡ not_contained j k = sym (plainly d o T.second-read) ∙ q in
        let ready = not-contained-ready (under P) c d o here in
        let n = not-verdict (under P) (entries_of c) (entries_of d) (sym (compared (under P) c d o ready) ∙ here) in
        (n.0, n.1)

  module _ {yes : Bool} (e : failing_of P c d out ≡ Ok yes) where
    abbrev alone : ℕ → List Entry
    alone j = only (entries_of d) j

    by-comparison : Taken P c d d out → (j : ℕ) → 1 ≤ j → j ≤ length (entries_of d) → (o : List ℕ) → length c + length (encode (alone j)) ≤ length o
        → (failing_byte P c d out j ≡ 0) ↔ (compare_named P [] c (encode (alone j)) o ≡ Ok None)
    by-comparison T j lo hi o room =
        let F = fails-each P c d out e in
        let s = single T (encode (alone j)) o (F.alone 2 j) room in
        (λ z. s.0 (rw (decode-encode (alone j)) ((F.exactly j lo hi).0 z)), λ q. (F.exactly j lo hi).1 (rw decode-encode at (s.1 q)))

    pub fails : Fails P c d out yes
    unfolding failing_of
    fails =
        record {
          fails = fails-each P c d out e;
          compared = asked-taken P c d d out {a = contained P c d} e (λ T is. by-comparison T);
          named = λ o {j} {k} q. asked-taken P c d d out {a = contained P c d} e
              (λ T is. let n = names T o q in (fails-each P c d out e).lowest j (sym n.1) (λ z. n.0 (n.1 ∙ z)));
        }
