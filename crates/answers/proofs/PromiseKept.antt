-- What is promised of the calls that take a dictionary, over the items that fit a description with names: no unfolding is in sight.
-- Assumes nothing.
use Rattle.std.proofs.Common.{◌≡◌, ℕ, true, false, ◌↔◌, List, length, None, Ok, sym, ap, ◌∙◌, inl, inr, ⊎_elim}
use Rattle.answers.proofs.Accepted.{plain-means, plain-read}
use Rattle.answers.proofs.Nameless.{normal-nameless}
use Rattle.answers.proofs.Order.{comparison-refused-exactly, comparison-refuses, normal-refused-exactly, normal-refuses}
use Rattle.answers.proofs.Unfolded.{comparison-plain, fit-plain, normal-plain}
use Rattle.answers.proofs.Ways.{compared-ready, comparison-ways, judged-ready, normal-ways, normalised-ready}
use Rattle.answers.specs.Promise.{Admitted, AnswersNotNamed, ComparableNamed, ContainedNamed, CountermodelNamed, DecidedNamed, FitsNamedExactly, JudgeableNamed, NormalisesNamed, RefutedNamed, StandsFor, fits_in}
use Rattle.blocks.proofs.RoundTrip.Accepting.{accepted-of-sound, none-of-accepted, sound-of-accepted}
use Rattle.blocks.specs.Encoding.{first_blocks}
use Rattle.blocks.specs.Entries.{entries_of}
use Rattle.blocks.specs.Refusals.{refused}
use Rattle.blocks.specs.declared.Cause.{Cause}
use Rattle.blocks.specs.declared.Schema.TheVariants.{Description}
use Rattle.compare.proofs.ContainedFits.{contained-fits}
use Rattle.compare.proofs.Demand as compared
use Rattle.compare.proofs.PromiseKept as written
use Rattle.compare.proofs.PromiseKept.{contained-means}
use Rattle.compare.specs.Answer.{compare_of, not_contained, output_of}
use Rattle.compare.specs.Promise.{AnswersNot, Comparable, ContainedInAll, Countermodel, Refuted}
use Rattle.fit.proofs.PromiseKept.{fit-exactly}
use Rattle.fit.specs.Promise.{Judgeable}
use Rattle.meaning.specs.Specimen.{record_of}
use Rattle.named.specs.Answer.{compare_named, fit_named, normalise_named, normalised_named, output_named}
use Rattle.names.proofs.Legality.AcceptedReadings.{both-taken}
use Rattle.names.proofs.Legality.UnfoldLegal.{legal-plain}
use Rattle.names.specs.NamedReading.{plain_of}
use Rattle.normal.proofs.PromiseKept as normal
use Rattle.normal.proofs.PromiseKept.{normalised-means}
use Rattle.normal.specs.Answer.{normalised_of}
use Rattle.normal.specs.Promise.{Normalises}
use Rattle.pairs.specs.Pairs.{under}
use Rattle.pairs.specs.Promise.{ListRead}

-- ---- unfolding

-- [D7] the unfolded description means the same
pub stands-for : (D s : List ℕ) (A : Admitted D s) → StandsFor D s A.entries
stands-for D s A = record {
  accepted = plain-read D s A;
  nameless = legal-plain (entries_of (plain_of D s)) (sound-of-accepted Description 1 (plain_of D s) (plain-read D s A 1)).entries;
  same = plain-means D s A;
}

-- ---- the fit answer

module _ (P D s d : List ℕ) (J : JudgeableNamed P D s d) where
  judged : Judgeable P s (plain_of D d)
  judged = record { first = J.total; second = J.description.entries; first_read = J.specimen; second-read = plain-read D d J.description 2 }

  pub fits-named-exactly : FitsNamedExactly P D s d
  fits-named-exactly =
      let A = J.description in
      let answer = fit-plain P D s d A in
      let means = plain-means D d A (record_of (entries_of s)) 0 in
      let w = fit-exactly P s (plain_of D d) judged in
      record {
        yes = (λ e. sym means ∙ w.yes.0 (sym answer ∙ e), λ t. answer ∙ w.yes.1 (means ∙ t));
        no = (λ e. sym means ∙ w.no.0 (sym answer ∙ e), λ t. answer ∙ w.no.1 (means ∙ t));
      }

-- an answer that is no refusal says it without further ado
module _ (P D s d : List ℕ) where
  pub yes-means : fit_named P D s d ≡ Ok true → fits_in (record_of (entries_of s)) D d 0 ≡ true
  yes-means e = judged-ready P D s d e (λ J. (fits-named-exactly P D s d J).yes.0 e)

  pub no-means : fit_named P D s d ≡ Ok false → fits_in (record_of (entries_of s)) D d 0 ≡ false
  no-means e = judged-ready P D s d e (λ J. (fits-named-exactly P D s d J).no.0 e)

-- ---- the comparison

module _ (P D c d : List ℕ) (C : Admitted D c) (A : Admitted D d) where
  contained-named : ContainedInAll (under P) (plain_of D c) (plain_of D d) ↔ ContainedNamed P D c d
  contained-named = (
    λ h R kept x i t. sym (plain-means D d A R x) ∙ h R kept x i (plain-means D c C R x ∙ t),
    λ h R kept x i t. plain-means D d A R x ∙ h R kept x i (sym (plain-means D c C R x) ∙ t),
  )

  model-named : Countermodel (under P) (plain_of D c) (plain_of D d) ↔ CountermodelNamed P D c d
  model-named = (
    λ m. record {
      shown = m.shown;
      keeps = m.keeps;
      item = m.item;
      inside = m.inside;
      fitting = sym (plain-means D c C m.shown m.item) ∙ m.fitting;
      missing = sym (plain-means D d A m.shown m.item) ∙ m.missing;
    },
    λ m. record {
      shown = m.shown;
      keeps = m.keeps;
      item = m.item;
      inside = m.inside;
      fitting = plain-means D c C m.shown m.item ∙ m.fitting;
      missing = plain-means D d A m.shown m.item ∙ m.missing;
    },
  )

module _ (P D c d out : List ℕ) (Q : ComparableNamed D c d out) where
  abbrev C : Admitted D c
  C = Q.first

  abbrev A : Admitted D d
  A = Q.second

  comparable : Comparable (plain_of D c) (plain_of D d) out
  comparable = record { first = C.entries; second = A.entries; first_read = plain-read D c C 1; second-read = plain-read D d A 2; room = Q.room }

  answer-plain : compare_named P D c d out ≡ compare_of P (plain_of D c) (plain_of D d) out
  answer-plain = (comparison-plain P D c d out C A).0

  output-plain : output_named P D c d out ≡ output_of P (plain_of D c) (plain_of D d) out
  output-plain = (comparison-plain P D c d out C A).1

  answers-plain : AnswersNot P (plain_of D c) (plain_of D d) out ↔ AnswersNotNamed P D c d out
  answers-plain = (
    λ a. record { entry = a.entry; entries = a.entries; answer = answer-plain ∙ a.answer },
    λ a. record { entry = a.entry; entries = a.entries; answer = sym answer-plain ∙ a.answer },
  )

  -- what 'not contained' says of the output
  refuted-named : {j k : ℕ} → Refuted P (plain_of D c) (plain_of D d) out j k → RefutedNamed P D c d out j k
  refuted-named {j} {k} r =
      let o = output-plain in
      record {
        number = r.number;
        room = r.room;
        later = rw o r.later;
        blocks = rw o r.blocks;
        accepted = rw o r.accepted;
        few = r.few;
        keeps = rw o r.keeps;
        ascending = rw o r.ascending;
        yes = fit-plain P D (first_blocks k (output_named P D c d out)) c C ∙ rw o r.yes;
        no = fit-plain P D (first_blocks k (output_named P D c d out)) d A ∙ rw o r.no;
      }

  pub decided-named : ListRead P → DecidedNamed P D c d out
  decided-named L =
      let w = compared.decided P L (plain_of D c) (plain_of D d) out comparable in
      record {
        answers = ⊎_elim (λ e. inl (answer-plain ∙ e)) (λ a. inr (answers-plain.0 a)) w.answers;
        contained = (
          λ e. (contained-named P D c d C A).0 (w.contained.0 (sym answer-plain ∙ e)),
          λ h. answer-plain ∙ w.contained.1 ((contained-named P D c d C A).1 h),
        );
        unchanged = λ e. output-plain ∙ (contained-means P (plain_of D c) (plain_of D d) out (sym answer-plain ∙ e)).1;
        not-contained = (
          λ a. (model-named P D c d C A).0 (w.not-contained.0 (answers-plain.1 a)),
          λ m. answers-plain.0 (w.not-contained.1 ((model-named P D c d C A).1 m)),
        );
        refuted = λ e. refuted-named (w.refuted (sym answer-plain ∙ e));
      }

module _ (P D c d out : List ℕ) where
  -- 'contained' says that every item that fits c fits d, and leaves the output
  pub contained-named-means : compare_named P D c d out ≡ Ok None → ContainedNamed P D c d × (output_named P D c d out ≡ out)
  contained-named-means e =
      compared-ready P D c d out e
      (λ L Q. let w = decided-named P D c d out Q L in (w.contained.0 e, w.unchanged e))

  -- 'not contained' shows a specimen that fits c and does not fit d
  pub not-contained-named-means : {j k : ℕ} → compare_named P D c d out ≡ not_contained j k → RefutedNamed P D c d out j k × CountermodelNamed P D c d
  not-contained-named-means {j} {k} e =
      compared-ready P D c d out e
      (λ L Q. let w = decided-named P D c d out Q L in (w.refuted e, w.not-contained.0 (record { entry = j; entries = k; answer = e })))

  -- contained, and fit yes for c, give fit yes for d
  pub contained-fits-named : (s : List ℕ) → compare_named P D c d out ≡ Ok None → fit_named P D s c ≡ Ok true → fit_named P D s d ≡ Ok true
  contained-fits-named s e y =
      compared-ready P D c d out e
      (λ L Q.
      fit-plain P D s d Q.second
      ∙ contained-fits P s (plain_of D c) (plain_of D d) out (sym (answer-plain P D c d out Q) ∙ e) (sym (fit-plain P D s c Q.first) ∙ y))

-- ---- the normal form

module _ (P D d out : List ℕ) (A : Admitted D d) {k : ℕ} where
  normalises-named : Normalises P (plain_of D d) out k → NormalisesNamed P D d out k
  normalises-named n =
      let blocks = first_blocks k (normalised_of P (plain_of D d) out) in
      let o = (normal-plain P D d out A).1 in
      let S = sound-of-accepted Description 1 blocks n.accepted in
      let count = (none-of-accepted Description 1 blocks n.accepted).1 in
      record {
        room = n.room;
        shorter = n.shorter;
        later = rw o n.later;
        blocks = rw o n.blocks;
        few = n.few;
        accepted = rw o (λ i. accepted-of-sound Description i blocks S ∙ ap Ok (sym count));
        ascending = rw o n.ascending;
        irreducible = rw o n.irreducible;
        same = rw o (λ R kept x i. n.same R kept x i ∙ plain-means D d A R x);
        again = rw o (λ out' h. both-taken D 1 d (A.read 1) (λ m l q w.
            let g = normal-nameless P D blocks out' q 1 n.accepted in
            (g.0 ∙ (n.again out' h).0, ap (first_blocks k) g.1 ∙ (n.again out' h).1)));
      }

-- an answer that is no refusal tells of the normal form
pub normalised-named : (P D d out : List ℕ) {k : ℕ} → normalise_named P D d out ≡ Ok k → NormalisesNamed P D d out k
normalised-named P D d out e =
    normalised-ready P D d out e
    (λ L A. normalises-named P D d out A (normalised-means P (plain_of D d) out (sym (normal-plain P D d out A).0 ∙ e)))

-- ---- the outputs

module _ (P D d out : List ℕ) where
  -- a refusal leaves the output
  pub normal-unchanged : {k : Cause} {i p : ℕ} → normalise_named P D d out ≡ refused k i p → normalised_named P D d out ≡ out
  normal-unchanged e = (normal-refuses P D d out ((normal-refused-exactly P D d out).0 e)).1

  -- its length never changes
  pub normal-length : length (normalised_named P D d out) ≡ length out
  normal-length =
      normal-ways P D d out
      (λ k i p e. ap length (normal-unchanged e))
      (λ L A h. ap length (normal-plain P D d out A).1 ∙ normal.output-length P (plain_of D d) out)

module _ (P D c d out : List ℕ) where
  pub comparison-unchanged : {k : Cause} {i p : ℕ} → compare_named P D c d out ≡ refused k i p → output_named P D c d out ≡ out
  comparison-unchanged e = (comparison-refuses P D c d out ((comparison-refused-exactly P D c d out).0 e)).1

  pub comparison-length : length (output_named P D c d out) ≡ length out
  comparison-length =
      comparison-ways P D c d out
      (λ k i p e. ap length (comparison-unchanged e))
      (λ L Q. ap length (output-plain P D c d out Q) ∙ written.output-length P (plain_of D c) (plain_of D d) out)
