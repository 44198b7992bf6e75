-- What is promised of the call on a catalogue.
-- Assumes nothing.
use Rattle.std.proofs.Common.{◌≡◌, ℕ, ◌+◌, ◌<◌, ◌≤◌, Bool, true, false, eqb, ◌≢◌, ◌↔◌, List, length, None, Ok, sym, refl, ◌∙◌, arith}
use Rattle.answers.specs.Promise.{AsCompared, ContainedNamed, fits_in}
use Rattle.base.proofs.Tests.{eq-eqb, eqb-eq, ne_eqb}
use Rattle.base.specs.Range.{bit}
use Rattle.blocks.proofs.RoundTrip.Accepting.{sound-of-accepted}
use Rattle.blocks.specs.Entries.{entries_of}
use Rattle.blocks.specs.declared.Schema.TheVariants.{Description}
use Rattle.catalogue.proofs.Bytes.{byte-is, pairs-read, service-read, supplier-read}
use Rattle.catalogue.specs.Answer.{catalogue_of}
use Rattle.catalogue.specs.Promise.{byte_at, service_at}
use Rattle.compare.proofs.AnswerLaws.{compared, contained-verdict, list_read, verdict-contained, verdict-not}
use Rattle.compare.specs.Answer.{Comparison, not_contained, verdict}
use Rattle.logic.specs.Record.{Record, fits}
use Rattle.meaning.proofs.Verdicts.Contained.{contained-all}
use Rattle.meaning.specs.Description.{place_of}
use Rattle.meaning.specs.Failing.{failing}
use Rattle.named.specs.Answer.{compare_named}
use Rattle.names.proofs.Legality.AcceptedReadings.{sent-accepted, sent-legal}
use Rattle.names.proofs.PromiseKept.{unfolds-plainly}
use Rattle.names.specs.NamedReading.{dictionary_of, sent_of, unfolding_of}
use Rattle.pairs.proofs.Under.{ruled-under}
use Rattle.pairs.specs.Pairs.{under}
use Rattle.slots.specs.Catalogue.{service_bit}
use Rattle.slots.specs.Holding.{failing_in}

-- ---- a byte

bit-one : (b : Bool) → bit b ≡ 1 → b ≡ true
bit-one true e = refl
bit-one false e = absurd (omega arith)

-- it is 1 exactly if the normal form of the supplier's description holds all entries of the service
one_holds : (P D s d : List ℕ) → (service_bit P D s d ≡ 1) ↔ (failing (under P) (entries_of s) (entries_of (sent_of D d)) ≡ 0)
unfolding service_bit failing_in
one_holds P D s d =
    let f = failing (under P) (entries_of s) (entries_of (sent_of D d)) in
    (λ e. eqb-eq (bit-one (eqb f 0) e), λ z. rw (eq-eqb z))

-- and else 0
zero-fails : (P D s d : List ℕ) → (service_bit P D s d ≡ 0) ↔ (failing (under P) (entries_of s) (entries_of (sent_of D d)) ≢ 0)
unfolding service_bit failing_in
zero-fails P D s d = (λ e z. let one : bit true ≡ 0 = rw (eq-eqb z) at e in absurd (omega arith), λ z. rw (ne_eqb z))

-- ---- what it says of every record

-- what a call goes on with means what the description with names means
sent_means : (D : List ℕ) (j : ℕ) (s : List ℕ) {m : ℕ} → unfolding_of D j s ≡ Ok m → (r : Record) (x : ℕ)
    → fits r (place_of (entries_of (sent_of D s)) 0) x ≡ fits_in r D s x
sent_means D j s e r x = rw (sent-accepted D j s e j).1 ((unfolds-plainly (dictionary_of D) (entries_of s) (sent-legal D j s e)).means r x)

module _ (P D c list out : List ℕ) {n : ℕ} (F : catalogue_of P D c list out ≡ Ok n) (i : ℕ) (h : i < n) where
  -- [L3] 1 for contained: every item that fits the supplier's description fits the service's, in every finite record
  -- that keeps the list of pairs and the rule on single links
  pub catalogue-means : (byte_at P D c list out i ≡ 1) ↔ ContainedNamed P D c (service_at list i)
  catalogue-means =
      let d = service_at list i in
      let byte = byte-is P D c list out F i h in
      let o = one_holds P D (sent_of D c) d in
      service-read P D c list out F i h 2 (λ m e.
      let legal = (sound-of-accepted Description 2 (sent_of D d) (sent-accepted D 2 d e 2).0).entries in
      let w = contained-all (ruled-under P (pairs-read P D c list out F)).lawful (entries_of (sent_of D c)) (entries_of (sent_of D d)) legal in
      let first = sent_means D 1 c (supplier-read P D c list out F) in
      let second = sent_means D 2 d e in (
        λ one r k x l f. sym (second r x) ∙ w.0 (o.0 (sym byte ∙ one)) r k x l (first r x ∙ f),
        λ all. byte ∙ o.1 (w.1 (λ r k x l f. second r x ∙ all r k x l (sym (first r x) ∙ f))),
      ))

  -- ---- and the single comparison

  module _ (o : List ℕ) (room : length (sent_of D c) + length (sent_of D (service_at list i)) ≤ length o) where
    -- the two descriptions that a call goes on with are compared
    single-verdict : compare_named P D c (service_at list i) o
        ≡ verdict (under P) (entries_of (sent_of D c)) (entries_of (sent_of D (service_at list i)))
    unfolding compare_named
    single-verdict =
        let d = service_at list i in
        let l = pairs-read P D c list out F in
        let a = supplier-read P D c list out F in
        service-read P D c list out F i h 2 (λ m e.
        rw (l, a, e) (list_read P (sent_of D c) (sent_of D d) o l
        ∙ compared (under P) (sent_of D c) (sent_of D d) o
        (record { first = _; second = m; first_read = (sent-accepted D 1 c a 1).0; second-read = (sent-accepted D 2 d e 2).0; room = room })))

    -- [L4] each byte is the single comparison's, into any output that is long enough for it
    pub catalogue-single : AsCompared P D c (service_at list i) o (byte_at P D c list out i)
    catalogue-single =
        let d = service_at list i in
        let es = entries_of (sent_of D c) in
        let ds = entries_of (sent_of D d) in
        let byte = byte-is P D c list out F i h in
        let one = one_holds P D (sent_of D c) d in
        let none = zero-fails P D (sent_of D c) d in
        record {
          contained = (
            λ b. single-verdict ∙ verdict-contained (under P) es ds (one.0 (sym byte ∙ b)),
            λ e. byte ∙ one.1 (contained-verdict (under P) es ds (sym single-verdict ∙ e)),
          );
          not-contained = (
            λ b. record { entry = _; entries = _; answer = single-verdict ∙ verdict-not (under P) es ds (none.0 (sym byte ∙ b)) },
            λ A. byte ∙ none.1 (λ z.
                let c₁ : ◌≡◌ {A = Comparison} (Ok None) (not_contained A.entry A.entries)
                = sym (single-verdict ∙ verdict-contained (under P) es ds z) ∙ A.answer in
                let y : ◌≡◌ {A = ℕ} 0 1 = cc in
                absurd (omega arith)),
          );
        }
