-- A description without names, with any dictionary that is accepted: it is accepted, and it is answered as without the dictionary. It unfolds
-- to its own bytes.
-- Assumes nothing.
use Rattle.std.proofs.Common.{◌≡◌, ℕ, List, [], ◌∷◌, length, Ok, sym, refl, ap, ◌∙◌, arith}
use Rattle.answers.proofs.Accepted.{admitted, entries-count}
use Rattle.answers.proofs.AnswerLaws.{refused-answered}
use Rattle.answers.proofs.Sent.{blocks-taken, own_read, sent-entries, sent-length, sent-read}
use Rattle.answers.proofs.Unfolded.{Alike, comparison-alike, comparison-goes-on, fit-alike, fit-goes-on, normal-alike, normal-goes-on}
use Rattle.answers.specs.Promise.{Admitted}
use Rattle.blocks.proofs.Format.WordBytes.{Bytes}
use Rattle.blocks.proofs.Refusing.Readings.{reading-cases}
use Rattle.blocks.proofs.RoundTrip.Accepting.{Sound, accepted-encodes, accepted-of-sound, sound-of-accepted}
use Rattle.blocks.proofs.RoundTrip.Faithful.{entries-limit}
use Rattle.blocks.specs.Encoding.{encode}
use Rattle.blocks.specs.Entries.{entries_of, nth}
use Rattle.blocks.specs.Faults.{length_wrong}
use Rattle.blocks.specs.Owners.{owner_ok}
use Rattle.blocks.specs.Reading.{reading_of}
use Rattle.blocks.specs.declared.Entry.{Entry}
use Rattle.blocks.specs.declared.Schema.TheVariants.{Description, Named}
use Rattle.compare.specs.Answer.{compare_of, output_of}
use Rattle.fit.specs.Answer.{fit_of}
use Rattle.named.specs.Answer.{compare_named, fit_named, normalise_named, normalised_named, output_named}
use Rattle.names.proofs.Entries.UnfoldPlain.{unfold-plain}
use Rattle.names.proofs.Legality.AcceptedReadings.{both-taken}
use Rattle.names.proofs.Legality.NamedReadings.{form-named, named-refused, named-taken, of-small}
use Rattle.names.proofs.Legality.NoNames.{legal-unfolds, legal-unnamed}
use Rattle.names.proofs.Legality.UnfoldLegal.{legal-plain}
use Rattle.names.specs.NamedReading.{dictionary_of, dictionary_reading, named_reading, named_unfolding, plain_of, sent_of, unfolding_of}
use Rattle.names.specs.Promise.{LegalNamed, Plain}
use Rattle.names.specs.Unfold.{contents, unfolded_by}
use Rattle.normal.specs.Answer.{normalise_of, normalised_of}
use Rattle.unfolding.proofs.BufferLaws.{sent-itself, sent-plain}

-- ---- accepted

module _ (K : List (List Entry)) (s : List ℕ) (S : Sound Description s) where
  named-sound : Sound (Named (length K)) s
  unfolding length_wrong owner_ok
  named-sound =
      let N : LegalNamed (length K) (entries_of s) = legal-unnamed (length K) (entries_of s) S.entries in
      record {
        blocks = record { length = S.blocks.length; check = S.blocks.check; frame = S.blocks.frame };
        entries = record { form = λ n lo hi. form-named (length K) (nth (entries_of s) n) ∙ N.form n lo hi; owner = N.owner; depth = N.depth };
        further = N.name;
      }

  named-read : (i : ℕ) → named_reading K i s ≡ Ok (length (entries_of s))
  named-read i =
      named-taken K i s (accepted-of-sound (Named (length K)) i s named-sound)
      (rw (legal-unfolds K (entries_of s) S.entries)
      (of-small (entries_of s) (record { size = omega (arith, entries-limit S.blocks); depth = S.entries.depth })))

module _ (D : List ℕ) (i : ℕ) (s : List ℕ) {m n : ℕ} (d : dictionary_reading D ≡ Ok m) (e : reading_of Description i s ≡ Ok n) where
  sound : Sound Description s
  sound = sound-of-accepted Description i s e

  -- it is accepted with every dictionary that is
  pub nameless-admitted : Admitted D s
  unfolding unfolding_of named_unfolding
  nameless-admitted =
      let r = named-read (dictionary_of D) s sound 1 in
      admitted D 1 s {n = length (unfolded_by (dictionary_of D) (entries_of s))} (rw (d, r))

  -- and the calls go on with one that is alike
  pub nameless-alike : Alike (sent_of D s) s
  nameless-alike =
      let A = nameless-admitted in
      let own : unfolded_by (dictionary_of D) (entries_of s) ≡ entries_of s = legal-unfolds (dictionary_of D) (entries_of s) sound.entries in
      let count : A.entries ≡ length (entries_of s) = entries-count D s A ∙ ap length own in
      record {
        read = λ j. sent-read D s A j ∙ ap Ok count ∙ sym (accepted-of-sound Description j s sound);
        entries = sent-entries D s A ∙ own;
        size = sent-length D s A ∙ rw count (sym (blocks-taken sound.blocks));
      }

-- ---- the answers are those without a dictionary

module _ (P D : List ℕ) where
  pub normal-nameless : (t out : List ℕ) {m : ℕ} → dictionary_reading D ≡ Ok m → (i : ℕ) {n : ℕ} → reading_of Description i t ≡ Ok n
      → (normalise_named P D t out ≡ normalise_of P t out) × (normalised_named P D t out ≡ normalised_of P t out)
  normal-nameless t out q i e =
      let g = normal-goes-on P D t out (nameless-admitted D i t q e) in
      let a = normal-alike P out (sent_of D t) t (nameless-alike D i t q e) in
      (g.0 ∙ a.0, g.1 ∙ a.1)

  pub comparison-nameless : (s t out : List ℕ) {m : ℕ} → dictionary_reading D ≡ Ok m
      → (i : ℕ) {n : ℕ} → reading_of Description i s ≡ Ok n → (j : ℕ) {l : ℕ} → reading_of Description j t ≡ Ok l
      → (compare_named P D s t out ≡ compare_of P s t out) × (output_named P D s t out ≡ output_of P s t out)
  comparison-nameless s t out q i e j f =
      let g = comparison-goes-on P D s t out (nameless-admitted D i s q e) (nameless-admitted D j t q f) in
      let a = comparison-alike P out (sent_of D s) s (nameless-alike D i s q e) (sent_of D t) t (nameless-alike D j t q f) in
      (g.0 ∙ a.0, g.1 ∙ a.1)

  pub fit-nameless : (s t : List ℕ) {m : ℕ} → dictionary_reading D ≡ Ok m → (i : ℕ) {n : ℕ} → reading_of Description i t ≡ Ok n
      → fit_named P D s t ≡ fit_of P s t
  fit-nameless s t q i e = fit-goes-on P D s t (nameless-admitted D i t q e) ∙ fit-alike P s (sent_of D t) t (nameless-alike D i t q e)

-- ---- its own bytes

-- [D6] the contents stand where the name stood: where there is none, nothing changes
pub own-bytes : (D s : List ℕ) → Admitted D s → Plain (entries_of s) → Bytes s → plain_of D s ≡ s
unfolding plain_of unfolded_by
own-bytes D s A none small =
    both-taken D 1 s (A.read 1) (λ m k q w.
    reading-cases (reading_of (Named (length (dictionary_of D))) 1 s)
    (λ k' i p r. refused-answered (named-refused (dictionary_of D) 1 s r) w)
    (λ n r. ap encode (unfold-plain (contents (dictionary_of D)) (entries_of s) none)
    ∙ accepted-encodes (Named (length (dictionary_of D))) 1 s small r))

-- so that the calls go on with the bytes of the plain description, whichever dictionary there is
pub sent-bytes : (D s : List ℕ) → Admitted D s → Bytes s → sent_of D s ≡ plain_of D s
sent-bytes [] s A small =
    sent-itself [] s refl ∙ sym (own-bytes [] s A (legal-plain (entries_of s) (sound-of-accepted Description 1 s (own_read s A 1)).entries) small)
sent-bytes (x ∷ D) s A small = sent-plain (x ∷ D) s (omega arith)
