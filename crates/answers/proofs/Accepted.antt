-- What is accepted: what a call goes on with is a plain description that is accepted, whichever input it is, and that the same items fit.
-- Assumes nothing.
use Rattle.std.proofs.Common.{◌≡◌, ℕ, ◌*◌, List, length, Ok, sym, ap, ◌∙◌}
use Rattle.answers.specs.Promise.{Admitted, fits_in}
use Rattle.blocks.proofs.RoundTrip.Decoding.{length-encode}
use Rattle.blocks.specs.Encoding.{blocks_for}
use Rattle.blocks.specs.Entries.{entries_of}
use Rattle.blocks.specs.Frame.{plain}
use Rattle.blocks.specs.Reading.{reading_of}
use Rattle.blocks.specs.declared.Schema.TheVariants.{Description}
use Rattle.logic.specs.Record.{Record, fits}
use Rattle.meaning.specs.Description.{place_of}
use Rattle.names.proofs.Legality.AcceptedReadings.{sent-any, sent-count, sent-legal}
use Rattle.names.proofs.PromiseKept.{unfolded-accepted, unfolds-plainly}
use Rattle.names.specs.NamedReading.{dictionary_of, plain_of, unfolding_of}
use Rattle.names.specs.Promise.{AcceptedNamed}
use Rattle.names.specs.Unfold.{unfolded_by}

-- accepted as one input, accepted as any
pub admitted : (D : List ℕ) (i : ℕ) (s : List ℕ) {n : ℕ} → unfolding_of D i s ≡ Ok n → Admitted D s
admitted D i s {n} e = record { entries = n; read = λ j. sent-any D i j s e }

-- ---- the plain description

module _ (D s : List ℕ) (A : Admitted D s) where
  named-legal : AcceptedNamed (dictionary_of D) (entries_of s)
  named-legal = sent-legal D 1 s (A.read 1)

  pub entries-count : A.entries ≡ length (unfolded_by (dictionary_of D) (entries_of s))
  entries-count = sent-count D 1 s (A.read 1)

  -- its blocks have the unfolded entries, and are accepted
  pub plain-entries : entries_of (plain_of D s) ≡ unfolded_by (dictionary_of D) (entries_of s)
  unfolding plain_of
  plain-entries = (unfolded-accepted (dictionary_of D) (entries_of s) named-legal 1).1

  pub plain-read : (i : ℕ) → reading_of Description i (plain_of D s) ≡ Ok A.entries
  unfolding plain_of
  plain-read i = (unfolded-accepted (dictionary_of D) (entries_of s) named-legal i).0 ∙ ap Ok (sym entries-count)

  -- the same items fit it, in every record
  pub plain-means : (R : Record) (x : ℕ) → fits R (place_of (entries_of (plain_of D s)) 0) x ≡ fits_in R D s x
  plain-means R x = rw plain-entries ((unfolds-plainly (dictionary_of D) (entries_of s) named-legal).means R x)

  pub plain-length : length (plain_of D s) ≡ 512 * blocks_for plain A.entries
  unfolding plain_of
  plain-length = length-encode (unfolded_by (dictionary_of D) (entries_of s)) ∙ ap (λ (k : ℕ). 512 * blocks_for plain k) (sym entries-count)
