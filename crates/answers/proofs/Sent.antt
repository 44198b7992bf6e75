-- What a call goes on with, with a dictionary of length 0 and with any other: a plain description that is accepted, with the unfolded
-- entries and the length of their blocks.
-- Assumes nothing.
use Rattle.std.proofs.Common.{◌≡◌, ℕ, suc, ◌-◌, ◌*◌, true, List, [], ◌∷◌, length, Ok, sym, refl, ap, ◌∙◌, arith}
use Rattle.answers.proofs.Accepted.{entries-count, plain-entries, plain-length, plain-read}
use Rattle.answers.proofs.AnswerLaws.{refused-answered}
use Rattle.answers.specs.Promise.{Admitted}
use Rattle.base.proofs.Split.{Split}
use Rattle.blocks.proofs.Format.Counts.{blocks-for, used-small, used-some}
use Rattle.blocks.proofs.Format.EntryBytes.{length-entries}
use Rattle.blocks.proofs.Format.Lawful.{plain-lawful}
use Rattle.blocks.proofs.Format.Lengths.{some_block, whole-blocks}
use Rattle.blocks.proofs.Refusing.Readings.{reading-cases}
use Rattle.blocks.proofs.RoundTrip.Accepting.{none-of-accepted, sound-of-accepted}
use Rattle.blocks.proofs.RoundTrip.Unbroken.{Unbroken, passing}
use Rattle.blocks.specs.Encoding.{blocks_for}
use Rattle.blocks.specs.Entries.{entries_of}
use Rattle.blocks.specs.Frame.{blocks_in, plain, total_in, used_in, used_ok}
use Rattle.blocks.specs.Reading.{reading_of}
use Rattle.blocks.specs.declared.Schema.{Schema}
use Rattle.blocks.specs.declared.Schema.TheVariants.{Description}
use Rattle.named.proofs.SentLaws.{sent-refused}
use Rattle.names.proofs.Legality.NoNames.{legal-unfolds}
use Rattle.names.specs.NamedReading.{dictionary_of, plain_of, sent_of}
use Rattle.names.specs.Unfold.{unfolded_by}
use Rattle.unfolding.proofs.BufferLaws.{sent-itself, sent-plain}

-- an input that breaks none of 1 to 3 has the blocks of its entries, and no other
pub blocks-taken : {σ : Schema} {s : List ℕ} → Unbroken plain σ s → length s ≡ 512 * blocks_for plain (length (entries_of s))
unfolding total_in
blocks-taken {σ} {s} u =
    let some = some_block σ s u.length in
    let n = blocks_in s in
    let last : n ≡ suc (n - 1) = omega arith in
    let used : used_ok plain n (n - 1) (used_in s (n - 1)) ≡ true
    = (passing plain (u.check (n - 1) (omega arith)) (u.frame (n - 1) (omega arith))).used in
    let counts : Split 63 (length (entries_of s)) =
    record {
      full = n - 1;
      rest = used_in s (n - 1);
      sum = length-entries s;
      small = used-small plain n (n - 1) (used_in s (n - 1)) last used;
      some = used-some plain n (n - 1) (used_in s (n - 1)) last used;
    } in
    whole-blocks σ s u.length ∙ ap (λ (k : ℕ). 512 * k) (last ∙ sym (blocks-for plain plain-lawful counts))

-- ---- a dictionary of length 0

module _ (s : List ℕ) (A : Admitted [] s) where
  some-total : {X : Type 0} (i : ℕ) → ((n : ℕ) → reading_of Description i s ≡ Ok n → X) → X
  some-total i f = reading-cases (reading_of Description i s) (λ k j p q. refused-answered (sent-refused i s q) (A.read i)) f

  own-entries : unfolded_by (dictionary_of []) (entries_of s) ≡ entries_of s
  own-entries = some-total 1 (λ n q. legal-unfolds (dictionary_of []) (entries_of s) (sound-of-accepted Description 1 s q).entries)

  own-count : A.entries ≡ length (entries_of s)
  own-count = entries-count [] s A ∙ ap length own-entries

  pub own_read : (i : ℕ) → reading_of Description i s ≡ Ok A.entries
  own_read i = some-total i (λ n q. q ∙ ap Ok ((none-of-accepted Description i s q).1 ∙ sym own-count))

  own-length : length s ≡ 512 * blocks_for plain A.entries
  own-length =
      some-total 1 (λ n q. blocks-taken (sound-of-accepted Description 1 s q).blocks) ∙ ap (λ (k : ℕ). 512 * blocks_for plain k) (sym own-count)

-- ---- any dictionary

pub sent-entries : (D s : List ℕ) → Admitted D s → entries_of (sent_of D s) ≡ unfolded_by (dictionary_of D) (entries_of s)
sent-entries [] s A = ap entries_of (sent-itself [] s refl) ∙ sym (own-entries s A)
sent-entries (x ∷ D) s A = ap entries_of (sent-plain (x ∷ D) s (omega arith)) ∙ plain-entries (x ∷ D) s A

pub sent-read : (D s : List ℕ) (A : Admitted D s) (i : ℕ) → reading_of Description i (sent_of D s) ≡ Ok A.entries
sent-read [] s A i = ap (reading_of Description i) (sent-itself [] s refl) ∙ own_read s A i
sent-read (x ∷ D) s A i = ap (reading_of Description i) (sent-plain (x ∷ D) s (omega arith)) ∙ plain-read (x ∷ D) s A i

-- [D8] the output is measured by the unfolded ones: the blocks of the entries once unfolded
pub sent-length : (D s : List ℕ) (A : Admitted D s) → length (sent_of D s) ≡ 512 * blocks_for plain A.entries
sent-length [] s A = ap length (sent-itself [] s refl) ∙ own-length s A
sent-length (x ∷ D) s A = ap length (sent-plain (x ∷ D) s (omega arith)) ∙ plain-length (x ∷ D) s A

module _ (D s : List ℕ) (A : Admitted D s) where
  -- the entries and the length of the plain description
  pub sent-plain-entries : entries_of (sent_of D s) ≡ entries_of (plain_of D s)
  sent-plain-entries = sent-entries D s A ∙ sym (plain-entries D s A)

  pub sent-plain-length : length (sent_of D s) ≡ length (plain_of D s)
  sent-plain-length = sent-length D s A ∙ sym (plain-length D s A)
