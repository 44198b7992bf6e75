-- What is promised of asking for the narrowest description, with names, and over the items that fit them.
-- Assumes nothing.
use Rattle.std.proofs.Common.{◌≡◌, ℕ, ◌*◌, ◌≤◌, ◌↔◌, List, [], length, drop, Ok, sym, ap, ◌∙◌, arith}
use lib.Seq.{drop_at, take_at}
use Rattle.answers.proofs.Accepted.{plain-entries, plain-means, plain-read}
use Rattle.answers.proofs.AnswerLaws.{refused-answered}
use Rattle.answers.proofs.Nameless.{nameless-admitted, normal-nameless}
use Rattle.answers.proofs.DictionaryOrder.{dictionary-accepted}
use Rattle.answers.proofs.NarrowestOrder.{Answered, narrowest-answers, narrowest-cases, narrowest-refuses}
use Rattle.answers.proofs.NarrowestUnfolded.{given-laid, narrowest-plain, narrowest-unfolded}
use Rattle.answers.proofs.NarrowestWritten.{both-few, both-room, written-again, written-ascends, written-either, written-fewer, written-irreducible, written-read}
use Rattle.answers.proofs.Order.{by-reading, by_lines}
use Rattle.answers.specs.Narrowest.{Narrows, both_bytes, narrowest_bytes, narrowest_with}
use Rattle.answers.specs.Promise.{Admitted, ContainedNamed, fits_in}
use Rattle.blocks.proofs.RoundTrip.Decoding.{decode-encode, length-encode}
use Rattle.blocks.specs.Encoding.{blocks_for, encode, first_blocks}
use Rattle.blocks.specs.Entries.{entries_of}
use Rattle.blocks.specs.Frame.{plain}
use Rattle.blocks.specs.Reading.{reading_of}
use Rattle.blocks.specs.declared.Entry.{Entry}
use Rattle.blocks.specs.declared.Schema.TheVariants.{Description}
use Rattle.lists.specs.Parts.{parts_of}
use Rattle.logic.specs.Record.{Record, fits}
use Rattle.meaning.specs.Description.{place_of}
use Rattle.meaning.specs.Promise.{Subsumed}
use Rattle.named.specs.Answer.{narrowed_named, narrowest_named, normalise_named, normalised_named}
use Rattle.names.proofs.Legality.NoNames.{legal-unfolds}
use Rattle.names.specs.NamedReading.{dictionary_of, dictionary_reading, plain_of}
use Rattle.narrow_listed.proofs.AcceptedLegal.{legal-read}
use Rattle.narrow_listed.proofs.NarrowestAccepted.{result-contains, result-least}
use Rattle.narrowest.specs.Answer.{laid}
use Rattle.pairs.proofs.PairsAccepted.{accepted-none, none-accepted}
use Rattle.pairs.proofs.Under.{empty-read}
use Rattle.pairs.specs.Pairs.{pair_count, pairs_reading, under}

-- ---- containment, of descriptions with names and of those that they stand for

-- a description without names says the same under every dictionary that is accepted
nameless-means : (D s : List ℕ) (A : Admitted D s) (i : ℕ) {n : ℕ} → reading_of Description i s ≡ Ok n → (R : Record) (x : ℕ)
    → fits R (place_of (entries_of s) 0) x ≡ fits_in R D s x
nameless-means D s A i e R x =
    let own : entries_of (plain_of D s) ≡ entries_of s = plain-entries D s A ∙ legal-unfolds (dictionary_of D) (entries_of s) (legal-read i s e) in
    ap (λ (es : List Entry). fits R (place_of es 0) x) (sym own) ∙ plain-means D s A R x

module _ (P D c d : List ℕ) (es fs : List Entry) (means-c : (R : Record) (x : ℕ) → fits R (place_of es 0) x ≡ fits_in R D c x)
    (means-d : (R : Record) (x : ℕ) → fits R (place_of fs 0) x ≡ fits_in R D d x) where
  within-named : Subsumed (under P) (place_of es 0) (place_of fs 0) → ContainedNamed P D c d
  within-named f R kept x i h = sym (means-d R x) ∙ f R kept x i (means-c R x ∙ h)

  named-within : ContainedNamed P D c d → Subsumed (under P) (place_of es 0) (place_of fs 0)
  named-within f R kept x i h = means-d R x ∙ f R kept x i (sym (means-c R x) ∙ h)

-- ---- an answer that is no refusal

-- the result's blocks, and behind them what was there
pub laid-bytes : (P D a b out : List ℕ) → Answered P D a b out → narrowed_named P D a b out ≡ laid (narrowest_with P D a b) out
laid-bytes P D a b out R =
    let w = narrowest-plain P D a b out (by_lines D a R.first) (by_lines D b R.second) in
    w.1 ∙ given-laid P (plain_of D a) (plain_of D b) out (sym w.0 ∙ narrowest-answers P D a b out R)

module _ (P D a b out : List ℕ) (R : Answered P D a b out) where
  abbrev A : Admitted D a
  A = by_lines D a R.first

  abbrev B : Admitted D b
  B = by_lines D b R.second

  abbrev N : List Entry
  N = narrowest_with P D a b

  abbrev size : ℕ
  size = 512 * blocks_for plain (length N)

  list : pairs_reading P ≡ Ok (pair_count P)
  list = none-accepted P R.pairs

  read-a : reading_of Description 1 (plain_of D a) ≡ Ok A.entries
  read-a = plain-read D a A 1

  read-b : reading_of Description 2 (plain_of D b) ≡ Ok B.entries
  read-b = plain-read D b B 2

  read-n : (i : ℕ) → reading_of Description i (encode N) ≡ Ok (length N)
  read-n = written-read P (plain_of D a) (plain_of D b) list read-a read-b R.few

  bytes : narrowed_named P D a b out ≡ laid N out
  bytes = laid-bytes P D a b out R

  front : narrowest_bytes P D a b out (length N) ≡ encode N
  front = rw bytes (take_at (encode N) (drop size out) size (length-encode N))

  -- the blocks name nothing, and mean the same under the dictionary
  taken : dictionary_reading D ≡ Ok (length (parts_of D))
  taken = dictionary-accepted D R.first.dictionary

  admitted-n : Admitted D (encode N)
  admitted-n = nameless-admitted D 1 (encode N) taken (read-n 1)

  means-n : (r : Record) (x : ℕ) → fits r (place_of N 0) x ≡ fits_in r D (encode N) x
  means-n r x =
      ap (λ (es : List Entry). fits r (place_of es 0) x) (sym (decode-encode N))
      ∙ nameless-means D (encode N) admitted-n 1 (read-n 1) r x

  contains : Subsumed (under P) (place_of (entries_of (plain_of D a)) 0) (place_of N 0)
      × Subsumed (under P) (place_of (entries_of (plain_of D b)) 0) (place_of N 0)
  contains = result-contains P (plain_of D a) (plain_of D b) list read-a read-b

  narrowest-of-all : (e : List ℕ) → Admitted D e → ContainedNamed P D (encode N) e ↔ (ContainedNamed P D a e × ContainedNamed P D b e)
  narrowest-of-all e E =
      let es = entries_of (plain_of D e) in
      let least = result-least P (plain_of D a) (plain_of D b) list read-a read-b 1 (plain_of D e) (plain-read D e E 1) in
      let means-a = plain-means D a A in
      let means-b = plain-means D b B in
      let means-e = plain-means D e E in (
        λ f. let g = least.0 (named-within P D (encode N) e N es means-n means-e f) in (
          within-named P D a e (entries_of (plain_of D a)) es means-a means-e g.0,
          within-named P D b e (entries_of (plain_of D b)) es means-b means-e g.1,
        ),
        λ f. within-named P D (encode N) e N es means-n means-e (least.1 (
          named-within P D a e (entries_of (plain_of D a)) es means-a means-e f.0,
          named-within P D b e (entries_of (plain_of D b)) es means-b means-e f.1,
        )),
      )

  again-n : (out' : List ℕ) → size ≤ length out'
      → (normalise_named P D (encode N) out' ≡ Ok (length N)) × (first_blocks (length N) (normalised_named P D (encode N) out') ≡ encode N)
  again-n out' h =
      let long = length-encode N in
      let own = written-again P (plain_of D a) (plain_of D b) list read-a read-b R.few out' (omega (arith, long)) in
      let g = normal-nameless P D (encode N) out' taken 1 (read-n 1) in (
        g.0 ∙ own.0 ∙ ap (λ (es : List Entry). Ok (length es)) (decode-encode N),
        ap (first_blocks (length N)) (g.1 ∙ own.1) ∙ take_at (encode N) (drop (length (encode N)) out') size long,
      )

  -- the other way round nothing is refused either, and the result is the same
  turned-n : narrowest_with P D a b ≡ narrowest_with P D b a
  turned-n = written-either P (plain_of D a) (plain_of D b) list read-a read-b

  turned : Answered P D b a out
  turned =
      let w = sym turned-n in
      record {
        pairs = R.pairs;
        first = R.second;
        second = R.first;
        sixteen = omega (arith, R.sixteen);
        output = omega (arith, R.output);
        few = rw w R.few;
        room = rw w R.room;
      }

  narrows : Narrows P D a b out (length N)
  narrows =
      let same = narrowest-unfolded P D a b out A B in
      let answer = narrowest-answers P D a b out R in
      let back = decode-encode N in
      record {
        room = R.room;
        later = rw bytes (drop_at (encode N) (drop size out) size (length-encode N));
        blocks = front;
        few = R.few;
        accepted = rw front read-n;
        ascending = rw (front, back) (written-ascends P (plain_of D a) (plain_of D b) list read-a read-b);
        irreducible = rw (front, back) (written-irreducible P (plain_of D a) (plain_of D b) list read-a read-b);
        again = rw front again-n;
        first = rw front (within-named P D a (encode N) (entries_of (plain_of D a)) N (plain-means D a A) means-n contains.0);
        second = rw front (within-named P D b (encode N) (entries_of (plain_of D b)) N (plain-means D b B) means-n contains.1);
        least = rw front narrowest-of-all;
        either = (answer-turned, bytes-turned);
        unfolded = (sym same.0 ∙ answer, sym same.1);
      }
    where
      answer-turned : narrowest_named P D b a out ≡ Ok (length N)
      answer-turned = narrowest-answers P D b a out turned ∙ ap (λ (es : List Entry). Ok (length es)) (sym turned-n)

      bytes-turned : narrowed_named P D b a out ≡ narrowed_named P D a b out
      bytes-turned = laid-bytes P D b a out turned ∙ ap (λ (es : List Entry). laid es out) (sym turned-n) ∙ sym bytes

-- what was answered was accepted, and tells of the result
pub narrowest_means : (P D a b out : List ℕ) (k : ℕ) → narrowest_named P D a b out ≡ Ok k → Narrows P D a b out k
narrowest_means P D a b out k e =
    narrowest-cases P D a b out
    (λ k' i p r. refused-answered (narrowest-refuses P D a b out r).0 e)
    (λ R. let s = narrowest-answers P D a b out R in let z : length (narrowest_with P D a b) ≡ k = cc in rw (sym z) (narrows P D a b out R))

-- ---- with no pairs

-- an output as long as both is always long enough, and the result is never too long
pub always-answered : (D a b out : List ℕ) → Admitted D a → Admitted D b → both_bytes D a b ≤ 8192 → both_bytes D a b ≤ length out
    → narrowest_named [] D a b out ≡ Ok (length (narrowest_with [] D a b))
always-answered D a b out A B h s =
    let read-a = plain-read D a A 1 in
    let read-b = plain-read D b B 2 in
    let n = length (narrowest_with [] D a b) in
    let fewer = written-fewer (plain_of D a) (plain_of D b) in
    narrowest-answers [] D a b out
    (record {
      pairs = accepted-none [] empty-read;
      first = by-reading D a A;
      second = by-reading D b B;
      sixteen = h;
      output = s;
      few = both-few (plain_of D a) (plain_of D b) read-a read-b n fewer h;
      room = omega (arith, both-room (plain_of D a) (plain_of D b) read-a read-b n fewer);
    })
