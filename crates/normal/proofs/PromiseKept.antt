-- The normal form of an input under a list of pairs: blocks at the start of the output that are accepted as a description, that the same
-- items fit in every finite record that keeps the list and the rule on single links, and that are their own normal form. The output keeps its
-- length.
-- Assumes nothing.
use Prim.Native.Nat.{◌*◌, ◌≤◌, ℕ}
use lib.ListN.{drop, length, length-append, length-drop}
use lib.Seq.{drop_at, take_at}
use mathlib.Core.List.{List, ◌++◌}
use mathlib.Core.Path.{◌∙◌, ◌≡◌, ap, sym}
use native.Mathlib.Omega.{arith}
use Rattle.base.specs.Ascending.{Sorted}
use Rattle.blocks.proofs.Format.Counts.{blocks-limit}
use Rattle.blocks.proofs.Format.EntryBytes.{length-entries}
use Rattle.blocks.proofs.Format.Lawful.{plain-lawful}
use Rattle.blocks.proofs.Format.Lengths.{some_block, whole-blocks}
use Rattle.blocks.proofs.Format.WordBytes.{Bytes}
use Rattle.blocks.proofs.Refusing.Bounds.{AllBounded, encode-bytes, entries-bounded}
use Rattle.blocks.proofs.RoundTrip.Accepting.{Sound, accepted-by-none, accepted-encodes, encoded-accepted, none-of-accepted, sound-of-accepted}
use Rattle.blocks.proofs.RoundTrip.Decoding.{decode-encode, length-encode}
use Rattle.blocks.proofs.RoundTrip.Faithful.{entries-limit, total-bound}
use Rattle.blocks.specs.Encoding.{blocks_for, encode, first_blocks}
use Rattle.blocks.specs.Entries.{entries_of}
use Rattle.blocks.specs.Frame.{blocks_in, plain}
use Rattle.blocks.specs.Reading.{reading_of}
use Rattle.blocks.specs.declared.Entry.{Entry}
use Rattle.std.specs.Prelude.{Ok}
use Rattle.blocks.specs.declared.Schema.TheVariants.{Description}
use Rattle.logic.specs.Background.{Background, LawfulBackground}
use Rattle.meaning.proofs.NormalForms.NormalAscends.{normal-ascends}
use Rattle.meaning.proofs.NormalForms.NormalEntriesLaws.{normal-again, normal-fewer, same-items}
use Rattle.meaning.proofs.NormalForms.RulesLaws.{no-rule}
use Rattle.meaning.proofs.NormalForms.NormalLegal.{normal-bounded, normal-legal}
use Rattle.meaning.proofs.NormalForms.WrittenAgain.{entries-again}
use Rattle.meaning.specs.NormalEntries.{normal_entries}
use Rattle.meaning.specs.RowEntries.{entry_before}
use Rattle.meaning.specs.Rules.{Applies}
use Rattle.normal.proofs.AnswerLaws.{Ready, input-refused, list-output, list_read, list-refused, normalise-cases, normalised, normalised-list, normalised-ready, refused-output, refused-unchanged, too_short}
use Rattle.normal.specs.Answer.{normalise_of, normalise_under, normalised_of, normalised_under, output_after}
use Rattle.normal.specs.Promise.{Normalises, OwnNormalForm, SameItems}
use Rattle.blocks.proofs.Refusing.Readings.{reading-cases}
use Rattle.pairs.proofs.Under.{ruled-under}
use Rattle.pairs.specs.Pairs.{pairs_reading, under}

-- ---- the normal form in blocks

-- the output where the input is normalised
output-written : (b : Background) (d out : List ℕ) → Ready d out
    → normalised_under b d out ≡ encode (normal_entries b (entries_of d)) ++ drop (512 * blocks_for plain (length (normal_entries b (entries_of d)))) out
unfolding normalised_under
output-written b d out r = ap (output_after b d out) (normalised b d out r)

-- its start
output-start : (b : Background) (d out : List ℕ) → Ready d out → first_blocks (length (normal_entries b (entries_of d))) (normalised_under b d out) ≡ encode (normal_entries b (entries_of d))
output-start b d out r =
    let n : ℕ = 512 * blocks_for plain (length (normal_entries b (entries_of d))) in
    rw (output-written b d out r) (take_at (encode (normal_entries b (entries_of d))) (drop n out) n (length-encode (normal_entries b (entries_of d))))

module _ {b : Background} (law : LawfulBackground b) (d out : List ℕ) (r : Ready d out) where
  abbrev form : List Entry
  form = normal_entries b (entries_of d)

  input : Sound Description d
  input = sound-of-accepted Description 1 d r.read

  form-few : length form ≤ 1008
  form-few = omega (arith, normal-fewer b (entries_of d), entries-limit input.blocks)

  -- its blocks are no more than the input's
  form-blocks : blocks_for plain (length form) ≤ blocks_in d
  form-blocks =
      blocks-limit plain plain-lawful (length form) (blocks_in d) (some_block Description d input.blocks.length)
      (omega (arith, normal-fewer b (entries_of d), length-entries d, total-bound input.blocks))

  form-short : 512 * blocks_for plain (length form) ≤ length d
  form-short = omega (arith, form-blocks, whole-blocks Description d input.blocks.length)

  pub form-room : 512 * blocks_for plain (length form) ≤ length out
  form-room = omega (arith, form-short, r.room)

  form-read : reading_of Description 1 (encode form) ≡ Ok (length form)
  form-read = encoded-accepted Description 1 form (normal-legal b (entries_of d) input.entries) tt form-few

  -- its blocks are normalised to themselves
  form-entries : normal_entries b (entries_of (encode form)) ≡ form
  form-entries = rw (decode-encode form) (normal-again b (entries_of d) law)

  module _ (out' : List ℕ) (room : 512 * blocks_for plain (length form) ≤ length out') where
    form-ready : Ready (encode form) out'
    form-ready = record { total = length form; read = form-read; room = omega (arith, length-encode form) }

    form-again : normalise_under b (encode form) out' ≡ Ok (length form)
    form-again = normalised b (encode form) out' form-ready ∙ ap (λ (es : List Entry). Ok (length es)) form-entries

    form-itself : first_blocks (length form) (normalised_under b (encode form) out') ≡ encode form
    form-itself =
        ap (λ (es : List Entry). first_blocks (length es) (normalised_under b (encode form) out')) (sym form-entries)
        ∙ output-start b (encode form) out' form-ready ∙ ap encode form-entries

  form-same : SameItems b (encode form) d
  form-same c kept x i = rw (decode-encode form) (same-items b (entries_of d) c kept x i)

  form-irreducible : (n : ℕ) → Applies b n (entries_of (encode form)) → ⊥
  unfolding normal_entries
  form-irreducible n = rw (decode-encode form) (no-rule law (entries_of d) n)

  form-ascending : Sorted entry_before (entries_of (encode form))
  form-ascending = rw (decode-encode form) (normal-ascends law (entries_of d))

  form-later : drop (512 * blocks_for plain (length form)) (normalised_under b d out) ≡ drop (512 * blocks_for plain (length form)) out
  form-later =
      let n : ℕ = 512 * blocks_for plain (length form) in
      rw (output-written b d out r) (drop_at (encode form) (drop n out) n (length-encode form))

  form-length : length (normalised_under b d out) ≡ length out
  form-length = rw (output-written b d out r) (simp (length-append, length-drop) (omega (arith, length-encode form, form-short, r.room)))

-- ---- any input and output, under a list of pairs

module _ (P : List ℕ) {m : ℕ} (l : pairs_reading P ≡ Ok m) (d out : List ℕ) (r : Ready d out) where
  abbrev law : LawfulBackground (under P)
  law = (ruled-under P l).lawful

  normalises : {k : ℕ} → length (form law d out r) ≡ k → Normalises P d out k
  normalises e =
      let es : List Entry = form law d out r in
      let written = list-output P d out l in
      let front : first_blocks (length es) (normalised_of P d out) ≡ encode es = rw written (output-start (under P) d out r) in
      rw (← e)
      (record {
        room = form-room law d out r;
        shorter = form-short law d out r;
        later = rw written (form-later law d out r);
        blocks = front;
        accepted = rw front (form-read law d out r);
        few = normal-fewer (under P) (entries_of d);
        ascending = rw front (form-ascending law d out r);
        irreducible = rw front (form-irreducible law d out r);
        same = rw front (form-same law d out r);
        again = rw front (λ out' h. (
          list_read P (encode es) out' l ∙ form-again law d out r out' h,
          ap (first_blocks (length es)) (list-output P (encode es) out' l) ∙ form-itself law d out r out' h,
        ));
      })

module _ (P d out : List ℕ) where
  -- an answer that is no refusal tells of the normal form
  pub normalised-means : {k : ℕ} → normalise_of P d out ≡ Ok k → Normalises P d out k
  normalised-means e =
      normalised-list P d out e (λ n l f. let r = normalised-ready (under P) d out f in normalises P l d out r.0 r.1)

  -- the output's length never changes
  pub output-length : length (normalised_of P d out) ≡ length out
  output-length =
      reading-cases (pairs_reading P)
      (λ k i p q. ap length (refused-unchanged P d out (list-refused P d out q)))
      (λ n l.
      rw (list-output P d out l)
      (normalise-cases (under P) d out
      (λ k i p q. ap length (refused-output (under P) d out (input-refused (under P) d out q)))
      (λ n q h. ap length (refused-output (under P) d out (too_short (under P) d out q h)))
      (λ r. form-length (ruled-under P l).lawful d out r)))

-- the normal form's blocks are bytes, and its entries' fields fit them
pub normal-bytes : (b : Background) (i : ℕ) (d : List ℕ) {n : ℕ} → reading_of Description i d ≡ Ok n → Bytes d
    → AllBounded (normal_entries b (entries_of d)) × Bytes (encode (normal_entries b (entries_of d)))
normal-bytes b i d a small =
    let input = sound-of-accepted Description i d a in
    let few : length (entries_of d) ≤ 1008 = omega (arith, entries-limit input.blocks) in
    let bound = normal-bounded b (entries_of d) input.entries (entries-bounded small) (omega arith) in
    let blocks = blocks-limit plain plain-lawful (length (normal_entries b (entries_of d))) 16 (omega arith) (omega (arith, normal-fewer b (entries_of d))) in
    (bound, encode-bytes (normal_entries b (entries_of d)) bound (omega arith))

-- ---- the rules leave nothing out

-- an accepted description whose entries ascend, and to which no rule applies, is normalised to its own bytes
pub irreducible-own : (P : List ℕ) {m : ℕ} → pairs_reading P ≡ Ok m → (i : ℕ) (d : List ℕ) {n : ℕ} → reading_of Description i d ≡ Ok n → Bytes d
    → Sorted entry_before (entries_of d) → ((k : ℕ) → Applies (under P) k (entries_of d) → ⊥) → OwnNormalForm P d
irreducible-own P l i d a bytes' up none out h =
    let b = under P in
    let es : List Entry = entries_of d in
    let own : normal_entries b es ≡ es = entries-again (ruled-under P l).lawful es (sound-of-accepted Description i d a).entries up none in
    let bytes : encode es ≡ d = accepted-encodes Description i d bytes' a in
    let size : 512 * blocks_for plain (length es) ≡ length d = sym (length-encode es) ∙ ap length bytes in
    let r : Ready d out
    = record { total = length es; read = accepted-by-none Description 1 d (none-of-accepted Description i d a).0; room = h } in (
      list_read P d out l ∙ normalised b d out r ∙ ap (λ (l : List Entry). Ok (length l)) own,
      list-output P d out l ∙ output-written b d out r ∙ ap (λ (l : List Entry). encode l ++ drop (512 * blocks_for plain (length l)) out) own ∙ rw (bytes, size),
    )
