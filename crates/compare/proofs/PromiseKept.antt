-- The comparison of two inputs under a list of pairs: contained exactly if every item that fits C fits D, in every finite record that keeps
-- the list and the rule on single links; not contained, with blocks of a specimen that is accepted, keeps both, fits C and misses D. The
-- output keeps its length.
-- Assumes nothing.
use Prim.Native.Nat.{◌*◌, ◌+◌, ◌≤◌, ℕ}
use lib.ListN.{drop, length, length-append, length-drop}
use lib.Seq.{drop_at, take_at}
use mathlib.Core.Bool.{false, true}
use mathlib.Core.List.{List, ◌++◌}
use mathlib.Core.Logic.{◌≢◌, ◌↔◌}
use mathlib.Core.Path.{◌∙◌, ◌≡◌, ap, refl, sym}
use native.Mathlib.Omega.{arith}
use Rattle.base.proofs.Tests.{eq-cases}
use Rattle.blocks.proofs.Format.Counts.{blocks-limit}
use Rattle.blocks.proofs.Format.EntryBytes.{length-entries}
use Rattle.blocks.proofs.Format.Lawful.{plain-lawful}
use Rattle.blocks.proofs.Format.Lengths.{some_block, whole-blocks}
use Rattle.blocks.proofs.Format.WordBytes.{Bytes}
use Rattle.base.specs.Ascending.{Sorted}
use Rattle.blocks.proofs.Refusing.Bounds.{AllBounded, encode-bytes, entries-bounded}
use Rattle.blocks.proofs.RoundTrip.Accepting.{Sound, accepted-of-sound, sound-of-accepted}
use Rattle.blocks.proofs.RoundTrip.Decoding.{decode-encode, length-encode}
use Rattle.blocks.proofs.RoundTrip.Faithful.{entries-limit, total-bound}
use Rattle.blocks.specs.Encoding.{blocks_for, encode, first_blocks}
use Rattle.blocks.specs.Entries.{entries_of}
use Rattle.blocks.specs.Frame.{blocks_in, plain}
use Rattle.blocks.specs.Reading.{reading_of}
use Rattle.blocks.specs.declared.Entry.{Entry}
use Rattle.std.specs.Prelude.{Ok, None}
use Rattle.blocks.specs.Refusals.{refused}
use Rattle.blocks.specs.declared.Schema.TheVariants.{Description}
use Rattle.compare.proofs.AnswerLaws.{compare-cases, compared, contained-verdict, list_cases, list-output, list_read, not-verdict, verdict-contained, verdict-not}
use Rattle.compare.specs.Answer.{compare_of, compare_under, output_after, output_of, output_under, not_contained}
use Rattle.compare.specs.Promise.{Comparable, Refuted, ContainedInAll}
use Rattle.fit.proofs.AnswerLaws.{first-accepted, second-judged}
use Rattle.fit.specs.Answer.{fit_of, top_fits}
use Rattle.clashes.proofs.KeptApart.{keeps-encoded}
use Rattle.clashes.specs.Clash.{specimen_reading}
use Rattle.logic.specs.Background.{Background, Keeps, Ruled}
use Rattle.meaning.proofs.Specimens.SpecimenAscends.{specimen-ascends}
use Rattle.meaning.proofs.Verdicts.Contained.{contained-all, failing-first}
use Rattle.meaning.proofs.Verdicts.NotContained.{not-contained-bounded, not-contained-keeps, not-contained-shown}
use Rattle.meaning.specs.Failing.{failing, normal_of, specimen_of}
use Rattle.meaning.specs.RowEntries.{entry_before}
use Rattle.meaning.specs.Specimen.{record_of}
use Rattle.meaning.specs.Promise.{Shown}
use Rattle.pairs.proofs.Under.{ruled-under}
use Rattle.pairs.specs.Pairs.{pairs_reading, under}
use Rattle.blocks.specs.declared.Cause.{Cause}

-- ---- the fit answer for accepted inputs

module _ (P s d : List ℕ) {n : ℕ} (a : specimen_reading P s ≡ Ok n) (e : Sound Description d) where
  second-read : reading_of Description 2 d ≡ Ok (length (entries_of d))
  second-read = accepted-of-sound Description 2 d e

  fit-yes : top_fits s d ≡ true → fit_of P s d ≡ Ok true
  fit-yes t = sym (first-accepted P s d refl a (second-judged s d refl second-read (sym t)))

  fit-no : top_fits s d ≡ false → fit_of P s d ≡ Ok false
  fit-no t = sym (first-accepted P s d refl a (second-judged s d refl second-read (sym t)))

-- a refusal leaves the output
pub refused-output : (b : Background) (c d out : List ℕ) {k : Cause} {i p : ℕ} → compare_under b c d out ≡ refused k i p → output_under b c d out ≡ out
unfolding output_under
refused-output b c d out e = ap (output_after b c d out) e

-- ---- inputs that were compared

module _ {b : Background} (R : Ruled b) (c d out : List ℕ) (r : Comparable c d out) where
  abbrev supplier : Sound Description c
  supplier = sound-of-accepted Description 1 c r.first_read

  abbrev service : Sound Description d
  service = sound-of-accepted Description 2 d r.second-read

  -- contained exactly if every item that fits C fits D, in every finite record that keeps the background
  pub contained-exactly : (compare_under b c d out ≡ Ok None) ↔ ContainedInAll b c d
  contained-exactly =
      let w = contained-all R.lawful (entries_of c) (entries_of d) service.entries in (
        λ e. w.0 (contained-verdict b (entries_of c) (entries_of d) (sym (compared b c d out r) ∙ e)),
        λ f. compared b c d out r ∙ verdict-contained b (entries_of c) (entries_of d) (w.1 f),
      )

  module _ (z : failing b (entries_of c) (entries_of d) ≢ 0) where
    abbrev shown : List Entry
    shown = specimen_of b (entries_of c) (entries_of d)

    is-shown : Shown (entries_of c) (entries_of d) shown
    is-shown = not-contained-shown R.lawful (entries_of c) (entries_of d) supplier.entries service.entries z

    shown-keeps : Keeps b (record_of shown)
    shown-keeps = not-contained-keeps R.lawful (entries_of c) (entries_of d) supplier.entries service.entries z

    -- the specimen's blocks are no more than those of C and D
    pub shown-room : 512 * blocks_for plain (length shown) ≤ length out
    shown-room =
        let bc = whole-blocks Description c supplier.blocks.length in
        let bd = whole-blocks Description d service.blocks.length in
        let k : length shown ≤ 63 * (blocks_in c + blocks_in d) =
        omega (arith, is-shown.size, length-entries c, length-entries d, total-bound supplier.blocks, total-bound service.blocks) in
        let n = blocks-limit plain plain-lawful (length shown) (blocks_in c + blocks_in d) (omega (arith, some_block Description c supplier.blocks.length)) k in
        omega (arith, r.room)

    shown-few : length shown ≤ 2016
    shown-few = omega (arith, is-shown.size, entries-limit supplier.blocks, entries-limit service.blocks)

    shown-ascending : Sorted entry_before (entries_of (encode shown))
    unfolding specimen_of
    shown-ascending = rw (decode-encode shown) (specimen-ascends (normal_of b (entries_of c)) (entries_of d) (failing b (entries_of c) (entries_of d)))

    shown-output : output_under b c d out ≡ encode shown ++ drop (512 * blocks_for plain (length shown)) out
    unfolding output_under
    shown-output = ap (output_after b c d out) (compared b c d out r ∙ verdict-not b (entries_of c) (entries_of d) z)

    shown-length : length (output_under b c d out) ≡ length out
    shown-length = rw shown-output (simp (length-append, length-drop) (omega (arith, length-encode shown, shown-room)))

  -- the specimen's blocks are bytes, and its entries' fields fit them
  pub specimen-bytes : Bytes c → Bytes d → failing b (entries_of c) (entries_of d) ≢ 0
      → AllBounded (specimen_of b (entries_of c) (entries_of d)) × Bytes (encode (specimen_of b (entries_of c) (entries_of d)))
  specimen-bytes bc bd z =
      let few : length (entries_of c) + length (entries_of d) ≤ 2016 = omega (arith, entries-limit supplier.blocks, entries-limit service.blocks) in
      let bound = not-contained-bounded R.lawful (entries_of c) (entries_of d) supplier.entries service.entries z (entries-bounded bc) (entries-bounded bd) (omega arith) in
      let blocks = blocks-limit plain plain-lawful (length (shown z)) 32 (omega arith) (shown-few z) in
      (bound, encode-bytes (specimen_of b (entries_of c) (entries_of d)) bound (omega arith))

-- ---- inputs that were compared under a list

module _ (P : List ℕ) {m : ℕ} (l : pairs_reading P ≡ Ok m) (c d out : List ℕ) (r : Comparable c d out) where
  abbrev rules : Ruled (under P)
  rules = ruled-under P l

  module _ (z : failing (under P) (entries_of c) (entries_of d) ≢ 0) where
    abbrev specimen : List Entry
    specimen = shown rules c d out r z

    -- its record keeps the list, so it is accepted under it
    specimen-read : specimen_reading P (encode specimen) ≡ Ok (length specimen)
    specimen-read = keeps-encoded P specimen l (is-shown rules c d out r z).legal (shown-few rules c d out r z) (shown-keeps rules c d out r z)

    specimen-yes : fit_of P (encode specimen) c ≡ Ok true
    unfolding top_fits
    specimen-yes = fit-yes P (encode specimen) c specimen-read (supplier rules c d out r) (rw (top_fits, decode-encode specimen) (is-shown rules c d out r z).fitting)

    specimen-no : fit_of P (encode specimen) d ≡ Ok false
    unfolding top_fits
    specimen-no = fit-no P (encode specimen) d specimen-read (service rules c d out r) (rw (top_fits, decode-encode specimen) (is-shown rules c d out r z).missing)

    refuted : {j k : ℕ} → failing (under P) (entries_of c) (entries_of d) ≡ j → length specimen ≡ k → Refuted P c d out j k
    refuted e f =
        let n : ℕ = 512 * blocks_for plain (length specimen) in
        let later : List ℕ = drop n out in
        let written = list-output P c d out l ∙ shown-output rules c d out r z in
        let front : first_blocks (length specimen) (output_of P c d out) ≡ encode specimen = rw written (take_at (encode specimen) later n (length-encode specimen)) in
        rw (← f)
        (record {
          number = failing-first rules.lawful (entries_of c) (entries_of d) e (λ y. z (e ∙ y));
          room = shown-room rules c d out r z;
          later = rw written (drop_at (encode specimen) later n (length-encode specimen));
          blocks = front;
          accepted = rw front specimen-read;
          few = (is-shown rules c d out r z).size;
          keeps = rw (front, decode-encode specimen) (shown-keeps rules c d out r z);
          ascending = rw front (shown-ascending rules c d out r z);
          yes = rw front specimen-yes;
          no = rw front specimen-no;
        })

-- ---- any inputs and output

module _ (P c d out : List ℕ) where
  -- a refusal leaves the output
  pub refused-unchanged : {k : Cause} {i p : ℕ} → compare_of P c d out ≡ refused k i p → output_of P c d out ≡ out
  unfolding output_of
  refused-unchanged e = ap (output_after (under P) c d out) e

  -- the list is accepted where the two are compared, or where the answer is no refusal
  pub compared-list : {X : Type 0} → ((k : Cause) (i p : ℕ) → compare_of P c d out ≡ refused k i p → X)
      → ((n : ℕ) → pairs_reading P ≡ Ok n → Comparable c d out → X) → X
  compared-list f g =
      list_cases P c d out f (λ n l e. compare-cases (under P) c d out (λ k i p q. f k i p (e ∙ q)) (λ r. g n l r))

  -- 'contained' says that every item that fits C fits D, in every finite record that keeps the list and the rule, and leaves the output
  pub contained-means : compare_of P c d out ≡ Ok None → ContainedInAll (under P) c d × (output_of P c d out ≡ out)
  unfolding output_of
  contained-means e =
      compared-list
      (λ k i p q. let z : ◌≡◌ {A = ℕ} 0 1 = cc in absurd (omega arith))
      (λ n l r. ((contained-exactly (ruled-under P l) c d out r).0 (sym (list_read P c d out l) ∙ e), ap (output_after (under P) c d out) e))

  -- 'not contained' shows a specimen that fits C and does not fit D
  pub not-contained-means : {j k : ℕ} → compare_of P c d out ≡ not_contained j k → Refuted P c d out j k
  not-contained-means e =
      compared-list
      (λ k i p q. let z : ◌≡◌ {A = ℕ} 0 1 = cc in absurd (omega arith))
      (λ n l r.
      let v = not-verdict (under P) (entries_of c) (entries_of d) (sym (compared (under P) c d out r) ∙ sym (list_read P c d out l) ∙ e) in
      refuted P l c d out r v.0 v.1 v.2)

  -- the output's length never changes
  pub output-length : length (output_of P c d out) ≡ length out
  output-length =
      compared-list
      (λ k i p e. ap length (refused-unchanged e))
      (λ n l r. eq-cases (failing (under P) (entries_of c) (entries_of d)) 0
      (λ z. ap length (contained-means (list_read P c d out l ∙ compared (under P) c d out r ∙ verdict-contained (under P) (entries_of c) (entries_of d) z)).1)
      (λ z. ap length (list-output P c d out l) ∙ shown-length (ruled-under P l) c d out r z))
