-- The narrowest of two accepted inputs under a list that is accepted, as entries: a description in normal form, the same in either order, and
-- with no pairs no longer than both.
-- Assumes nothing.
use Prim.Native.Nat.{◌*◌, ◌+◌, ◌≤◌, ℕ}
use lib.ListN.{length, length-map}
use mathlib.Core.Bool.{false, true}
use mathlib.Core.List.{List, [], map}
use mathlib.Core.Path.{◌∙◌, ◌≡◌, ap, refl, sym}
use native.Mathlib.Omega.{arith}
use Rattle.base.proofs.Tests.{both_ways}
use Rattle.base.specs.Ascending.{Sorted}
use Rattle.blocks.proofs.Format.Counts.{blocks-limit}
use Rattle.blocks.proofs.Format.EntryBytes.{length-entries}
use Rattle.blocks.proofs.Format.Lawful.{plain-lawful}
use Rattle.blocks.proofs.Format.Lengths.{some_block, whole-blocks}
use Rattle.blocks.proofs.RoundTrip.Accepting.{Sound, encoded-accepted, sound-of-accepted}
use Rattle.blocks.proofs.RoundTrip.Decoding.{decode-encode, length-encode}
use Rattle.blocks.proofs.RoundTrip.Faithful.{total-bound}
use Rattle.blocks.specs.Encoding.{blocks_for, encode}
use Rattle.blocks.specs.Entries.{entries_of}
use Rattle.blocks.specs.Frame.{blocks_in, plain}
use Rattle.blocks.specs.Promise.{Legal}
use Rattle.blocks.specs.Reading.{reading_of}
use Rattle.blocks.specs.declared.Entry.{Entry}
use Rattle.blocks.specs.declared.Schema.TheVariants.{Description}
use Rattle.logic.proofs.NormalForm.IsNormal.{nf-normal}
use Rattle.logic.proofs.NormalForm.NormalSize.{nf-nodes}
use Rattle.logic.proofs.SpecimenTrees.IncreasingNames.{Increasing}
use Rattle.logic.proofs.TreeRows.LayoutLaws.{write-length}
use Rattle.logic.specs.Background.{Background, LawfulBackground, standing}
use Rattle.logic.specs.Layout.{write}
use Rattle.logic.specs.Normal.{nf}
use Rattle.logic.specs.Place.{Place}
use Rattle.logic.specs.Size.{nodes}
use Rattle.logic.specs.Witness.{member}
use Rattle.meaning.proofs.Descriptions.PlaceSize.{place-nodes}
use Rattle.meaning.proofs.NormalForms.NormalAscends.{normal-ascends}
use Rattle.meaning.proofs.NormalForms.RulesLaws.{no-rule}
use Rattle.meaning.specs.Description.{place_of}
use Rattle.meaning.specs.Failing.{normal_of}
use Rattle.meaning.specs.NormalEntries.{normal_entries}
use Rattle.meaning.specs.RowEntries.{entry_before, row_entry}
use Rattle.meaning.specs.Rules.{Applies}
use Rattle.narrow.proofs.Joining.JoinSize.{nodes-joined}
use Rattle.narrow.proofs.Joining.NarrowestKept.{narrowest-cases, narrowest-either, narrowest-fixed, narrowest-legal, narrowest-read}
use Rattle.narrow.specs.Narrowest.{narrowest_entries, narrowest_place}
use Rattle.narrow_listed.proofs.AcceptedLegal.{legal-read}
use Rattle.narrow_listed.proofs.NamesListed.{excluded-named, excluded-positive, names-ascend}
use Rattle.narrow_listed.specs.Listed.{names_from, names_in, narrowest_under}
use Rattle.normal.proofs.AnswerLaws.{Ready, list-output, list_read, normalised}
use Rattle.normal.specs.Answer.{normalised_under, output_after}
use Rattle.normal.specs.Promise.{OwnNormalForm}
use Rattle.pairs.proofs.Under.{empty-read, empty-standing, ruled-under, under-empty}
use Rattle.pairs.specs.Pairs.{pair_count, pairs_reading, under}
use Rattle.std.specs.Prelude.{◌++◌, Ok, drop}

-- ---- in normal form

module _ (P a b : List ℕ) {k n m : ℕ} (r : pairs_reading P ≡ Ok k) (ra : reading_of Description 1 a ≡ Ok n)
    (rb : reading_of Description 2 b ≡ Ok m) where
  abbrev law : LawfulBackground (under P)
  law = (ruled-under P r).lawful

  abbrev N : List Entry
  N = narrowest_under P a b

  pub written-legal : Legal Description N
  unfolding names_in
  written-legal =
      narrowest-legal law (names_in P) (names-ascend P (pair_count P)) (excluded-named P) (entries_of a) (entries_of b) (legal-read 1 a ra)
      (legal-read 2 b rb) (excluded-positive P r)

  -- the entries are those of their own normal form
  pub written-own : normal_entries (under P) N ≡ N
  unfolding names_in normal_entries narrowest_entries
  written-own =
      let inc = names-ascend P (pair_count P) in
      let fixed =
      narrowest-fixed law (names_in P) inc (excluded-named P) (entries_of a) (entries_of b) (legal-read 1 a ra) (legal-read 2 b rb)
      (excluded-positive P r) in
      let read =
      narrowest-read law (names_in P) inc (excluded-named P) (entries_of a) (entries_of b) (legal-read 1 a ra) (legal-read 2 b rb)
      (excluded-positive P r) in
      ap (λ (t : Place). map row_entry (write t)) (fixed ∙ read)

  pub written-ascends : Sorted entry_before N
  written-ascends = rw written-own at (normal-ascends law N)

  pub written-irreducible : (i : ℕ) → Applies (under P) i N → ⊥
  unfolding normal_entries
  written-irreducible i h = no-rule law N i (rw (sym written-own) at h)

  -- whichever comes first
  pub written-either : N ≡ narrowest_under P b a
  unfolding names_in narrowest_entries
  written-either =
      ap (λ (t : Place). map row_entry (write t))
      (narrowest-either law (names_in P) (names-ascend P (pair_count P)) (excluded-named P) (entries_of a) (entries_of b) (legal-read 1 a ra)
      (legal-read 2 b rb) (excluded-positive P r))

  -- ---- in blocks

  module _ (few : length N ≤ 1008) where
    pub written-read : (i : ℕ) → reading_of Description i (encode N) ≡ Ok (length N)
    written-read i = encoded-accepted Description i N written-legal tt few

    -- they are normalised to themselves
    pub written-again : OwnNormalForm P (encode N)
    unfolding normalised_under
    written-again out h =
        let back = decode-encode N in
        let ready : Ready (encode N) out = record { total = length N; read = written-read 1; room = h } in
        let own : normal_entries (under P) (entries_of (encode N)) ≡ N = rw back written-own in
        let answer = normalised (under P) (encode N) out ready in
        let long = length-encode N in (
          list_read P (encode N) out r ∙ answer ∙ ap (λ (es : List Entry). Ok (length es)) (own ∙ sym back),
          list-output P (encode N) out r ∙ ap (output_after (under P) (encode N) out) answer
              ∙ ap (λ (es : List Entry). encode es ++ drop (512 * blocks_for plain (length es)) out) own ∙ rw long refl,
        )

-- ---- with no pairs

module _ {b : Background} (law : LawfulBackground b) (ps : List ℕ) (inc : Increasing 0 ps) (none-excluded : (p q : ℕ) → b.excludes p q ≡ false)
    (c d : List Entry) where
  all-named : (p q : ℕ) → b.excludes q p ≡ true → member p ps ≡ true
  all-named p q e = both_ways e (none-excluded q p)

  few-nodes : nodes (narrowest_place b ps c d) ≤ nodes (nf b (place_of c 0)) + nodes (nf b (place_of d 0))
  unfolding narrowest_place normal_of
  few-nodes =
      let t = nf b (place_of c 0) in
      let u = nf b (place_of d 0) in
      narrowest-cases law ps inc all-named (λ (j : Place). nodes j ≤ nodes t + nodes u) t u (nf-normal law (place_of c 0)) (nf-normal law (place_of d 0))
      (λ e. omega arith)
      (λ e. omega arith)
      (λ ct cu. nodes-joined law ps inc none-excluded t u ct cu)

  pub narrowest-fewer : length (narrowest_entries b ps c d) ≤ length c + length d
  unfolding narrowest_entries
  narrowest-fewer =
      let t = narrowest_place b ps c d in
      omega (arith, length-map (write t) row_entry, write-length t, few-nodes, nf-nodes b (place_of c 0), nf-nodes b (place_of d 0), place-nodes c, place-nodes d)

-- the blocks of two inputs have room for all entries of both
module _ (a b : List ℕ) {n m : ℕ} (ra : reading_of Description 1 a ≡ Ok n) (rb : reading_of Description 2 b ≡ Ok m) (k : ℕ)
    (few : k ≤ length (entries_of a) + length (entries_of b)) where
  first : Sound Description a
  first = sound-of-accepted Description 1 a ra

  second : Sound Description b
  second = sound-of-accepted Description 2 b rb

  rows : k ≤ 63 * (blocks_in a + blocks_in b)
  rows = omega (arith, few, length-entries a, length-entries b, total-bound first.blocks, total-bound second.blocks)

  pub both-room : 512 * blocks_for plain k ≤ length a + length b
  both-room =
      let x = some_block Description a first.blocks.length in
      let limit = blocks-limit plain plain-lawful k (blocks_in a + blocks_in b) (omega arith) rows in
      omega (arith, whole-blocks Description a first.blocks.length, whole-blocks Description b second.blocks.length)

  pub both-few : length a + length b ≤ 8192 → k ≤ 1008
  both-few h =
      omega (arith, rows, whole-blocks Description a first.blocks.length, whole-blocks Description b second.blocks.length)

-- so with no pairs the result has room wherever both have
module _ (a b : List ℕ) where
  pub written-fewer : length (narrowest_under [] a b) ≤ length (entries_of a) + length (entries_of b)
  unfolding names_in
  written-fewer =
      narrowest-fewer (ruled-under [] empty-read).lawful (names_in []) (names-ascend [] (pair_count [])) (λ p q. under-empty p q) (entries_of a) (entries_of b)

  -- [S11] an empty list is none
  pub empty-list : narrowest_under [] a b ≡ narrowest_entries standing [] (entries_of a) (entries_of b)
  unfolding names_in names_from pair_count
  empty-list = rw empty-standing refl
