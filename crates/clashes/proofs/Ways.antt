-- The ways that reading a specimen under a list goes: the list is refused; or the specimen is by itself; or an entry completes a pair; or
-- nothing is refused.
-- Assumes nothing.
use Prim.Native.Nat.{◌≤◌, ℕ}
use lib.Dec.{eqb}
use lib.ListN.{length}
use mathlib.Core.Bool.{false}
use mathlib.Core.List.{List, []}
use mathlib.Core.Logic.{◌≢◌}
use mathlib.Core.Path.{◌∙◌, ◌≡◌, ap, refl, sym}
use native.Mathlib.Omega.{arith}
use Rattle.base.proofs.SearchLaws.{none_first}
use Rattle.base.proofs.Tests.{and_zero, eq-cases, eq-eqb, ne_eqb, not-to-true}
use Rattle.base.specs.Range.{all}
use Rattle.base.specs.Search.{first_from}
use Rattle.blocks.proofs.Format.EntryBytes.{length-entries}
use Rattle.blocks.proofs.Refusing.FirstFault.{first-append, or_else}
use Rattle.blocks.proofs.Refusing.Readings.{accepted-finding, reading-cases, readings-cases, refused-finding}
use Rattle.blocks.proofs.Refusing.SearchedRows.{found_at, rows-searched}
use Rattle.blocks.proofs.RoundTrip.Accepting.{sound-of-accepted}
use Rattle.blocks.proofs.RoundTrip.Faithful.{entries-limit}
use Rattle.blocks.specs.Entries.{entries_of, nth}
use Rattle.blocks.specs.Faults.{faults, first, rows_from, Clean}
use Rattle.blocks.specs.Frame.{plain, total_in}
use Rattle.blocks.specs.Owners.{owner_of}
use Rattle.blocks.specs.Reading.{answer, reading_of}
use Rattle.blocks.specs.declared.Entry.{Entry}
use Rattle.std.specs.Prelude.{Ok}
use Rattle.blocks.specs.Refusals.{refused}
use Rattle.blocks.specs.declared.Schema.TheVariants.{Specimen}
use Rattle.clashes.proofs.Among.{one-never}
use Rattle.clashes.specs.Clash.{clash_rows, completes, gives_property, partner_of, specimen_faults, specimen_reading}
use Rattle.clashes.specs.Promise.{apart_ok}
use Rattle.pairs.proofs.PairsAccepted.{pairs-right, right-pairs}
use Rattle.pairs.specs.Pairs.{excludes_in, pair_count, pairs_reading}
use Rattle.blocks.specs.declared.Cause.{Cause}
use Rattle.blocks.specs.declared.Cause.TheVariants.{Clash}

-- the lowest entry that completes a pair; 0 if none does
abbrev pub lowest_clash : List ℕ → List ℕ → ℕ
lowest_clash P s = first_from (apart_ok P (entries_of s)) 1 (length (entries_of s))

-- the first fault of a specimen is one of its own, or else that of this entry
first-specimen : (P s : List ℕ) → first (specimen_faults P s) ≡ or_else (first (faults Specimen s)) (found_at Clash (lowest_clash P s))
unfolding specimen_faults
first-specimen P s =
    first-append (faults Specimen s) (rows_from (clash_rows P (entries_of s)) 1 (length (entries_of s)))
    ∙ rw (rows-searched (completes P (entries_of s)) Clash 1 (length (entries_of s)) (omega arith))

-- an accepted list has at most 64 pairs
pub list-few : (P : List ℕ) {m : ℕ} → pairs_reading P ≡ Ok m → pair_count P ≤ 64
unfolding pair_count
list-few P e = let R = pairs-right P e in omega (arith, R.whole, R.few)

module _ (P s : List ℕ) where
  -- ---- the list is refused

  pub list-refused : {k : Cause} {i p : ℕ} → pairs_reading P ≡ refused k i p → specimen_reading P s ≡ refused k i p
  unfolding specimen_reading
  list-refused e = rw (specimen_reading, e)

  module _ {m : ℕ} (e : pairs_reading P ≡ Ok m) where
    pub under-list : specimen_reading P s ≡ answer 1 (total_in plain s) (first (specimen_faults P s))
    unfolding specimen_reading
    under-list = rw (specimen_reading, e)

    in-turn : specimen_reading P s ≡ answer 1 (total_in plain s) (or_else (first (faults Specimen s)) (found_at Clash (lowest_clash P s)))
    in-turn = under-list ∙ ap (answer 1 (total_in plain s)) (first-specimen P s)

    -- ---- the specimen is refused by itself

    pub specimen-refused : {k : Cause} {i p : ℕ} → reading_of Specimen 1 s ≡ refused k i p → specimen_reading P s ≡ refused k i p
    unfolding reading_of
    specimen-refused f =
        let r = refused-finding 1 (total_in plain s) (first (faults Specimen s)) f in
        let i = r.0 in
        let q = r.1 in
        in-turn ∙ rw (q, i)

    -- ---- it is not, and an entry completes a pair, or none does

    module _ {n : ℕ} (f : reading_of Specimen 1 s ≡ Ok n) where
      finding : (n ≡ total_in plain s) × (first (faults Specimen s) ≡ Clean)
      unfolding reading_of
      finding = accepted-finding 1 (total_in plain s) (first (faults Specimen s)) f

      pub many-entries : n ≡ length (entries_of s)
      many-entries = finding.0 ∙ sym (length-entries s)

      pub few-entries : n ≤ 2016
      few-entries = omega (arith, many-entries, entries-limit (sound-of-accepted Specimen 1 s f).blocks)

      pub clash-refused : lowest_clash P s ≢ 0 → specimen_reading P s ≡ refused Clash 1 (lowest_clash P s)
      clash-refused h = let q = finding.1 in in-turn ∙ rw (q, ne_eqb h)

      pub none-refused : lowest_clash P s ≡ 0 → specimen_reading P s ≡ Ok n
      none-refused z = let q = finding.1 in in-turn ∙ rw (q, eq-eqb z) (ap Ok (sym finding.0))

      -- as the code finds that entry
      module _ {place : ℕ} (g : place ≡ first_from (apart_ok P (entries_of s)) 1 n) where
        place_is : place ≡ lowest_clash P s
        place_is = g ∙ ap (first_from (apart_ok P (entries_of s)) 1) many-entries

        pub by-clash : place ≢ 0 → refused Clash 1 place ≡ specimen_reading P s
        by-clash h = ap (refused Clash 1) place_is ∙ sym (clash-refused (λ z. h (place_is ∙ z)))

        pub without-clash : place ≡ 0 → Ok n ≡ specimen_reading P s
        without-clash z = sym (none-refused (sym place_is ∙ z))

  -- ---- the four together

  pub specimen-cases : {X : Type 0} → ((k : Cause) (i p : ℕ) → pairs_reading P ≡ refused k i p → specimen_reading P s ≡ refused k i p → X)
      → ((m : ℕ) (k : Cause) (i p : ℕ) → pairs_reading P ≡ Ok m → reading_of Specimen 1 s ≡ refused k i p → specimen_reading P s ≡ refused k i p → X)
      → ((m n : ℕ) → pairs_reading P ≡ Ok m → reading_of Specimen 1 s ≡ Ok n → lowest_clash P s ≢ 0
      → specimen_reading P s ≡ refused Clash 1 (lowest_clash P s) → X)
      → ((m n : ℕ) → pairs_reading P ≡ Ok m → reading_of Specimen 1 s ≡ Ok n → lowest_clash P s ≡ 0
      → specimen_reading P s ≡ Ok n → X) → X
  specimen-cases list alone clash none =
      readings-cases (pairs_reading P) (reading_of Specimen 1 s)
      (λ k i p e. list k i p e (list-refused e))
      (λ m k i p e f. alone m k i p e f (specimen-refused e f))
      (λ m n e f. eq-cases (lowest_clash P s) 0
      (λ z. none m n e f z (none-refused e f z))
      (λ z. clash m n e f z (clash-refused e f z)))

-- ---- a list of no pairs

module _ (P : List ℕ) (empty : pair_count P ≡ 0) where
  never-excludes : (p q : ℕ) → excludes_in P p q ≡ false
  unfolding excludes_in all
  never-excludes p q = rw (excludes_in, empty)

  never-partner : (o p : ℕ) (e : Entry) → partner_of P o p e ≡ false
  never-partner o p e = rw (never-excludes e.name p, and_zero (eqb o e.owner)) (and_zero (gives_property e))

  pub never-completes : (es : List Entry) (n : ℕ) → completes P es n ≡ false
  unfolding completes
  never-completes es n =
      rw (one-never (partner_of P (owner_of es n) (nth es n).name) es _ (never-partner (owner_of es n) (nth es n).name)) (and_zero (gives_property (nth es n)))

-- nothing more is refused than without a list
pub none-listed : (P s : List ℕ) {m : ℕ} → pairs_reading P ≡ Ok m → m ≡ 0 → specimen_reading P s ≡ reading_of Specimen 1 s
unfolding pair_count
none-listed P s e z =
    let R = pairs-right P e in
    let empty : pair_count P ≡ 0 = omega (arith, R.whole) in
    reading-cases (reading_of Specimen 1 s)
    (λ k i p f. specimen-refused P s e f ∙ sym f)
    (λ n f. none-refused P s e f (none_first (apart_ok P (entries_of s)) 1 _ (λ j lo hi. not-to-true (never-completes P empty (entries_of s) j))) ∙ sym f)

-- [S11] an empty list is none
pub empty-reading : (s : List ℕ) → specimen_reading [] s ≡ reading_of Specimen 1 s
empty-reading s = none-listed [] s (right-pairs [] {n = 0} (record { whole = refl; few = omega arith; right = λ i lo hi. absurd (omega arith) })) refl
