-- What the promises on the calls that take a dictionary speak of: which items fit a description with names, descriptions that are accepted,
-- containment and sameness with no unfolding in sight, and what each answer says.
-- Assumes nothing.
use Rattle.std.specs.Prelude.{◌*◌, ◌+◌, ◌<◌, ◌≤◌, ℕ, drop, length, map, Bool, false, true, List, [], None, Err, Ok, ◌⊎◌, ◌↔◌, ◌≡◌}
use Rattle.base.specs.Ascending.{Sorted}
use Rattle.blocks.specs.Encoding.{blocks_for, encode, first_blocks, joined}
use Rattle.blocks.specs.Entries.{entries_of}
use Rattle.blocks.specs.Frame.{plain}
use Rattle.blocks.specs.Reading.{Reading, reading_of}
use Rattle.blocks.specs.declared.Schema.TheVariants.{Description}
use Rattle.catalogue.specs.Answer.{filled_of}
use Rattle.catalogue.specs.Promise.{byte_at, service_at}
use Rattle.clashes.specs.Clash.{specimen_reading}
use Rattle.compare.specs.Answer.{not_contained}
use Rattle.lists.specs.Parts.{parts_of}
use Rattle.logic.specs.Background.{Keeps}
use Rattle.logic.specs.Record.{Record, fits}
use Rattle.meaning.specs.Description.{place_of}
use Rattle.meaning.specs.Failing.{specimen_of}
use Rattle.meaning.specs.NormalEntries.{normal_entries}
use Rattle.meaning.specs.Promise.{FirstNotEntailed}
use Rattle.meaning.specs.RowEntries.{entry_before}
use Rattle.meaning.specs.Rules.{Applies}
use Rattle.meaning.specs.Specimen.{record_of}
use Rattle.named.specs.Answer.{compare_named, fit_named, normalise_named, normalised_named, output_named}
use Rattle.names.specs.NamedMeaning.{fits_named}
use Rattle.names.specs.NamedReading.{dictionary_of, plain_of, unfolding_of}
use Rattle.names.specs.Promise.{Plain}
use Rattle.pairs.specs.Pairs.{under}

-- ---- descriptions with names

-- which items of a record fit the description s under the dictionary D, with no unfolding in sight
abbrev pub fits_in : Record → List ℕ → List ℕ → ℕ → Bool
fits_in R D s x = fits_named R (dictionary_of D) (entries_of s) x

-- [D11] accepted with a dictionary: whichever input it is
pub record Admitted (D s : List ℕ) : Type 0 where
  -- how many entries it has once unfolded
  pub entries : ℕ
  pub read : (i : ℕ) → unfolding_of D i s ≡ Ok entries

-- [D7] the unfolded description means the same: one that is accepted, without names, and that the same items fit
pub record StandsFor (D s : List ℕ) (n : ℕ) : Type 0 where
  pub accepted : (i : ℕ) → reading_of Description i (plain_of D s) ≡ Ok n
  pub nameless : Plain (entries_of (plain_of D s))
  pub same : (R : Record) (x : ℕ) → fits R (place_of (entries_of (plain_of D s)) 0) x ≡ fits_in R D s x

-- ---- in every finite record

-- [C7] every item that fits c fits d, in every finite record that keeps the list and the rule on single links; of a
-- service [L8]
abbrev pub ContainedNamed : List ℕ → List ℕ → List ℕ → List ℕ → Type 0
ContainedNamed P D c d = (R : Record) → Keeps (under P) R → (x : ℕ) → x < R.size → fits_in R D c x ≡ true → fits_in R D d x ≡ true

-- [N20] the same items fit both, in every finite record that keeps one list of excluding pairs: c under the
-- dictionary D, d under the dictionary E
abbrev pub SameItemsNamed : List ℕ → List ℕ → List ℕ → List ℕ → List ℕ → Type 0
SameItemsNamed P D c E d = (R : Record) → Keeps (under P) R → (x : ℕ) → x < R.size → fits_in R D c x ≡ fits_in R E d x

-- an item of such a record, which fits c and misses d
pub record CountermodelNamed (P D c d : List ℕ) : Type 0 where
  pub shown : Record
  pub keeps : Keeps (under P) shown
  pub item : ℕ
  pub inside : item < shown.size
  pub fitting : fits_in shown D c item ≡ true
  pub missing : fits_in shown D d item ≡ false

-- ---- the comparison

-- both are accepted, and the output is at least as long as the unfolded ones, by which it is measured [D8]
pub record ComparableNamed (D c d out : List ℕ) : Type 0 where
  pub first : Admitted D c
  pub second : Admitted D d
  pub room : length (plain_of D c) + length (plain_of D d) ≤ length out

-- the answer is 'not contained', with an entry's number and the specimen's number of entries
pub record AnswersNotNamed (P D c d out : List ℕ) : Type 0 where
  pub entry : ℕ
  pub entries : ℕ
  pub answer : compare_named P D c d out ≡ not_contained entry entries

-- What the answer 'not contained', with the numbers j and k, says of the output.
pub record RefutedNamed (P D c d out : List ℕ) (j k : ℕ) : Type 0 where
  -- [D8] entries are counted in what is unfolded: of d unfolded, j is the first entry, apart from 'every' entries,
  -- that c does not say
  pub number : FirstNotEntailed (under P) (place_of (entries_of (plain_of D c)) 0) (entries_of (plain_of D d)) j
  -- the blocks fit the output, and later bytes are unchanged
  pub room : 512 * blocks_for plain k ≤ length out
  pub later : drop (512 * blocks_for plain k) (output_named P D c d out) ≡ drop (512 * blocks_for plain k) out
  -- they are a specimen of k entries, no more than both have together once unfolded, that is accepted under the list
  pub blocks : first_blocks k (output_named P D c d out) ≡ encode (specimen_of (under P) (entries_of (plain_of D c)) (entries_of (plain_of D d)))
  pub accepted : specimen_reading P (first_blocks k (output_named P D c d out)) ≡ Ok k
  pub few : k ≤ length (entries_of (plain_of D c)) + length (entries_of (plain_of D d))
  pub keeps : Keeps (under P) (record_of (entries_of (first_blocks k (output_named P D c d out))))
  pub ascending : Sorted entry_before (entries_of (first_blocks k (output_named P D c d out)))
  -- whose top item fits c and does not fit d, by the fit call with the same list and dictionary
  pub yes : fit_named P D (first_blocks k (output_named P D c d out)) c ≡ Ok true
  pub no : fit_named P D (first_blocks k (output_named P D c d out)) d ≡ Ok false

-- [C7] with names [D14]: one of the two answers, each exactly as the finite records have it, and what each says of
-- the output
pub record DecidedNamed (P D c d out : List ℕ) : Type 0 where
  pub answers : (compare_named P D c d out ≡ Ok None) ⊎ AnswersNotNamed P D c d out
  pub contained : (compare_named P D c d out ≡ Ok None) ↔ ContainedNamed P D c d
  pub unchanged : compare_named P D c d out ≡ Ok None → output_named P D c d out ≡ out
  pub not-contained : AnswersNotNamed P D c d out ↔ CountermodelNamed P D c d
  pub refuted : {j k : ℕ} → compare_named P D c d out ≡ not_contained j k → RefutedNamed P D c d out j k

-- ---- the normal form

-- What the answer that the normal form has k entries says of the output.
pub record NormalisesNamed (P D d out : List ℕ) (k : ℕ) : Type 0 where
  -- the blocks fit the output, are no more than those of the unfolded input, and later bytes are unchanged
  pub room : 512 * blocks_for plain k ≤ length out
  pub shorter : 512 * blocks_for plain k ≤ length (plain_of D d)
  pub later : drop (512 * blocks_for plain k) (normalised_named P D d out) ≡ drop (512 * blocks_for plain k) out
  -- they are a plain description of k entries
  pub blocks : first_blocks k (normalised_named P D d out) ≡ encode (normal_entries (under P) (entries_of (plain_of D d)))
  pub few : k ≤ length (entries_of (plain_of D d))
  pub accepted : (i : ℕ) → reading_of Description i (first_blocks k (normalised_named P D d out)) ≡ Ok k
  pub ascending : Sorted entry_before (entries_of (first_blocks k (normalised_named P D d out)))
  -- no rule applies to its entries
  pub irreducible : (n : ℕ) → Applies (under P) n (entries_of (first_blocks k (normalised_named P D d out))) → ⊥
  -- the same items fit it as the description with names
  pub same : (R : Record) → Keeps (under P) R → (x : ℕ) → x < R.size
      → fits R (place_of (entries_of (first_blocks k (normalised_named P D d out))) 0) x ≡ fits_in R D d x
  -- it is normalised to its own bytes, with the same dictionary, into any output that is as long
  pub again : (out' : List ℕ) → 512 * blocks_for plain k ≤ length out'
      → (normalise_named P D (first_blocks k (normalised_named P D d out)) out' ≡ Ok k)
      × (first_blocks k (normalised_named P D (first_blocks k (normalised_named P D d out)) out') ≡ first_blocks k (normalised_named P D d out))

-- [N21] the bytes of the normal form, which are compared for doubles: those that its entries take from the start of
-- the output
abbrev pub bytes_for : Reading → List ℕ → List ℕ
bytes_for (Ok k) out = first_blocks k out
bytes_for (Err e) out = []

abbrev pub normal_bytes : List ℕ → List ℕ → List ℕ → List ℕ → List ℕ
normal_bytes P D d out = bytes_for (normalise_named P D d out) (normalised_named P D d out)

-- ---- the fit answer

-- the list and the specimen are accepted, and so are the dictionary and the description
pub record JudgeableNamed (P D s d : List ℕ) : Type 0 where
  pub total : ℕ
  pub specimen : specimen_reading P s ≡ Ok total
  pub description : Admitted D d

-- the answer is yes exactly when the specimen's top item fits the description with names, and no otherwise
pub record FitsNamedExactly (P D s d : List ℕ) : Type 0 where
  pub yes : (fit_named P D s d ≡ Ok true) ↔ (fits_in (record_of (entries_of s)) D d 0 ≡ true)
  pub no : (fit_named P D s d ≡ Ok false) ↔ (fits_in (record_of (entries_of s)) D d 0 ≡ false)

-- ---- a catalogue

-- [L4] each byte is the single comparison's: 1 exactly if it answers 'contained', and 0 exactly if 'not contained'
pub record AsCompared (P D c d o : List ℕ) (byte : ℕ) : Type 0 where
  pub contained : (byte ≡ 1) ↔ (compare_named P D c d o ≡ Ok None)
  pub not-contained : (byte ≡ 0) ↔ AnswersNotNamed P D c d o

-- what the byte of the service d says of every record, and that it is the answer of the single comparison
pub record ByteMeans (P D c d : List ℕ) (byte : ℕ) : Type 0 where
  -- 1 exactly if every item that fits c fits d, and 0 exactly if one fits c and misses d
  pub contained : (byte ≡ 1) ↔ ContainedNamed P D c d
  pub missed : (byte ≡ 0) ↔ CountermodelNamed P D c d
  pub compared : (o : List ℕ) → length (plain_of D c) + length (plain_of D d) ≤ length o → AsCompared P D c d o byte

-- What the answer that n bytes are filled says of the output.
pub record Fills (P D c list out : List ℕ) (n : ℕ) : Type 0 where
  -- one byte for each service, from the start of the output, and later bytes are unchanged
  pub count : n ≡ length (parts_of list)
  pub room : n ≤ length out
  pub later : drop n (filled_of P D c list out) ≡ drop n out
  pub each : (i : ℕ) → i < n → ByteMeans P D c (service_at list i) (byte_at P D c list out i)

-- the list of services with each of them unfolded
abbrev pub unfolded_list : List ℕ → List ℕ → List ℕ
unfolded_list D list = joined (map (plain_of D) (parts_of list))
