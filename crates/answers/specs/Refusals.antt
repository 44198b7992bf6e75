-- Why each call that takes a dictionary refuses, row by row in the order in which the rows are looked for: each asks that nothing before it is
-- refused.
-- Assumes nothing.
use Rattle.std.specs.Prelude.{◌%◌, ◌+◌, ◌<◌, ◌≤◌, ℕ, get_or, length, take, false, true, List, [], map, ◌≢◌, ◌⊎◌, ◌≡◌}
use Rattle.blocks.specs.Entries.{entries_of, form_ok, is_named, nth}
use Rattle.blocks.specs.Faults.{Fault, block_faults, entry_rows, faults, length_wrong}
use Rattle.blocks.specs.Frame.{blocks_in, plain}
use Rattle.blocks.specs.Promise.{FirstOf, NoneApplies}
use Rattle.blocks.specs.declared.Cause.TheVariants.{Count, Length, Room}
use Rattle.blocks.specs.declared.Cause.{Cause}
use Rattle.blocks.specs.declared.Entry.{Entry}
use Rattle.blocks.specs.declared.Schema.TheVariants.{Named}
use Rattle.clashes.specs.Clash.{specimen_faults}
use Rattle.lists.specs.Parts.{parts_of}
use Rattle.names.specs.NamedReading.{dictionary_of, named_faults, plain_of, too_large}
use Rattle.names.specs.Unfold.{unfolded_by}
use Rattle.pairs.specs.Pairs.{pair_faults}

-- ---- a description under a dictionary

-- [R13] [R24] 13, a name that may not be given, after 4 at its entry: no line before that of the name applies, and
-- whether 5, 6 or a later line does is not looked at
pub record NameRefused (K : List (List Entry)) (s : List ℕ) (p : ℕ) : Type 0 where
  pub whole : length_wrong (Named (length K)) s ≡ false
  pub blocks : NoneApplies (block_faults plain s (blocks_in s) 0 (blocks_in s))
  pub from : 1 ≤ p
  pub to : p ≤ length (entries_of s)
  pub before : (j : ℕ) → 1 ≤ j → j < p → NoneApplies (entry_rows (Named (length K)) (entries_of s) j)
  pub form : form_ok (Named (length K)) (nth (entries_of s) p) ≡ true
  pub named : is_named (nth (entries_of s) p) ≡ true
  pub wrong : ((nth (entries_of s) p).name ≡ 0) ⊎ (length K < (nth (entries_of s) p).name)

-- [R14] [R24] 14, too large once unfolded, after the input's other checks
pub record SizeRefused (K : List (List Entry)) (s : List ℕ) : Type 0 where
  pub others : NoneApplies (faults (Named (length K)) s)
  pub large : too_large (unfolded_by K (entries_of s)) ≡ true

-- ---- a dictionary

-- the lines of the description of a dictionary that has n before it, under those: [D4] names go to earlier
-- descriptions only
abbrev pub part_faults : List ℕ → ℕ → List Fault
part_faults D n = named_faults (map entries_of (take n (parts_of D))) (get_or (parts_of D) n [])

-- the first description that is refused: [D2] the n-th description is input 100 + n
pub record FirstRefused (D : List ℕ) (k : Cause) (i p : ℕ) : Type 0 where
  pub before : ℕ
  pub there : before < length (parts_of D)
  pub input : i ≡ 101 + before
  pub accepted : (m : ℕ) → m < before → NoneApplies (part_faults D m)
  pub first : FirstOf (part_faults D before) k p

-- why a dictionary is refused: [D2] [R25] input 100, before the inputs
pub data DictionaryRefused (D : List ℕ) : Cause → ℕ → ℕ → Type 0 where
  -- 1, no multiple of 512 [D2]; a dictionary of length 0 has no descriptions [D1]
  broken : length D % 512 ≢ 0 → DictionaryRefused D Length 100 0
  -- 8, more than 64 [R8]
  many : length D % 512 ≡ 0 → 64 < length (parts_of D) → DictionaryRefused D Count 100 0
  -- then its descriptions, each in full before the next
  part : {k : Cause} {i p : ℕ} → length D % 512 ≡ 0 → length (parts_of D) ≤ 64 → FirstRefused D k i p → DictionaryRefused D k i p

-- and when it is not
pub record DictionaryTaken (D : List ℕ) : Type 0 where
  pub whole : length D % 512 ≡ 0
  pub few : length (parts_of D) ≤ 64
  pub each : (m : ℕ) → m < length (parts_of D) → NoneApplies (part_faults D m)

-- ---- the calls

-- [D11] accepted with a dictionary: by the lines of both
pub record AcceptedBy (D s : List ℕ) : Type 0 where
  pub dictionary : DictionaryTaken D
  pub description : NoneApplies (named_faults (dictionary_of D) s)

-- unfolding: it takes no list of pairs, and the output is measured by what would be written
pub data UnfoldRefused (D d out : List ℕ) : Cause → ℕ → ℕ → Type 0 where
  dictionary : {k : Cause} {i p : ℕ} → DictionaryRefused D k i p → UnfoldRefused D d out k i p
  input : {k : Cause} {p : ℕ} → DictionaryTaken D → FirstOf (named_faults (dictionary_of D) d) k p → UnfoldRefused D d out k 1 p
  short : AcceptedBy D d → length out < length (plain_of D d) → UnfoldRefused D d out Room 0 0

-- the normal form
pub data NormalRefused (P D d out : List ℕ) : Cause → ℕ → ℕ → Type 0 where
  -- [R25] 11 before all else
  list : {k : Cause} {p : ℕ} → FirstOf (pair_faults P) k p → NormalRefused P D d out k 0 p
  -- [R25] the dictionary before the inputs
  dictionary : {k : Cause} {i p : ℕ} → NoneApplies (pair_faults P) → DictionaryRefused D k i p → NormalRefused P D d out k i p
  -- [R25] input 1 first, with 13 after 4 and 14 last [R24]
  input : {k : Cause} {p : ℕ} → NoneApplies (pair_faults P) → DictionaryTaken D → FirstOf (named_faults (dictionary_of D) d) k p
      → NormalRefused P D d out k 1 p
  -- [R25] 7 last: the output is measured by the unfolded input
  short : NoneApplies (pair_faults P) → AcceptedBy D d → length out < length (plain_of D d) → NormalRefused P D d out Room 0 0

-- the comparison
pub data ComparisonRefused (P D c d out : List ℕ) : Cause → ℕ → ℕ → Type 0 where
  list : {k : Cause} {p : ℕ} → FirstOf (pair_faults P) k p → ComparisonRefused P D c d out k 0 p
  dictionary : {k : Cause} {i p : ℕ} → NoneApplies (pair_faults P) → DictionaryRefused D k i p → ComparisonRefused P D c d out k i p
  -- [R25] input 1, then input 2
  first : {k : Cause} {p : ℕ} → NoneApplies (pair_faults P) → DictionaryTaken D → FirstOf (named_faults (dictionary_of D) c) k p
      → ComparisonRefused P D c d out k 1 p
  second : {k : Cause} {p : ℕ} → NoneApplies (pair_faults P) → AcceptedBy D c → FirstOf (named_faults (dictionary_of D) d) k p
      → ComparisonRefused P D c d out k 2 p
  -- [R25] 7 last: the output is measured by the unfolded inputs
  short : NoneApplies (pair_faults P) → AcceptedBy D c → AcceptedBy D d → length out < length (plain_of D c) + length (plain_of D d)
      → ComparisonRefused P D c d out Room 0 0

-- the fit answer: [F10] a specimen, then a description; it has no output
pub data FitRefused (P D s d : List ℕ) : Cause → ℕ → ℕ → Type 0 where
  list : {k : Cause} {p : ℕ} → FirstOf (pair_faults P) k p → FitRefused P D s d k 0 p
  dictionary : {k : Cause} {i p : ℕ} → NoneApplies (pair_faults P) → DictionaryRefused D k i p → FitRefused P D s d k i p
  specimen : {k : Cause} {p : ℕ} → NoneApplies (pair_faults P) → DictionaryTaken D → FirstOf (specimen_faults P s) k p → FitRefused P D s d k 1 p
  description : {k : Cause} {p : ℕ} → NoneApplies (pair_faults P) → DictionaryTaken D → NoneApplies (specimen_faults P s)
      → FirstOf (named_faults (dictionary_of D) d) k p → FitRefused P D s d k 2 p

-- ---- a catalogue

-- the list of services is cut into 1 to 64
pub record ListCut (list : List ℕ) : Type 0 where
  pub some : length list ≢ 0
  pub whole : length list % 512 ≡ 0
  pub few : length (parts_of list) ≤ 64

-- the lines of the service that n others stand before
abbrev pub service_faults : List ℕ → List ℕ → ℕ → List Fault
service_faults D services n = named_faults (dictionary_of D) (get_or (parts_of services) n [])

-- the first service that is refused: as the input that is 1 more than its position, counted from 1
pub record FirstService (D list : List ℕ) (k : Cause) (i p : ℕ) : Type 0 where
  pub before : ℕ
  pub there : before < length (parts_of list)
  pub input : i ≡ 2 + before
  pub accepted : (m : ℕ) → m < before → NoneApplies (service_faults D list m)
  pub first : FirstOf (service_faults D list before) k p

-- and when none is
pub record ServicesTaken (D list : List ℕ) : Type 0 where
  pub cut : ListCut list
  pub each : (m : ℕ) → m < length (parts_of list) → NoneApplies (service_faults D list m)

pub data CatalogueRefused (P D c list out : List ℕ) : Cause → ℕ → ℕ → Type 0 where
  list : {k : Cause} {p : ℕ} → FirstOf (pair_faults P) k p → CatalogueRefused P D c list out k 0 p
  dictionary : {k : Cause} {i p : ℕ} → NoneApplies (pair_faults P) → DictionaryRefused D k i p → CatalogueRefused P D c list out k i p
  -- the supplier's description in full
  supplier : {k : Cause} {p : ℕ} → NoneApplies (pair_faults P) → DictionaryTaken D → FirstOf (named_faults (dictionary_of D) c) k p
      → CatalogueRefused P D c list out k 1 p
  -- then 1 and 8 of the list of services, before any service is looked at
  broken : NoneApplies (pair_faults P) → AcceptedBy D c → (length list ≡ 0) ⊎ (length list % 512 ≢ 0) → CatalogueRefused P D c list out Length 2 0
  many : NoneApplies (pair_faults P) → AcceptedBy D c → length list ≢ 0 → length list % 512 ≡ 0 → 64 < length (parts_of list)
      → CatalogueRefused P D c list out Count 2 0
  -- then the services, each in full before the next
  service : {k : Cause} {i p : ℕ} → NoneApplies (pair_faults P) → AcceptedBy D c → ListCut list → FirstService D list k i p
      → CatalogueRefused P D c list out k i p
  -- and 7 last: the output has fewer bytes than there are services
  short : NoneApplies (pair_faults P) → AcceptedBy D c → ServicesTaken D list → length out < length (parts_of list)
      → CatalogueRefused P D c list out Room 0 0
