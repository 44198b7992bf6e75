-- The laws that src/lib.rt lists, each under the name of its function.
-- Assumes nothing.
use Rattle.std.specs.Prelude.{◌≡◌, ℕ, ◌*◌, ◌+◌, ◌%◌, ◌<◌, ◌≤◌, true, false, List, [], length, None, Ok, ◌≢◌, ◌↔◌, ◌⊎◌}
use Rattle.std.proofs.Math.Option.{none, some}
use mathlib.Core.List.{Memᴰ}
use Rattle.answers.specs.NarrowestExamples as joins
use Rattle.answers.specs.Narrowest.{SevenDue, both_bytes, narrowest_bytes, narrowest_with}
use Rattle.answers.specs.Promise.{Admitted, SameItemsNamed, normal_bytes, unfolded_list}
use Rattle.answers.specs.Refusals.{AcceptedBy, NameRefused, ServicesTaken, SizeRefused}
use Rattle.base.specs.Ascending.{Sorted}
use Rattle.base.specs.Exchange.{difference}
use Rattle.blocks.proofs.Format.WordBytes.{Bytes}
use Rattle.blocks.specs.Encoding.{encode, first_blocks}
use Rattle.blocks.specs.Entries.{entries_of, limit_of}
use Rattle.blocks.specs.Exchange.{EntriesExchanged, entry_words}
use Rattle.blocks.specs.Frame.{blocks_in, plain, used_in}
use Rattle.blocks.specs.Promise.{Further, Legal, NoneApplies}
use Rattle.blocks.specs.Reading.{reading_of}
use Rattle.blocks.specs.Reading as read
use Rattle.blocks.specs.Refusals.{number_of, refused}
use Rattle.blocks.specs.declared.Cause.{Cause}
use Rattle.blocks.specs.declared.Entry.{Entry}
use Rattle.blocks.specs.Faults.{faults}
use Rattle.blocks.specs.declared.Schema.TheVariants.{Description, Specimen}
use Rattle.blocks.specs.declared.Schema.{Schema}
use Rattle.catalogue.specs.Answer.{catalogue_of, filled_of}
use Rattle.clashes.specs.Clash.{specimen_reading}
use Rattle.clashes.specs.Promise.{LowestClash}
use Rattle.compare.specs.Answer as comparison
use Rattle.compare.specs.Answer.{compare_of, compare_under, not_contained, output_of, output_under}
use Rattle.compare.specs.Promise as compare
use Rattle.fit.specs.Answer as fit
use Rattle.fit.specs.Answer.{fit_of, plain_fit}
use Rattle.fit.specs.Promise.{Shows}
use Rattle.lists.specs.Parts.{parts_of}
use Rattle.logic.specs.Background.{Keeps, standing}
use Rattle.logic.specs.Record.{Record, fits}
use Rattle.meaning.specs.Description.{place_of}
use Rattle.meaning.specs.FitExamples.{Case, cases}
use Rattle.meaning.specs.NormalExamples as forms
use Rattle.meaning.specs.RowEntries.{entry_before}
use Rattle.meaning.specs.Rules.{Applies}
use Rattle.meaning.specs.StarredCases as starred
use Rattle.named.specs.Answer.{compare_named, fit_named, narrowed_named, narrowest_named, normalise_named, normalised_named, output_named}
use Rattle.names.specs.NamedReading.{dictionary_reading, named_reading, plain_of}
use Rattle.narrow.specs.Narrowest.{narrowest_entries}
use Rattle.narrow_listed.specs.Listed.{narrowest_under}
use Rattle.narrowest.specs.Answer as narrowest
use Rattle.names.specs.Promise.{Plain}
use Rattle.normal.specs.Answer as normal
use Rattle.normal.specs.Answer.{normalise_of, normalise_under, normalised_of, normalised_under}
use Rattle.normal.specs.Promise as form
use Rattle.normal.specs.Promise.{OwnNormalForm}
use Rattle.pairs.specs.Pairs.{pair_faults, pairs_reading, under}
use Rattle.pairs.specs.Promise.{ListRead}
use Rattle.sheets.specs.Promise.{SheetOfBoth}
use Rattle.sheets.specs.Sheet.{sheet_reading}
use Rattle.unfolding.specs.Answer.{unfold_at}

-- ---- bytes and entries

abbrev pub BytesAndEntries : Type 0
BytesAndEntries =
    ((es : List Entry) → entries_of (encode es) ≡ es)
    × ((σ : Schema) (i n : ℕ) (s : List ℕ) → Bytes s → reading_of σ i s ≡ Ok n → encode (entries_of s) ≡ s)

abbrev pub WrittenIsAccepted : Type 0
WrittenIsAccepted =
    (σ : Schema) (i : ℕ) (es : List Entry) → Legal σ es → Further σ es → length es ≤ 63 * limit_of σ → reading_of σ i (encode es) ≡ Ok (length es)

-- ---- exchanged entries

-- s is accepted, and t is s with the used entries e and e + p of block b exchanged, all counted from 0
abbrev pub Exchanges : (Schema → ℕ → List ℕ → List ℕ → ℕ → ℕ → ℕ → Type 0) → Type 0
Exchanges Law =
    (σ : Schema) (i n : ℕ) (s t : List ℕ) (b e p : ℕ) → reading_of σ i s ≡ Ok n → b < blocks_in s → 1 ≤ p → e + p < used_in s b
    → EntriesExchanged plain s t b e p → Law σ i s t b e p

abbrev pub ExchangeRefused : Type 0
ExchangeRefused =
    Exchanges (λ σ i s t b e p. ((read.returned (reading_of σ i t)).number ≡ 2)
    ↔ ((p * difference (entry_words plain s b e) (entry_words plain s b (e + p))) % 16384 ≢ 0))

abbrev pub ExchangeOtherwise : Type 0
ExchangeOtherwise =
    Exchanges (λ σ i s t b e p. (p * difference (entry_words plain s b e) (entry_words plain s b (e + p))) % 16384 ≡ 0
    → (k : Cause) (j q : ℕ) → reading_of σ i t ≡ refused k j q → 4 ≤ number_of k)

-- ---- field sheets

-- the narrowest description that contains c and d, under no list of pairs
abbrev pub narrowest_of : List ℕ → List ℕ → List Entry
narrowest_of c d = narrowest_entries standing [] (entries_of c) (entries_of d)

-- it is a field sheet where c and d are, some item of some record fits one of them, and one description has room for it
abbrev pub NarrowestOfSheets : Type 0
NarrowestOfSheets =
    (c d : List ℕ) (n m : ℕ) → sheet_reading c ≡ Ok n → sheet_reading d ≡ Ok m → (R : Record) → Keeps standing R → (x : ℕ) → x < R.size
    → (fits R (place_of (entries_of c) 0) x ≡ true) ⊎ (fits R (place_of (entries_of d) 0) x ≡ true)
    → length (narrowest_of c d) ≤ 1008 → sheet_reading (encode (narrowest_of c d)) ≡ Ok (length (narrowest_of c d))

-- By the calls, under any dictionary that is accepted: with at most 16 blocks of both and an output as long nothing is
-- refused, and what is written is read as a field sheet, with the number that was answered, exactly where some item of
-- some record fits at least one.
abbrev pub NarrowestSheetRead : Type 0
NarrowestSheetRead =
    (D c d out : List ℕ) (l n m : ℕ) → dictionary_reading D ≡ Ok l → sheet_reading c ≡ Ok n → sheet_reading d ≡ Ok m
    → length c + length d ≤ 8192 → length c + length d ≤ length out
    → (narrowest_named [] D c d out ≡ Ok (length (narrowest_of c d)))
    × SheetOfBoth c d (narrowest_bytes [] D c d out (length (narrowest_of c d))) (length (narrowest_of c d))

-- ---- the desk's examples

abbrev pub DeskExamples : Type 0
DeskExamples =
    ((l : starred.Line) → Memᴰ l starred.lines → compare.Right [] l)
    × ((l : forms.Line) → Memᴰ l forms.lines → form.Right [] l)
    × ((c : Case) → Memᴰ c cases → Shows c)

-- ---- normal forms

abbrev pub RulesLeaveNothingOut : Type 0
RulesLeaveNothingOut =
    (P d : List ℕ) (m i n : ℕ) → pairs_reading P ≡ Ok m → reading_of Description i d ≡ Ok n → Bytes d
    → Sorted entry_before (entries_of d) → ((k : ℕ) → Applies (under P) k (entries_of d) → ⊥) → OwnNormalForm P d

-- whatever the outputs held and however long they are
abbrev pub SameBytesExactly : Type 0
SameBytesExactly =
    (P D c E d out out' : List ℕ) (k k' : ℕ) → normalise_named P D c out ≡ Ok k → normalise_named P E d out' ≡ Ok k'
    → (first_blocks k (normalised_named P D c out) ≡ first_blocks k' (normalised_named P E d out')) ↔ SameItemsNamed P D c E d

-- for every two that are accepted, and outputs as long as they are once unfolded
abbrev pub OneSetOfBytes : Type 0
OneSetOfBytes =
    (P D c E d out out' : List ℕ) → ListRead P → Admitted D c → Admitted E d
    → length (plain_of D c) ≤ length out → length (plain_of E d) ≤ length out'
    → (normal_bytes P D c out ≡ normal_bytes P E d out') ↔ SameItemsNamed P D c E d

abbrev pub SameBytesContained : Type 0
SameBytesContained =
    (P D c d out out' o o' : List ℕ) (k k' : ℕ) → normalise_named P D c out ≡ Ok k → normalise_named P D d out' ≡ Ok k'
    → length (plain_of D c) + length (plain_of D d) ≤ length o → length (plain_of D d) + length (plain_of D c) ≤ length o'
    → (first_blocks k (normalised_named P D c out) ≡ first_blocks k' (normalised_named P D d out'))
    ↔ ((compare_named P D c d o ≡ Ok None) × (compare_named P D d c o' ≡ Ok None))

-- ---- the narrowest description that contains two

-- [G9] without pairs an output as long as both is always long enough, for any two that are accepted with at most 16 blocks together
abbrev pub NarrowestHasRoom : Type 0
NarrowestHasRoom =
    (D a b out : List ℕ) → Admitted D a → Admitted D b → both_bytes D a b ≤ 8192 → both_bytes D a b ≤ length out
    → narrowest_named [] D a b out ≡ Ok (length (narrowest_with [] D a b))

-- the examples compute, whichever description comes first
abbrev pub NarrowestExamples : Type 0
NarrowestExamples = (l : joins.Line) → Memᴰ l joins.lines → joins.Right l

-- ---- the comparison and the fit answer

abbrev pub ContainedFits : Type 0
ContainedFits =
    (P D c d out s : List ℕ) → compare_named P D c d out ≡ Ok None → fit_named P D s c ≡ Ok true → fit_named P D s d ≡ Ok true

-- ---- an empty list of pairs

abbrev pub EmptyListAsBefore : Type 0
EmptyListAsBefore =
    ((s d : List ℕ) → fit_of [] s d ≡ plain_fit s d)
    × ((d out : List ℕ) → (normalise_of [] d out ≡ normalise_under standing d out) × (normalised_of [] d out ≡ normalised_under standing d out))
    × ((c d out : List ℕ) → (compare_of [] c d out ≡ compare_under standing c d out) × (output_of [] c d out ≡ output_under standing c d out))
    × ((a b : List ℕ) → narrowest_under [] a b ≡ narrowest_of a b)

-- ---- names

abbrev pub AsUnfolded : Type 0
AsUnfolded =
    ((P D s d : List ℕ) → Admitted D d → fit_named P D s d ≡ fit_named P [] s (plain_of D d))
    × ((P D d out : List ℕ) → Admitted D d
    → (normalise_named P D d out ≡ normalise_named P [] (plain_of D d) out) × (normalised_named P D d out ≡ normalised_named P [] (plain_of D d) out))
    × ((P D c d out : List ℕ) → Admitted D c → Admitted D d
    → (compare_named P D c d out ≡ compare_named P [] (plain_of D c) (plain_of D d) out)
    × (output_named P D c d out ≡ output_named P [] (plain_of D c) (plain_of D d) out))
    × ((P D c list out : List ℕ) → AcceptedBy D c → ServicesTaken D list
    → (catalogue_of P D c list out ≡ catalogue_of P [] (plain_of D c) (unfolded_list D list) out)
    × (filled_of P D c list out ≡ filled_of P [] (plain_of D c) (unfolded_list D list) out))
    × ((P D a b out : List ℕ) → Admitted D a → Admitted D b
    → (narrowest_named P D a b out ≡ narrowest_named P [] (plain_of D a) (plain_of D b) out)
    × (narrowed_named P D a b out ≡ narrowed_named P [] (plain_of D a) (plain_of D b) out))

abbrev pub WithoutNames : Type 0
WithoutNames =
    ((D s : List ℕ) → Admitted D s → Plain (entries_of s) → Bytes s → plain_of D s ≡ s)
    × ((P D s d : List ℕ) (m i n : ℕ) → dictionary_reading D ≡ Ok m → reading_of Description i d ≡ Ok n → fit_named P D s d ≡ fit_of P s d)
    × ((P D d out : List ℕ) (m i n : ℕ) → dictionary_reading D ≡ Ok m → reading_of Description i d ≡ Ok n
    → (normalise_named P D d out ≡ normalise_of P d out) × (normalised_named P D d out ≡ normalised_of P d out))
    × ((P D c d out : List ℕ) (m i n j l : ℕ) → dictionary_reading D ≡ Ok m → reading_of Description i c ≡ Ok n → reading_of Description j d ≡ Ok l
    → (compare_named P D c d out ≡ compare_of P c d out) × (output_named P D c d out ≡ output_of P c d out))
    × ((P D a b out : List ℕ) (m i n j l : ℕ) → dictionary_reading D ≡ Ok m → reading_of Description i a ≡ Ok n → reading_of Description j b ≡ Ok l
    → (narrowest_named P D a b out ≡ narrowest.narrowest_of P a b out) × (narrowed_named P D a b out ≡ narrowest.narrowed_of P a b out))

-- ---- numbers

abbrev pub SevenLast : Type 0
SevenLast =
    ((P D s d : List ℕ) → (fit.returned (fit_named P D s d)).number ≢ 7)
    × ((P D d out : List ℕ) → ((normal.returned (normalise_named P D d out)).number ≡ 7)
    ↔ (NoneApplies (pair_faults P) × AcceptedBy D d × (length out < length (plain_of D d))))
    × ((P D c d out : List ℕ) → ((comparison.returned (compare_named P D c d out)).number ≡ 7)
    ↔ (NoneApplies (pair_faults P) × AcceptedBy D c × AcceptedBy D d × (length out < length (plain_of D c) + length (plain_of D d))))
    × ((D d out : List ℕ) → ((read.returned (unfold_at D 1 d out)).number ≡ 7) ↔ (AcceptedBy D d × (length out < length (plain_of D d))))
    × ((P D c list out : List ℕ) → ((read.returned (catalogue_of P D c list out)).number ≡ 7)
    ↔ ((NoneApplies (pair_faults P) × (AcceptedBy D c × ServicesTaken D list)) × (length out < length (parts_of list))))
    × ((P D a b out : List ℕ) → ((read.returned (narrowest_named P D a b out)).number ≡ 7) ↔ SevenDue P D a b out)

-- 8 of a dictionary, and of a list of services, which is input 2; 12 of a specimen; 13 and 14 of a description
abbrev pub RowsByNumber : Type 0
RowsByNumber =
    ((D : List ℕ) → ((read.returned (dictionary_reading D)).number ≡ 8) ↔ ((length D % 512 ≡ 0) × (64 < length (parts_of D))))
    × ((P D c list out : List ℕ)
    → (((read.returned (catalogue_of P D c list out)).number ≡ 8) × ((read.returned (catalogue_of P D c list out)).input ≡ 2))
    ↔ ((NoneApplies (pair_faults P) × AcceptedBy D c) × ((length list % 512 ≡ 0) × (64 < length (parts_of list)))))
    × ((P s : List ℕ) → ((read.returned (specimen_reading P s)).number ≡ 12)
    ↔ ((NoneApplies (pair_faults P) × NoneApplies (faults Specimen s))
    × LowestClash P (entries_of s) ((read.returned (specimen_reading P s)).place)))
    × ((K : List (List Entry)) (i : ℕ) (s : List ℕ) → ((read.returned (named_reading K i s)).number ≡ 13)
    ↔ NameRefused K s ((read.returned (named_reading K i s)).place))
    × ((K : List (List Entry)) (i : ℕ) (s : List ℕ) → ((read.returned (named_reading K i s)).number ≡ 14) ↔ SizeRefused K s)

abbrev pub YesAndNo : Type 0
YesAndNo =
    ((P D c d out : List ℕ) → compare_named P D c d out ≡ Ok None
    → comparison.returned (compare_named P D c d out)
    ≡ record { contained = some true; entry = 0; entries = 0; number = 0; input = 0; place = 0 })
    × ((P D c d out : List ℕ) (j k : ℕ) → compare_named P D c d out ≡ not_contained j k
    → comparison.returned (compare_named P D c d out)
    ≡ record { contained = some false; entry = j; entries = k; number = 0; input = 0; place = 0 })
    × ((P D c d out : List ℕ) (k : Cause) (i p : ℕ) → compare_named P D c d out ≡ refused k i p
    → comparison.returned (compare_named P D c d out)
    ≡ record { contained = none; entry = 0; entries = 0; number = number_of k; input = i; place = p })
