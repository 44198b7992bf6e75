-- The answer of fitting all items of a delivered record, and the output that it leaves.
-- Assumes nothing.
use Rattle.std.specs.Prelude.{ℕ, ltb, drop, length, cond, List, ◌++◌, Ok, Err}
use Rattle.base.proofs.Lists.{listed}
use Rattle.base.specs.Range.{bit}
use Rattle.blocks.specs.Entries.{entries_of}
use Rattle.blocks.specs.Reading.{Reading}
use Rattle.blocks.specs.Refusals.{refused, unless_refused}
use Rattle.blocks.specs.declared.Cause.TheVariants.{Room}
use Rattle.blocks.specs.declared.Entry.{Entry}
use Rattle.delivered.specs.Reading.{delivered_reading}
use Rattle.delivered.specs.Record.{delivered_record}
use Rattle.logic.specs.Record.{fits}
use Rattle.meaning.specs.Description.{place_of}
use Rattle.names.specs.NamedReading.{dictionary_of, dictionary_reading, named_unfolding, sent_of}
use Rattle.pairs.specs.Pairs.{pairs_reading}

-- [J4] one byte for each of so many items, 1 exactly if it fits what the entries of a description say, in the record that
-- the entries of the delivered record say
unfoldable pub bytes_of : ℕ → List Entry → List Entry → List ℕ
bytes_of total es ds = listed (λ x. bit (fits (delivered_record total es) (place_of ds 0) x)) 0 total

-- [J6] 11, the dictionary, the record as input 1, the description as input 2: how many entries this has once unfolded
unfoldable pub items_reading : List ℕ → List ℕ → ℕ → List ℕ → List ℕ → Reading
items_reading P D total r d =
    unless_refused Err (pairs_reading P)
    (unless_refused Err (dictionary_reading D)
    (unless_refused Err (delivered_reading P total r) (named_unfolding (dictionary_of D) 2 d)))

-- [J6] and then 7, for an output of fewer bytes than there are items; else how many items there are
unfoldable pub items_of : List ℕ → List ℕ → ℕ → List ℕ → List ℕ → List ℕ → Reading
items_of P D total r d out = unless_refused Err (items_reading P D total r d) (cond (ltb (length out) total) (refused Room 0 0) (Ok total))

-- the output: a refusal leaves it, and else later bytes stay [J4]
unfoldable pub marked_of : List ℕ → List ℕ → ℕ → List ℕ → List ℕ → List ℕ → List ℕ
marked_of P D total r d out =
    unless_refused (λ e. out) (items_of P D total r d out) (bytes_of total (entries_of r) (entries_of (sent_of D d)) ++ drop total out)
