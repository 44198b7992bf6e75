-- The answer of ranking a list of services, and the output that it leaves.
-- Assumes nothing.
use Rattle.std.specs.Prelude.{ℕ, ◌+◌, ◌*◌, ltb, drop, get_or, length, cond, Bool, List, [], ◌++◌, Ok, Err}
use Rattle.base.proofs.Lists.{listed}
use Rattle.base.specs.Range.{bit}
use Rattle.blocks.specs.Encoding.{joined}
use Rattle.blocks.specs.Entries.{entries_of}
use Rattle.blocks.specs.Reading.{Reading}
use Rattle.blocks.specs.Refusals.{refused, unless_refused}
use Rattle.blocks.specs.declared.Cause.TheVariants.{Room}
use Rattle.blocks.specs.declared.Entry.{Entry}
use Rattle.lists.specs.Parts.{parts_of}
use Rattle.meaning.specs.Hierarchy.{class_of, direct, within}
use Rattle.pairs.specs.Pairs.{under}
use Rattle.slots.specs.Containment.{table_reading}

-- the entries of a service, by its position counted from 0
abbrev pub service_entries : List ℕ → ℕ → List Entry
service_entries list i = entries_of (get_or (parts_of list) i [])

-- service i of the list is contained in service j, where records keep the pairs
abbrev pub contains : List ℕ → List ℕ → ℕ → ℕ → Bool
contains P list = within (under P) (service_entries list)

-- [H1] n rows of n bytes, 1 where f holds of row and column, else 0
unfoldable pub square_rows : (ℕ → ℕ → Bool) → ℕ → List (List ℕ)
square_rows f n = listed (λ i. listed (λ j. bit (f i j)) 0 n) 0 n

-- what is written for n services that are contained in each other as t says: the table, the direct superiors, the classes
unfoldable pub ranks : (ℕ → ℕ → Bool) → ℕ → List ℕ
ranks t n = joined (square_rows t n) ++ (joined (square_rows (direct t n) n) ++ listed (class_of t n) 0 n)

-- how many bytes these are
abbrev pub hierarchy_size : ℕ → ℕ
hierarchy_size n = 2 * (n * n) + n

-- [H6] the refusals of the pairs, the list and its services; then an output that is too short; else the number of
-- bytes written
unfoldable pub hierarchy_of : List ℕ → List ℕ → List ℕ → Reading
hierarchy_of P list out =
    unless_refused Err (table_reading P list)
    (cond (ltb (length out) (hierarchy_size (length (parts_of list)))) (refused Room 0 0) (Ok (hierarchy_size (length (parts_of list)))))

-- the output: a refusal leaves it, and else later bytes stay
unfoldable pub ranked_of : List ℕ → List ℕ → List ℕ → List ℕ
ranked_of P list out =
    unless_refused (λ e. out) (hierarchy_of P list out)
    (ranks (contains P list) (length (parts_of list)) ++ drop (hierarchy_size (length (parts_of list))) out)
