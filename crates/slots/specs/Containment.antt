-- Which services of a list are contained in which: the refusals in their order, and a table of bytes whose rows are 64 apart.
-- Assumes nothing.
use Rattle.std.specs.Prelude.{suc, ℕ, length, List, [], ◌∷◌, map, Ok, Err}
use Rattle.base.specs.Range.{bit}
use Rattle.base.specs.Stores.{rows_at}
use Rattle.blocks.specs.Reading.{Reading, reading_of}
use Rattle.blocks.specs.Refusals.{unless_refused}
use Rattle.blocks.specs.declared.Schema.TheVariants.{Description}
use Rattle.lists.specs.Parts.{parts_of}
use Rattle.logic.specs.Background.{Background}
use Rattle.pairs.specs.Pairs.{pairs_reading, under}
use Rattle.slots.specs.Catalogue.{cut_reading}
use Rattle.slots.specs.Holding.{failing_in}
use Rattle.std.specs.Prelude.{eqb}

-- ---- the refusals

-- the services as plain descriptions, from input i on, each in full before the next
unfoldable pub plain_services_reading : ℕ → List (List ℕ) → Reading
plain_services_reading i [] = Ok 0
plain_services_reading i (d ∷ ds) = unless_refused Err (reading_of Description i d) (plain_services_reading (suc i) ds)

-- the list, cut before any service is checked, and its services: how many there are
unfoldable pub plain_listed_reading : List ℕ → Reading
plain_listed_reading list =
    unless_refused Err (cut_reading list) (unless_refused Err (plain_services_reading 2 (parts_of list)) (Ok (length (parts_of list))))

-- the pairs before these
unfoldable pub table_reading : List ℕ → List ℕ → Reading
table_reading P list = unless_refused Err (pairs_reading P) (plain_listed_reading list)

-- ---- the bytes

-- 1 where c is contained in d, else 0
unfoldable pub contained_bit : Background → List ℕ → List ℕ → ℕ
contained_bit b c d = bit (eqb (failing_in b c d) 0)

-- a row: c beside each service
unfoldable pub contained_row : Background → List (List ℕ) → List ℕ → List ℕ
contained_row b all c = map (contained_bit b c) all

-- the rows of all services
unfoldable pub contained_rows : Background → List (List ℕ) → List (List ℕ)
contained_rows b all = map (contained_row b all) all

-- a table after all of them; where anything is refused it stays
unfoldable pub table_listed : Background → List ℕ → List ℕ → List ℕ
table_listed b list t = unless_refused (λ e. t) (plain_listed_reading list) (rows_at t 0 (contained_rows b (parts_of list)))

unfoldable pub table_after : List ℕ → List ℕ → List ℕ → List ℕ
table_after P list t = unless_refused (λ e. t) (pairs_reading P) (table_listed (under P) list t)
