-- The fit answer with the additions that it took: [F13] the table adds each group once, the walk none.
-- Assumes nothing.
use Rattle.std.specs.Prelude.{List, ℕ, length}
use Rattle.blocks.specs.Entries.{entries_of}
use Rattle.blocks.specs.Reading.{reading_of, Reading}
use Rattle.blocks.specs.Refusals.{unless_refused}
use Rattle.blocks.specs.declared.Schema.TheVariants.{Description, Specimen}
use Rattle.fit.specs.Answer.{FitAnswer, plain_fit}
use Rattle.fit.specs.Totals.{groups_up_to}
use Rattle.fit.specs.declared.Counted.{Counted}

-- an answer with so many additions in making the table, and none in the walk
abbrev pub with_table : FitAnswer → ℕ → Counted
with_table a n = record { answer = a; table = n; walk = 0 }

-- the groups of a specimen
abbrev pub groups_in : List ℕ → ℕ
groups_in s = groups_up_to (entries_of s) (length (entries_of s))

-- the additions in making the table, by what reading an input answers: where an input is refused no table is made
abbrev pub unless_stopped : Reading → ℕ → ℕ
unless_stopped r n = unless_refused (λ e. 0) r n

-- where both inputs are accepted each group is added once
unfoldable pub table_adds : List ℕ → List ℕ → ℕ
table_adds s d = unless_stopped (reading_of Specimen 1 s) (unless_stopped (reading_of Description 2 d) (groups_in s))

-- the fit answer, and the additions
abbrev pub counted_of : List ℕ → List ℕ → Counted
counted_of s d = with_table (plain_fit s d) (table_adds s d)
