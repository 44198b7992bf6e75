-- Number 12 of the table of refusals, and what reading a specimen under a list of pairs answers.
-- Assumes nothing.
use Rattle.std.specs.Prelude.{◌-◌, suc, zero, ℕ, eqb, length, Bool, ◌&&◌, ◌||◌, false, List, [], ◌++◌, ◌∷◌, Err}
use Rattle.blocks.specs.Entries.{entries_of, nth}
use Rattle.blocks.specs.Faults.{Fault, fault, faults, first, rows_from}
use Rattle.blocks.specs.Frame.{plain, total_in}
use Rattle.blocks.specs.Owners.{owner_of}
use Rattle.blocks.specs.Reading.{answer, Reading}
use Rattle.blocks.specs.Refusals.{unless_refused}
use Rattle.blocks.specs.declared.Entry.{Entry}
use Rattle.blocks.specs.declared.Schema.TheVariants.{Specimen}
use Rattle.pairs.specs.Pairs.{excludes_in, pairs_reading}
use Rattle.blocks.specs.declared.Cause.TheVariants.{Clash}

-- an entry gives its owner's items a property
abbrev pub gives_property : Entry → Bool
gives_property e = eqb e.kind 1

-- one of the first n entries passes a test
unfoldable pub one_of_first : (Entry → Bool) → List Entry → ℕ → Bool
one_of_first f es zero = false
one_of_first f es (suc n) = f (nth es (suc n)) || one_of_first f es n

-- an entry gives owner o a property that makes a pair with p
abbrev pub partner_of : List ℕ → ℕ → ℕ → Entry → Bool
partner_of P o p e = gives_property e && (eqb o e.owner && excludes_in P e.name p)

-- one of the first n entries does
abbrev pub partner_before : List ℕ → List Entry → ℕ → ℕ → ℕ → Bool
partner_before P es o p n = one_of_first (partner_of P o p) es n

-- number 12, [R12] an item with both properties of a pair, by the entry that completes one [R12]: entry n gives its
-- owner a property, and an earlier entry gives the same owner one that makes a pair with it
unfoldable pub completes : List ℕ → List Entry → ℕ → Bool
completes P es n = gives_property (nth es n) && partner_before P es (owner_of es n) (nth es n).name (n - 1)

-- the line of the table of refusals for entry n
abbrev pub clash_rows : List ℕ → List Entry → ℕ → List Fault
clash_rows P es n = fault (completes P es n) Clash n ∷ []

-- 12, [R12] [S13] at the lowest entry that completes a pair, after the other checks
unfoldable pub specimen_faults : List ℕ → List ℕ → List Fault
specimen_faults P s = faults Specimen s ++ rows_from (clash_rows P (entries_of s)) 1 (length (entries_of s))

-- Reading a specimen as input 1 under a list: [R25] 11 before all else, then the first of that one list of lines that
-- applies
unfoldable pub specimen_reading : List ℕ → List ℕ → Reading
specimen_reading P s = unless_refused Err (pairs_reading P) (answer 1 (total_in plain s) (first (specimen_faults P s)))
