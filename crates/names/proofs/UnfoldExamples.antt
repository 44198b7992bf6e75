-- Unfolding by examples.
-- Assumes nothing.
use lib.Dec.{eqb, ltb}
use mathlib.Core.Bool.{cond, false, true}
use mathlib.Core.List.{List, [], ◌∷◌}
use mathlib.Core.Path.{◌≡◌, refl}
use Rattle.blocks.specs.Entries.{entry}
use Rattle.blocks.specs.declared.Entry.{Entry}
use Rattle.logic.specs.Place.{kind_of}
use Rattle.logic.specs.Record.{Record, count, every}
use Rattle.logic.specs.Tree.{tree}
use Rattle.names.specs.Measures.{levels_from, levels_named, levels_nth, size_by, size_named, size_nth}
use Rattle.names.specs.NamedMeaning.{fits_named, fits_nth, fits_place, named_place, named_row}
use Rattle.names.specs.Unfold.{contents, described, in_turn, unfold_from, unfolded, unfolded_by}
use Rattle.names.specs.code.Passes.{inside, kept_by}

-- ---- a name used again [D3]

-- each item by link 1 has property 7, and there are at least 2 by link 2
abbrev sealed_core : List Entry
sealed_core = entry 5 0 1 0 ∷ entry 1 1 7 0 ∷ entry 3 0 2 2 ∷ []

-- a description that names it at the top and below an 'every', with entries of its own around them
abbrev pump : List Entry
pump = entry 9 0 1 0 ∷ entry 5 0 3 0 ∷ entry 1 2 8 0 ∷ entry 9 2 1 0 ∷ entry 2 2 9 0 ∷ []

sealed-twice : unfolded_by (sealed_core ∷ []) pump
    ≡ entry 5 0 1 0 ∷ entry 1 1 7 0 ∷ entry 3 0 2 2 ∷ entry 5 0 3 0 ∷ entry 1 4 8 0
    ∷ entry 5 4 1 0 ∷ entry 1 6 7 0 ∷ entry 3 4 2 2 ∷ entry 2 4 9 0 ∷ []
unfolding unfolded_by contents in_turn unfolded unfold_from
sealed-twice = refl

-- its 5 entries are 9, on 3 levels, of which it shows 2
sealed-size : size_named (sealed_core ∷ []) pump ≡ 9
unfolding size_named size_nth in_turn size_by
sealed-size = refl

sealed-levels : levels_named (sealed_core ∷ []) pump ≡ 3
unfolding levels_named levels_nth in_turn levels_from
sealed-levels = refl

-- item 0 is linked by link 2 to items 1 and 2, and by link 1 to item 1, which has property 7
abbrev works : Record
works = record { size = 3; property = λ p i. eqb i 1; link = λ l i j. cond (eqb i 0) (cond (eqb l 1) (eqb j 1) (cond (eqb l 2) (ltb 0 j) false)) false }

-- it fits what the name stands for, and item 1 does not
sealed-fits : fits_named works (sealed_core ∷ []) (entry 9 0 1 0 ∷ []) 0 ≡ true
unfolding fits_named fits_nth in_turn fits_place named_place named_row tree kind_of count every
sealed-fits = refl

sealed-fails : fits_named works (sealed_core ∷ []) (entry 9 0 1 0 ∷ []) 1 ≡ false
unfolding fits_named fits_nth in_turn fits_place named_place named_row tree kind_of count every
sealed-fails = refl

-- ---- names of nothing

-- a chain of descriptions that stand for nothing
abbrev nothings : List (List Entry)
nothings = [] ∷ (entry 9 0 1 0 ∷ entry 9 0 1 0 ∷ []) ∷ (entry 9 0 2 0 ∷ entry 9 0 1 0 ∷ []) ∷ []

-- each name goes, and the entries after it move up
empty-chain : unfolded_by nothings (entry 9 0 3 0 ∷ entry 5 0 1 0 ∷ entry 9 2 3 0 ∷ entry 1 2 7 0 ∷ entry 9 0 2 0 ∷ [])
    ≡ entry 5 0 1 0 ∷ entry 1 1 7 0 ∷ []
unfolding unfolded_by contents in_turn unfolded unfold_from
empty-chain = refl

-- it adds no level, however deep it is named
empty-levels : levels_named nothings (entry 5 0 1 0 ∷ entry 5 1 1 0 ∷ entry 9 2 3 0 ∷ []) ≡ 2
unfolding levels_named levels_nth in_turn levels_from
empty-levels = refl

-- a name past the end of the dictionary, which 13 refuses, stands for nothing
past_the_end : unfolded_by [] (entry 9 0 1 0 ∷ entry 1 0 7 0 ∷ []) ≡ entry 1 0 7 0 ∷ []
unfolding unfolded_by contents in_turn unfolded unfold_from
past_the_end = refl

-- ---- a description that names an earlier one, below its own 'every' and at its top

abbrev nested : List (List Entry)
nested = (entry 1 0 7 0 ∷ []) ∷ (entry 5 0 2 0 ∷ entry 9 1 1 0 ∷ entry 9 0 1 0 ∷ []) ∷ []

-- named inside an 'every' and at the top: what its own 'every' owns is moved with it
inside-every : unfolded_by nested (entry 5 0 1 0 ∷ entry 9 1 2 0 ∷ entry 9 0 2 0 ∷ [])
    ≡ entry 5 0 1 0 ∷ entry 5 1 2 0 ∷ entry 1 2 7 0 ∷ entry 1 1 7 0 ∷ entry 5 0 2 0 ∷ entry 1 5 7 0 ∷ entry 1 0 7 0 ∷ []
unfolding unfolded_by contents in_turn unfolded unfold_from
inside-every = refl

-- the first pass puts in both, with names of the first description, the second leaves none
nested-first : unfolded (inside nested) (entry 5 0 1 0 ∷ entry 9 1 2 0 ∷ entry 9 0 1 0 ∷ [])
    ≡ entry 5 0 1 0 ∷ entry 5 1 2 0 ∷ entry 9 2 1 0 ∷ entry 9 1 1 0 ∷ entry 1 0 7 0 ∷ []
unfolding kept_by size_nth described in_turn size_by unfolded unfold_from
nested-first = refl

nested-second : unfolded (inside nested) (entry 5 0 1 0 ∷ entry 5 1 2 0 ∷ entry 9 2 1 0 ∷ entry 9 1 1 0 ∷ entry 1 0 7 0 ∷ [])
    ≡ entry 5 0 1 0 ∷ entry 5 1 2 0 ∷ entry 1 2 7 0 ∷ entry 1 1 7 0 ∷ entry 1 0 7 0 ∷ []
unfolding kept_by size_nth described in_turn size_by unfolded unfold_from
nested-second = refl
