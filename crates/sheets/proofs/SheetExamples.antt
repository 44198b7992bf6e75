-- Field sheets by examples: each border of the profile, and which number comes first.
-- Assumes nothing.
use Rattle.std.proofs.Common.{◌≡◌, List, [], ◌∷◌, length, refl}
use Rattle.blocks.specs.Entries.{entry, form_ok, name_ok, nth, number_ok}
use Rattle.blocks.specs.Faults.{Clean, Faulty, Finding, first, rows_from}
use Rattle.blocks.specs.Owners.{chain, depth_of, depth_ok, owner_of, owner_ok}
use Rattle.blocks.specs.declared.Cause.TheVariants.{Form, Owner, Profile}
use Rattle.blocks.specs.declared.Entry.{Entry}
use Rattle.sheets.specs.Sheet.{in_profile, kind_in, sheet_ok, sheet_rows}

-- what is found in a list of entries
abbrev found_in : List Entry → Finding
found_in es = first (rows_from (sheet_rows es) 1 (length es))

-- three links deep: entries 1, 2 and 3
abbrev three : List Entry → List Entry
three es = entry 5 0 1 0 ∷ entry 5 1 1 0 ∷ entry 5 2 1 0 ∷ es

record Examples : Type 0 where
  -- the kinds: has, lacks, at least, at most, 'every', nothing, and a name, which no description has here
  has : found_in (entry 1 0 1 0 ∷ []) ≡ Clean
  lacks : found_in (entry 2 0 1 0 ∷ []) ≡ Faulty Profile 1
  at-least : found_in (entry 3 0 1 99 ∷ []) ≡ Clean
  at-most : found_in (entry 4 0 1 99 ∷ []) ≡ Clean
  every : found_in (entry 5 0 1 0 ∷ []) ≡ Clean
  nothing : found_in (entry 6 0 0 0 ∷ []) ≡ Faulty Profile 1
  name : found_in (entry 9 0 1 0 ∷ []) ≡ Faulty Form 1
  -- the numbers
  hundred-least : found_in (entry 3 0 1 100 ∷ []) ≡ Faulty Profile 1
  hundred-most : found_in (entry 4 0 1 100 ∷ []) ≡ Faulty Profile 1
  one-of-has : found_in (entry 1 0 1 1 ∷ []) ≡ Faulty Form 1
  -- the depths: what entry 3 owns is three links deep, an 'every' among it, and what that one owns is four
  depth-3 : found_in (three (entry 1 3 1 0 ∷ [])) ≡ Clean
  every-at-3 : found_in (three (entry 5 3 1 0 ∷ [])) ≡ Clean
  depth-4 : found_in (three (entry 5 3 1 0 ∷ entry 1 4 1 0 ∷ [])) ≡ Faulty Profile 5
  -- the lowest entry decides, and at one entry any other number
  lowest : found_in (entry 2 0 1 0 ∷ entry 0 0 1 0 ∷ []) ≡ Faulty Profile 1
  after-four : found_in (entry 0 0 1 0 ∷ entry 2 0 1 0 ∷ []) ≡ Faulty Form 1
  owner-first : found_in (entry 2 1 1 0 ∷ []) ≡ Faulty Owner 1

examples : Examples
unfolding first rows_from form_ok name_ok number_ok owner_ok owner_of depth_ok depth_of chain nth sheet_ok in_profile kind_in
examples = record {
  has = refl;
  lacks = refl;
  at-least = refl;
  at-most = refl;
  every = refl;
  nothing = refl;
  name = refl;
  hundred-least = refl;
  hundred-most = refl;
  one-of-has = refl;
  depth-3 = refl;
  every-at-3 = refl;
  depth-4 = refl;
  lowest = refl;
  after-four = refl;
  owner-first = refl;
}
