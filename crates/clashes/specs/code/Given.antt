-- The properties given so far, by which number 12 is looked for, and the pairs in which they stand. No public promise names them.
-- Assumes nothing.
use Rattle.std.specs.Prelude.{ℕ, ◌<◌, Bool, ◌&&◌, eqb, ltb, not, List, get_or, length}
use Rattle.blocks.specs.code.EntryTable.{owned_as}
use Rattle.blocks.specs.declared.Entry.{Entry}
use Rattle.clashes.specs.Clash.{gives_property, one_of_first}
use Rattle.pairs.specs.code.Index.{bucket_of}
use Rattle.pairs.specs.code.Sides.{Marks, no_sides}
use Rattle.pairs.specs.declared.sides.Sides.{Sides}

-- an entry gives owner o the property p
abbrev pub gives_owner : ℕ → ℕ → Entry → Bool
gives_owner o p e = gives_property e && owned_as o p e

-- one of the first n entries does
abbrev pub given_before : List Entry → ℕ → ℕ → ℕ → Bool
given_before es o p n = one_of_first (gives_owner o p) es n

-- an entry gives an owner below `most` a property of whose bucket the index of the list has one
unfoldable pub counted : List ℕ → ℕ → Entry → Bool
counted index most e = gives_property e && (not (eqb (get_or index (bucket_of e.name) 0) 0) && ltb e.owner most)

-- a table has, for each owner that it has a number for, the bits of the pairs in which the first n entries give it a property
abbrev pub GivenTo : List ℕ → List Entry → ℕ → List Sides → Type 0
GivenTo P es n t = (o : ℕ) → o < length t → Marks P (λ q. given_before es o q n) (get_or t o no_sides)
