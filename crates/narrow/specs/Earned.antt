-- The entries of a first description that earn it a yes.
-- Assumes nothing.
use Rattle.std.specs.Prelude.{ℕ, eqb, length, Bool, not, List}
use Rattle.blocks.specs.Entries.{nth}
use Rattle.blocks.specs.declared.Entry.{Entry}
use Rattle.logic.specs.Background.{Background}
use Rattle.meaning.specs.Failing.{failing}
use Rattle.narrow.specs.Keeping.{keep_from, marked, thinned}

-- C, of which only these entries say anything, is contained in D: none of D's entries fails
abbrev pub suffices : Background → List Entry → List Entry → (ℕ → Bool) → Bool
suffices b c d K = eqb (failing b (thinned K 1 c) d) 0

-- the entries that may be left out: all but 'every' entries, which go with what they own
abbrev pub sayers : List Entry → ℕ → Bool
sayers c n = not (eqb (nth c n).kind 5)

-- the entries that are left, where each is tried in turn from the last to the first: a minimal set that still has the
-- consequence, which the field calls a justification
unfoldable pub earners : Background → List Entry → List Entry → ℕ → Bool
earners b c d = keep_from (suffices b c d) (length c) (sayers c)

-- and all their owners
unfoldable pub earned : Background → List Entry → List Entry → ℕ → Bool
earned b c d = marked (earners b c d) c
