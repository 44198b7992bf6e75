-- What a first description lacks for a second: the entries of the second that it does not say, and those that are to be
-- added to it.
-- Assumes nothing.
use Rattle.std.specs.Prelude.{◌+◌, ℕ, eqb, leb, length, map, Bool, cond, not, List, ◌++◌}
use Rattle.blocks.specs.declared.Entry.{Entry}
use Rattle.logic.specs.Background.{Background}
use Rattle.meaning.specs.Failing.{failing, normal_of}
use Rattle.meaning.specs.First.{entry_holds}
use Rattle.narrow.specs.Earned.{sayers}
use Rattle.narrow.specs.Keeping.{cut, keep_from, marked, thinned}

-- ---- all entries that fail

-- C does not entail entry n of D
unfoldable pub fails_at : Background → List Entry → List Entry → ℕ → Bool
fails_at b c d n = not (entry_holds b (normal_of b c) d n)

-- entry n of D and its owners, as a description of its own
abbrev pub only : List Entry → ℕ → List Entry
only d n = cut (marked (λ k. eqb k n) d) 0 d

-- ---- what is to be added

-- an entry that stands after k others
abbrev pub shifted : ℕ → Entry → Entry
shifted k e = record {
  kind = e.kind;
  reserved = e.reserved;
  owner = cond (eqb e.owner 0) 0 (k + e.owner);
  name = e.name;
  number = e.number;
}

-- the entries of c followed by those of e: one list, which says what both say
unfoldable pub both : List Entry → List Entry → List Entry
both c e = c ++ map (shifted (length c)) e

-- C, with only these of D's entries added, is contained in D
abbrev pub completes : Background → List Entry → List Entry → (ℕ → Bool) → Bool
completes b c d K = eqb (failing b (both c (thinned K 1 d)) d) 0

-- the entries that are left of D, where each is tried in turn from the last to the first: a minimal addition, which the
-- field calls a solution of an abduction
unfoldable pub lacking : Background → List Entry → List Entry → ℕ → Bool
lacking b c d = keep_from (completes b c d) (length d) (sayers d)

-- and all their owners
unfoldable pub missing : Background → List Entry → List Entry → ℕ → Bool
missing b c d = marked (lacking b c d) d

-- ---- one by one

-- the set F after its turn, K before it: where the numbers above n have had their turn
abbrev pub turning : ℕ → (ℕ → Bool) → (ℕ → Bool) → ℕ → Bool
turning n F K k = cond (leb k n) (K k) (F k)
