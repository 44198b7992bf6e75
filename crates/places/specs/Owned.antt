-- The entries of each place of a description, one after another. A place is named by the entry that owns it, the top by 0.
-- Assumes nothing.
use Rattle.std.specs.Prelude.{ℕ, suc, ◌-◌, cond, eqb, not, List, length, nat_lt, Ok, Err}
use Rattle.base.specs.Search.{first_from}
use Rattle.blocks.specs.Owners.{owner_of}
use Rattle.blocks.specs.Reading.{Reading}
use Rattle.blocks.specs.Refusals.{refused}
use Rattle.blocks.specs.declared.Cause.TheVariants.{Room}
use Rattle.blocks.specs.declared.Entry.{Entry}

-- the first entry after n that o owns; 0 if there is none
unfoldable pub owned_after : List Entry → ℕ → ℕ → ℕ
owned_after es o n = first_from (λ k. not (eqb (owner_of es k) o)) (suc n) (length es - n)

-- the next entry of the place of entry n; 0 if there is none, and where n is no entry
unfoldable pub next_of : List Entry → ℕ → ℕ
next_of es n = cond (eqb n 0) 0 (owned_after es (owner_of es n) n)

-- a reading for which there are tables of N cells: entries have the cells from 1 on
abbrev pub with_room : ℕ → Reading → Reading
with_room N (Err x) = Err x
with_room N (Ok n) = cond (nat_lt n N) (Ok n) (refused Room 0 0)
