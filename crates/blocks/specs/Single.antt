-- Number 9 of the table of refusals: groups by a link that leads to one item only.
-- Assumes nothing.
use Rattle.std.specs.Prelude.{ℕ, suc, Bool, cond, not, ◌&&◌, List, ◌==◌, nat_lt}
use Rattle.base.specs.Links.{is_single}
use Rattle.base.specs.Range.{sum}
use Rattle.blocks.specs.Entries.{nth}
use Rattle.blocks.specs.Owners.{owner_of}
use Rattle.blocks.specs.declared.Entry.{Entry}

-- [F6] a group has as many items as it counts: what an entry adds to the items of owner o by link l. The count is
-- stored less 1.
abbrev pub items_for : ℕ → ℕ → Entry → ℕ
items_for o l e = cond (e.kind == 7 && (o == e.owner && l == e.name)) (suc e.number) 0

-- [F9] groups of one owner and link add up: the items of owner o by link l that the entries up to and with entry n
-- bring
unfoldable pub items_up_to : List Entry → ℕ → ℕ → ℕ → ℕ
items_up_to es o l n = sum (λ i. items_for o l (nth es (suc i))) n

-- an entry is a group by a link that leads to one item only
abbrev pub single_group : Entry → Bool
single_group e = e.kind == 7 && is_single e.name

-- the contrary of [R9], a group that brings its owner a second item by a single link
unfoldable pub single_ok : List Entry → ℕ → Bool
single_ok es n = not (single_group (nth es n) && nat_lt 1 (items_up_to es (owner_of es n) (nth es n).name n))
