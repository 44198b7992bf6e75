-- A delivered record: what its entries say of its items.
-- Assumes nothing.
use Rattle.std.specs.Prelude.{ℕ, suc, ◌&&◌, Bool, List, eqb}
use Rattle.std.specs.List.{list_any}
use Rattle.blocks.specs.declared.Entry.{Entry}
use Rattle.logic.specs.Record.{Record}

-- [J1] kind 1 gives its owner a property. Items are numbered from 1 on in a record and from 0 on here: item x has number
-- x + 1.
abbrev pub gives : ℕ → ℕ → Entry → Bool
gives p x e = eqb e.kind 1 && (eqb e.owner (suc x) && eqb e.name p)

-- [J1] kind 8 links its owner by its name to the item of its number
abbrev pub links : ℕ → ℕ → ℕ → Entry → Bool
links l x y e = eqb e.kind 8 && (eqb e.owner (suc x) && (eqb e.name l && eqb e.number (suc y)))

-- [J2] the items are 1 to a total, those of which no entry says anything too; [J3] what is said twice counts once: the
-- record has a property, or a link between two items, or has it not
unfoldable pub delivered_record : ℕ → List Entry → Record
delivered_record total es =
    record { size = total; property = λ p x. list_any (gives p x) es; link = λ l x y. list_any (links l x y) es }
