-- A specimen as a record of items.
-- Assumes nothing.
use Rattle.std.specs.Prelude.{Bool, false, cond, ◌&&◌, ◌||◌, List, [], ◌∷◌, ◌++◌, ℕ, suc, eqb, length, get_or, replicate}
use Rattle.blocks.specs.declared.Entry.{Entry}
use Rattle.logic.specs.Record.{Record}

-- an item: the top, or one of the group that is entry k, whose owner is entry o and whose link is l
pub data Item : Type 0 where
  top : Item
  member : ℕ → ℕ → ℕ → Item

-- the entry whose group an item is in; 0 for the top
abbrev pub group_of : Item → ℕ
group_of top = 0
group_of (member k o l) = k

-- [F6] a group has as many items as it counts: the items of the entries that count from k. The count is stored less
-- 1.
unfoldable pub items : ℕ → List Entry → List Item
items k [] = []
items k (e ∷ es) = cond (eqb e.kind 7) (replicate (suc e.number) (member k e.owner e.name) ++ items (suc k) es) (items (suc k) es)

-- [F6] the top item, and the items of each group
abbrev pub all_items : List Entry → List Item
all_items es = top ∷ items 1 es

-- [F7] each item of the owner is linked to each of the group: item a to item b by link l
abbrev pub linked : ℕ → Item → Item → Bool
linked l a top = false
linked l a (member k o l') = eqb (group_of a) o && eqb l l'

-- [F8] the properties that its group owns, and no others
unfoldable pub owns : ℕ → ℕ → List Entry → Bool
owns g p [] = false
owns g p (e ∷ es) = (eqb e.kind 1 && (eqb g e.owner && eqb p e.name)) || owns g p es

-- the record of a specimen; its top item is item 0
unfoldable pub record_of : List Entry → Record
record_of es =
    record {
      size = length (all_items es);
      property = λ p i. owns (group_of (get_or (all_items es) i top)) p es;
      link = λ l i j. linked l (get_or (all_items es) i top) (get_or (all_items es) j top);
    }
