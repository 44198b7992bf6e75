-- What a place is asked for, as names and numbers. No public promise names these.
-- Assumes nothing.
use Rattle.std.specs.Prelude.{◌<◌, ℕ, eqb, cond, List, [], ◌∷◌, Option, Some, None}
use Rattle.blocks.specs.declared.Property.{Property}
use Rattle.compare.specs.declared.items.Items.{Items}

-- none, or the one that is asked for: a property, the link of items
abbrev pub property_in : Option Property → List ℕ
property_in None = []
property_in (Some p) = p.0 ∷ []

abbrev pub link_in : Option Items → List ℕ
link_in None = []
link_in (Some i) = i.link.0 ∷ []

-- the items that are asked for, if they are of link x
abbrev pub of_link : Option Items → ℕ → Option Items
of_link None x = None
of_link (Some i) x = cond (eqb x i.link.0) (Some i) None

-- how many items of link x are asked for
abbrev pub least_asked : Option Items → ℕ → ℕ
least_asked None x = 0
least_asked (Some i) x = cond (eqb x i.link.0) i.count 0

-- the code of the target that they lead to
abbrev pub code_asked : Option Items → ℕ → ℕ
code_asked None x = 0
code_asked (Some i) x = cond (eqb x i.link.0) i.code 0

-- at most one name, of two bytes
abbrev pub One : List ℕ → Type 0
One [] = Unit {0}
One (x ∷ []) = x < 65536
One (x ∷ y ∷ xs) = ⊥
