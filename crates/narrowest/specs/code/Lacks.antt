-- The lacks of a joined place, as they are found along the entries of the first place.
-- Assumes nothing.
use Rattle.std.specs.Prelude.{◌%◌, ℕ, eqb, Bool, ◌&&◌, cond, not, List, [], ◌++◌, ◌∷◌, map}
use Rattle.std.specs.List.{flat_map}
use Rattle.blocks.specs.declared.Entry.{Entry}
use Rattle.logic.specs.Normal.{supports}
use Rattle.logic.specs.Place.{Place, atom, lacks}
use Rattle.narrow.specs.Join.{implied}
use Rattle.narrowest.specs.code.Pushes.{leaf_numbers}
use Rattle.pairs.specs.Pairs.{under}
use Rattle.pairs.specs.code.Index.{named_count, partners}

-- the second place says the lack too, and no property that both have implies it
abbrev pub lists_lack : List ℕ → Place → Place → ℕ → Bool
lists_lack P t u p = supports (under P) u (atom lacks p 0) && not (implied (under P) p t u)

unfoldable pub lack_if : List ℕ → Place → Place → ℕ → List ℕ
lack_if P t u p = cond (lists_lack P t u p) (p ∷ []) []

-- those that an entry of the first place leads to: a lack that is listed, and what a property excludes
unfoldable pub lacks_of : List ℕ → Place → Place → Entry → List ℕ
lacks_of P t u e =
    cond (eqb e.kind 2) (lack_if P t u e.name) (cond (eqb e.kind 1) (flat_map (lack_if P t u) (partners P e.name (named_count P))) [])

-- of equal neighbours one, where `last` stands before
abbrev pub next_apart : ℕ → ℕ → List ℕ
next_apart last x = cond (eqb x last) [] (x ∷ [])

unfoldable pub apart : ℕ → List ℕ → List ℕ
apart last [] = []
apart last (x ∷ xs) = next_apart last x ++ apart x xs

-- the packed lacks of properties
abbrev pub lack_numbers : ℕ → List ℕ → List ℕ
lack_numbers o ps = leaf_numbers o (map (λ p. atom lacks (p % 65536) 0) ps)
