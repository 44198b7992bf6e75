-- When a normal form says what an entry at a path of links says.
-- Assumes nothing.
use Rattle.std.specs.Prelude.{ℕ, Bool, ◌||◌, List, [], ◌∷◌}
use Rattle.logic.specs.Background.{Background}
use Rattle.logic.specs.Normal.{is_bottom, sub, supports}
use Rattle.logic.specs.Place.{Atom, Place, atom, most}

-- [C3] at most 0 of the next link on the way, or the place supports it
unfoldable pub holds_at : Background → Place → List ℕ → Atom → Bool
holds_at b t [] a = supports b t a
holds_at b t (l ∷ w) a = supports b t (atom most l 0) || holds_at b (sub l t) w a

-- [C3] N is a sole entry of kind 6, or
unfoldable pub holds : Background → Place → List ℕ → Atom → Bool
holds b t w a = is_bottom t || holds_at b t w a
