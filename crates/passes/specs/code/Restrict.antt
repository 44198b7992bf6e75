-- The slots of a description under a background: what the records that keep it say already is dropped, and what none of them allows
-- is broken. A pass between the first and the second.
-- Assumes nothing.
use Rattle.std.specs.Prelude.{ℕ, eqb, Bool, ◌&&◌, ◌||◌, cond, false, not, true, List, [], ◌∷◌}
use Rattle.std.proofs.Math.Option.{Option, none, some}
use Rattle.logic.specs.Background.{Background}
use Rattle.logic.specs.Normal.{at_most, under}
use Rattle.logic.specs.Place.{Atom}
use Rattle.logic.specs.Tree.{Row}
use Rattle.passes.specs.code.Slots.{Slot, same_key, slot, slots}

-- place v has property q
unfoldable pub has_at : List Slot → ℕ → ℕ → Bool
has_at [] v q = false
has_at (slot u d n lo hi ∷ ss) v q = (same_key u d n v false q && not (eqb lo 0)) || has_at ss v q

-- some property that place v has excludes p
unfoldable pub excluded_at : Background → List Slot → ℕ → ℕ → Bool
excluded_at b [] v p = false
excluded_at b (slot u d n lo hi ∷ ss) v p =
    (eqb v u && (not d && (not (eqb lo 0) && b.excludes n p))) || excluded_at b ss v p

-- an upper bound that a cap says already
abbrev pub idle : Option ℕ → Option ℕ → Bool
idle cap none = false
idle cap (some m) = at_most m cap

-- The upper bound of a slot. Of a link: 0 where more are asked for than the cap allows, none where the cap says it. Of a property
-- that is excluded: none, since its lack is implied; but 0, so that nothing meets the slot, where it is asked for.
abbrev pub restricted_high : Background → Bool → Bool → ℕ → ℕ → Option ℕ → Option ℕ
restricted_high b true x n lo hi = cond (under lo (b.cap n)) (some 0) (cond (idle (b.cap n) hi) none hi)
restricted_high b false x n lo hi = cond x (cond (eqb lo 0) none (some 0)) hi

unfoldable pub restrict_by : Background → (ℕ → ℕ → Bool) → List Slot → List Slot
restrict_by b x [] = []
restrict_by b x (slot u d n lo hi ∷ ss) = slot u d n lo (restricted_high b d (x u n) n lo hi) ∷ restrict_by b x ss

unfoldable pub restrict : Background → List Slot → List Slot
restrict b ss = restrict_by b (excluded_at b ss) ss

-- the slots of a description under a background
unfoldable pub slots_under : Background → List (Row Atom ℕ) → List Slot
slots_under b rs = restrict b (slots rs)
