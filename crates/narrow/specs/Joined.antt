-- What the narrowest place that contains two others supports, place by place.
-- Assumes nothing.
use Rattle.std.specs.Prelude.{ℕ, ◌&&◌, false, true, ◌≡◌}
use Rattle.logic.specs.Background.{Background}
use Rattle.logic.specs.Normal.{is_end, sub, supports}
use Rattle.logic.specs.Place.{Atom, Place, atom, most}
use Rattle.logic.specs.Tree.{end}

-- j is made of t and u: it supports what both do; below a link of which one side has at most 0 stands the other's place
-- whole; below any other the two places are joined in the same way
pub data Joined (b : Background) : Place → Place → Place → Type 0 where
  joined : {t u j : Place} → ((a : Atom) → supports b j a ≡ supports b t a && supports b u a)
      → ((l : ℕ) → supports b t (atom most l 0) ≡ true → sub l j ≡ sub l u)
      → ((l : ℕ) → supports b u (atom most l 0) ≡ true → sub l j ≡ sub l t)
      → ((l : ℕ) → is_end (sub l t) && is_end (sub l u) ≡ true → sub l j ≡ end)
      → ((l : ℕ) → supports b t (atom most l 0) ≡ false → supports b u (atom most l 0) ≡ false
      → is_end (sub l t) && is_end (sub l u) ≡ false
      → Joined b (sub l t) (sub l u) (sub l j))
      → Joined b t u j
