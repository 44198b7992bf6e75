-- The tags of a place among those of all slots are its cells.
-- Assumes nothing.
use Prim.Native.Nat.{suc, ℕ}
use lib.Dec.{eqb}
use mathlib.Core.List.Memᴰ
use mathlib.Core.List.{List, Memᴰ, [], ◌∷◌}
use mathlib.Core.Logic.{⊎_elim}
use mathlib.Core.Path.{◌≡◌, refl}
use Rattle.base.proofs.Tests.{bool_cases, eqb-eq, eqb-self}
use Rattle.passes.specs.code.Pipeline.{Tag, part, tag, tags}
use Rattle.passes.specs.code.Slots.{Cell, Slot, cells, slot}

pub tags-cells : (k : ℕ) (ss : List Slot) (v : ℕ) → part (tags k ss) v ≡ cells k ss v
unfolding part tags cells
tags-cells k [] v = refl
tags-cells k (slot u b n lo hi ∷ ss) v = rw (tags-cells (suc k) ss v)

-- the tags of a place, and its cells
pub part-tag : (z : List Tag) (v : ℕ) (c : Cell) → Memᴰ c (part z v) → Memᴰ (tag v c) z
unfolding part
part-tag [] v c m = absurd (Memᴰ.not-nil m)
part-tag (tag u d ∷ z) v c m =
    bool_cases (eqb v u)
    (λ q. ⊎_elim
    (λ e. let i : v ≡ u = eqb-eq q in let t : tag v c ≡ tag u d = cc in Memᴰ.head t)
    (λ i. Memᴰ.tail (part-tag z v c i))
    (Memᴰ.cases_cons (rw q at m)))
    (λ q. Memᴰ.tail (part-tag z v c (rw q at m)))

pub tag-part : (z : List Tag) (v : ℕ) (c : Cell) → Memᴰ (tag v c) z → Memᴰ c (part z v)
unfolding part
tag-part [] v c m = absurd (Memᴰ.not-nil m)
tag-part (tag u d ∷ z) v c m =
    ⊎_elim
    (λ e. let i : v ≡ u = cc in let j : c ≡ d = cc in rw (i, eqb-self u) (Memᴰ.head j))
    (λ i. bool_cases (eqb v u) (λ q. rw q (Memᴰ.tail (tag-part z v c i))) (λ q. rw q (tag-part z v c i)))
    (Memᴰ.cases_cons m)
