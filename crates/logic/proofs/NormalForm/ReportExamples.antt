-- Normal forms of small places, by computing.
-- Assumes nothing.
use lib.Dec.{eqb, leb}
use mathlib.Core.Bool.{◌&&◌, ◌||◌, cond, true}
use mathlib.Core.List.{[]}
use mathlib.Core.Option.{none, some}
use mathlib.Core.Path.{◌≡◌, refl}
use Rattle.logic.specs.Background.{Background, standing}
use Rattle.logic.specs.Holds.{holds, holds_at}
use Rattle.logic.specs.Normal.{add, bottom, excluded, fill, find, insert, is_bottom, nf, put, put_every, remove, remove_every, remove_lacks, sub, within}
use Rattle.logic.specs.Place.{atom, has, lacks, least, most, nothing}
use Rattle.logic.specs.Tree.{end, leaf, node}

-- [C16] an impossible place two links down
gone-below : nf standing (node 1 (node 2 (leaf (atom nothing 0 0) end) (leaf (atom least 2 1) end)) end) ≡ leaf (atom most 1 0) end
unfolding nf add within fill insert put put_every remove remove_every remove_lacks find sub excluded is_bottom
gone-below = refl

-- [C16] more is asked than allowed
too_many : nf standing (leaf (atom least 1 3) (leaf (atom most 1 2) end)) ≡ bottom
unfolding nf add insert put remove find is_bottom
too_many = refl

-- at most 0 that is gained meets an at least: 3,1,1; 5,1 [6]
gained : nf standing (leaf (atom least 1 1) (node 1 (leaf (atom nothing 0 0) end) end)) ≡ bottom
unfolding nf add within fill insert put remove remove_every find sub is_bottom
gained = refl

-- 'every' entries of one link merge, entries ascend, and equal ones become one
merged : nf standing (node 1 (leaf (atom has 9 0) end)
    (leaf (atom lacks 7 0) (node 1 (leaf (atom has 8 0) (leaf (atom has 9 0) end)) (leaf (atom has 5 0) end))))
    ≡ leaf (atom has 5 0) (leaf (atom lacks 7 0) (node 1 (leaf (atom has 8 0) (leaf (atom has 9 0) end)) end))
unfolding nf add within fill insert put put_every remove remove_every remove_lacks find sub excluded is_bottom
merged = refl

-- a background: links from 8 on lead to one item at most, and properties 1 and 2 exclude each other
abbrev strict : Background
strict = record { cap = λ l. cond (leb 8 l) (some 1) none; excludes = λ p q. (eqb p 1 && eqb q 2) || (eqb p 2 && eqb q 1) }

-- [S2] [S3] at least 2 of a single link is impossible, at most 1 or more goes
capped : nf strict (node 1 (leaf (atom least 9 2) end) (leaf (atom most 9 1) (leaf (atom most 7 1) end))) ≡ leaf (atom most 1 0) (leaf (atom most 7 1) end)
unfolding nf add within fill insert put put_every remove remove_every remove_lacks find sub excluded is_bottom
capped = refl

-- [S9] [S10] both properties of a pair are impossible, and the lack that one implies goes
exclusive : nf strict (leaf (atom has 1 0) (leaf (atom has 2 0) end)) ≡ bottom
unfolding nf add insert put remove remove_lacks find excluded is_bottom
exclusive = refl

dropped : nf strict (leaf (atom has 1 0) (leaf (atom lacks 3 0) (leaf (atom lacks 2 0) end))) ≡ leaf (atom has 1 0) (leaf (atom lacks 3 0) end)
unfolding nf add insert put remove remove_lacks find excluded is_bottom
dropped = refl

-- [S10] an implied lack is supported
still-supported : holds strict (leaf (atom has 1 0) end) [] (atom lacks 2 0) ≡ true
unfolding holds holds_at find excluded is_bottom
still-supported = refl
