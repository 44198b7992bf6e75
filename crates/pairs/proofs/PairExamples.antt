-- Lists of pairs by examples: clay is property 1, sand 2, loam 3.
-- Assumes nothing.
use Prim.Native.Nat.{ℕ}
use lib.ListN.{replicate}
use mathlib.Core.Bool.{false, true}
use mathlib.Core.List.{List, [], ◌∷◌}
use mathlib.Core.Path.{◌≡◌, refl}
use Rattle.base.specs.Range.{all}
use Rattle.blocks.specs.Faults.{first, rows_from}
use Rattle.blocks.specs.Words.{word_at}
use Rattle.std.specs.Prelude.{Ok}
use Rattle.blocks.specs.Refusals.{refused}
use Rattle.pairs.specs.Pairs.{excludes_in, is_pair, list_wrong, one_of, other_of, pair_count, pair_faults, pair_wrong, pairs_reading}
use Rattle.blocks.specs.declared.Cause.TheVariants.{Pairs}

abbrev clay_sand : List ℕ
clay_sand = 1 ∷ 0 ∷ 2 ∷ 0 ∷ []

abbrev clay_sand_loam : List ℕ
clay_sand_loam = 1 ∷ 0 ∷ 2 ∷ 0 ∷ 3 ∷ 0 ∷ 3 ∷ 0 ∷ []

empty-list : pairs_reading [] ≡ Ok 0
unfolding pairs_reading pair_faults list_wrong pair_count rows_from first
empty-list = refl

one-pair : pairs_reading clay_sand ≡ Ok 1
unfolding pairs_reading pair_faults list_wrong pair_count rows_from first pair_wrong one_of other_of word_at
one-pair = refl

-- a property does not exclude itself: the second pair is refused
equal-pair : pairs_reading clay_sand_loam ≡ refused Pairs 0 2
unfolding pairs_reading pair_faults list_wrong pair_count rows_from first pair_wrong one_of other_of word_at
equal-pair = refl

half-pair : pairs_reading (1 ∷ 0 ∷ 2 ∷ []) ≡ refused Pairs 0 0
unfolding pairs_reading pair_faults list_wrong pair_count rows_from first
half-pair = refl

-- 64 pairs are not too many, 65 are: the length is looked at before the pairs
pairs-64 : pairs_reading (replicate 256 1) ≡ refused Pairs 0 1
unfolding pairs_reading pair_faults list_wrong pair_count rows_from first pair_wrong one_of other_of word_at
pairs-64 = refl

pairs-65 : pairs_reading (replicate 260 1) ≡ refused Pairs 0 0
unfolding pairs_reading pair_faults list_wrong pair_count rows_from first
pairs-65 = refl

-- either order, and no other property
clay-excludes-sand : excludes_in clay_sand 1 2 ≡ true
unfolding excludes_in is_pair pair_count all one_of other_of word_at
clay-excludes-sand = refl

sand-excludes-clay : excludes_in clay_sand 2 1 ≡ true
unfolding excludes_in is_pair pair_count all one_of other_of word_at
sand-excludes-clay = refl

clay-with-loam : excludes_in clay_sand 1 3 ≡ false
unfolding excludes_in is_pair pair_count all one_of other_of word_at
clay-with-loam = refl
