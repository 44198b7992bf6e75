-- The examples of the narrowest description compute.
-- Assumes nothing.
use mathlib.Core.List.Memᴰ
use mathlib.Core.List.{List, Memᴰ, [], ◌∷◌}
use mathlib.Core.Logic.{⊎_elim}
use mathlib.Core.Path.{refl}
use Rattle.answers.specs.NarrowestExamples.{Line, Right, lines}
use Rattle.base.specs.Ascending.{insert_in, sort}
use Rattle.base.specs.Range.{all}
use Rattle.blocks.specs.Words.{word_at}
use Rattle.logic.specs.Layout.{later, lay, weight, write}
use Rattle.logic.specs.Normal.{add, excluded, fill, find, insert, is_bottom, nf, put, put_every, remove, remove_every, remove_lacks, sub, within}
use Rattle.logic.specs.Place.{kind_of}
use Rattle.logic.specs.Tree.{tree}
use Rattle.logic.specs.Witness.{member, names, once, put_ascending}
use Rattle.meaning.specs.Description.{place_of, row_of}
use Rattle.meaning.specs.Failing.{normal_of}
use Rattle.narrow.specs.Join.{every_names, implied, joined_below, joined_cells, joined_place, narrowest}
use Rattle.narrow.specs.Narrowest.{narrowest_entries, narrowest_place}
use Rattle.narrow_listed.specs.Listed.{names_from, names_in}
use Rattle.pairs.specs.Pairs.{excludes_in, is_pair, one_of, other_of, pair_count}
use Rattle.passes.specs.code.Forms.{of_every, of_kind, written}

-- each line is right
data Each : List Line → Type 0 where
  none : Each []
  ◌also◌ : {l : Line} {ls : List Line} → Right l → Each ls → Each (l ∷ ls)

infixr 5 ◌also◌
each_right : {ls : List Line} → Each ls → (l : Line) → Memᴰ l ls → Right l
each_right none l m = absurd (Memᴰ.not-nil m)
each_right (◌also◌ {l = a} h hs) l m = ⊎_elim (λ q. rw q h) (λ r. each_right hs l r) (Memᴰ.cases_cons m)

pub lines-join : (l : Line) → Memᴰ l lines → Right l
unfolding lines narrowest_entries narrowest_place normal_of nf add within fill insert put put_every remove remove_every remove_lacks find sub excluded is_bottom place_of tree row_of kind_of narrowest joined_place joined_cells joined_below every_names implied names once member put_ascending written of_kind of_every sort insert_in write lay later weight names_in names_from pair_count excludes_in is_pair one_of other_of word_at all
lines-join =
    each_right
    ((refl, refl) also (refl, refl) also (refl, refl) also (refl, refl) also (refl, refl) also (refl, refl)
    also (refl, refl) also (refl, refl) also (refl, refl) also (refl, refl) also (refl, refl) also (refl, refl)
    also none)
