-- The names of one place and class in order, as tags: 1,024 times a name, and the number of its slot, 0 where it has none. No public promise
-- names these.
-- Assumes nothing.
use Rattle.std.specs.Prelude.{◌%◌, ◌*◌, ◌+◌, ◌/◌, ◌<◌, ◌≤◌, max, pred, ℕ, eqb, get_or, length, take, Bool, cond, false, true, Option, ◌≡◌}
use mathlib.Core.List.{List, Memᴰ, [], ◌++◌, ◌∷◌, map}
use Rattle.base.specs.Range.{bit}
use Rattle.compare.specs.code.Asked.{code_asked, least_asked}
use Rattle.logic.specs.Laying.{Joint, joint}
use Rattle.compare.specs.declared.items.Items.{Items}
use Rattle.logic.specs.Place.{Kind, has, least}
use Rattle.logic.specs.SpecimenTree.{Group, group}
use Rattle.logic.specs.Witness.{names}
use Rattle.passes.specs.code.Slots.{is_link}
use Rattle.runs.specs.code.Tagged.{tags_down}
use Rattle.slots.specs.code.TablePlaces.{below_in, least_in, place_in, slot_by, used_in}

abbrev pub tag_name : ℕ → ℕ
tag_name x = x / 1024

abbrev pub tag_slot : ℕ → ℕ
tag_slot x = x % 1024

-- the tag of a name of slot s, unless that slot asks for it
unfoldable pub tag_unless : List ℕ → ℕ → ℕ → List ℕ
tag_unless t s x = cond (eqb (least_in t s) 0) ((1024 * x + s) ∷ []) []

-- the tag of a name that is asked for, unless its slot asks for it
abbrev pub extra_tag : List ℕ → ℕ → Bool → ℕ → List ℕ
extra_tag t v b x = tag_unless t (slot_by t v b x) x

-- the same for at most one name
abbrev pub extra_tags : List ℕ → ℕ → Bool → List ℕ → List ℕ
extra_tags t v b [] = []
extra_tags t v b (x ∷ xs) = extra_tag t v b x

-- the first n numbers of `order` are the tags of place v and class b that say at least 1, the last slot first, and that of the name that is asked for
pub record Gathered (t : List ℕ) (v : ℕ) (b : Bool) (ys order : List ℕ) (n : ℕ) : Type 0 where
  pub fits : n ≤ length order
  pub held : take n order ≡ tags_down t (2 * v + bit b) 1 (used_in t) ++ extra_tags t v b ys

-- the kind whose names a specimen takes over, of properties and of links
abbrev pub taken_over : Bool → Kind
taken_over false = has
taken_over true = least

-- the numbers are tags of the table: each has a name of two bytes, and one of its slots, or none
pub record Tagged (t z : List ℕ) : Type 0 where
  pub name : (i : ℕ) → i < length z → tag_name (get_or z i 0) < 65536
  pub slot : (i : ℕ) → i < length z → tag_slot (get_or z i 0) < length t

-- the tags xs are those of the names that place v lists with the kind a and of the names ys, each once, in order
pub record Run (t : List ℕ) (v : ℕ) (a : Kind) (ys xs : List ℕ) : Type 0 where
  pub named : map tag_name xs ≡ names a (place_in t v) ys
  pub slotted : (x : ℕ) → Memᴰ x xs → tag_slot x ≡ slot_by t v (is_link a) (tag_name x)
  pub small : (x : ℕ) → Memᴰ x xs → tag_name x < 65536

-- the group of a tag's link, where items are asked for, with the code of its place
abbrev pub group_of : List ℕ → Option Items → ℕ → Joint Group
group_of t asked x =
    joint (group (tag_name x) (pred (max (least_in t (tag_slot x)) (least_asked asked (tag_name x))))) (code_asked asked (tag_name x) + below_in t (tag_slot x))
