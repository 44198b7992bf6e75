-- The places of the result, each by its code: 1,024 times a place of the first normal form and a place of the second. Where one of the two
-- is 0, and not the other, the other stands whole; the top is 0.
-- Assumes nothing.
use Rattle.std.specs.Prelude.{◌%◌, ◌*◌, ◌+◌, ◌/◌, ℕ, eqb, get_or, Bool, ◌&&◌, ◌||◌, cond, not, List, [], ◌++◌, ◌∷◌, map}
use Rattle.std.specs.List.{flat_map}
use Rattle.blocks.specs.declared.Entry.{Entry}
use Rattle.logic.specs.Laying.{Joint, joint}
use Rattle.logic.specs.Normal.{at_most, find}
use Rattle.logic.specs.Place.{Atom, Place, atom, has, lacks, least, most}
use Rattle.meaning.specs.Description.{atom_of, place_of}
use Rattle.meaning.specs.Lookup.{entry_for}
use Rattle.narrow.specs.Join.{joined_place}
use Rattle.narrow_listed.specs.Listed.{names_in}
use Rattle.narrowest.specs.code.Forms.{owned_by}
use Rattle.narrowest.specs.code.Lacks.{apart, lacks_of}
use Rattle.narrowest.specs.code.Pushes.{shared}
use Rattle.pairs.specs.Pairs.{under}
use Rattle.sorting.specs.Sorted.{sorted}

-- the first's place stands whole; the second's does
abbrev pub first_alone : ℕ → ℕ → Bool
first_alone o s = not (eqb o 0) && eqb s 0

abbrev pub second_alone : ℕ → ℕ → Bool
second_alone o s = eqb o 0 && not (eqb s 0)

-- a place lists at most 0 of a link
abbrev pub closes : ℕ → Place → Bool
closes l t = at_most 0 (find most l t)

-- place m of the first, joined with its mate of the second; 0 where it has none
abbrev pub mated : List ℕ → ℕ → ℕ
mated M m = cond (eqb (get_or M m 0) 0) 0 (1024 * m + get_or M m 0)

-- an entry that leads to a place of the result: an 'every', and at most 0, below which the other side's place stands
abbrev pub leads : Entry → Bool
leads e = eqb e.kind 5 || (eqb e.kind 4 && eqb e.number 0)

-- the entries that a place is written along
abbrev pub along : List Entry → List Entry → ℕ → ℕ → List Entry
along one two o s = cond (second_alone o s) (owned_by s two) (owned_by o one)

module _ (one two : List Entry) (M : List ℕ) where
  -- the code of the place below a link of two joined places, 0 where nothing stands there
  unfoldable pub joined_code : ℕ → ℕ → ℕ → ℕ
  joined_code o s l =
      cond (closes l (place_of two s)) (1024 * entry_for one o 5 l)
      (cond (closes l (place_of one o)) (entry_for two s 5 l) (mated M (entry_for one o 5 l)))

  -- of any place
  unfoldable pub code_below : ℕ → ℕ → ℕ → ℕ
  code_below o s l =
      cond (first_alone o s) (1024 * entry_for one o 5 l) (cond (second_alone o s) (entry_for two s 5 l) (joined_code o s l))

  -- the link that an entry leads to, where something stands below it
  unfoldable pub links_of : ℕ → ℕ → Entry → List ℕ
  links_of o s e = cond (leads e) (cond (eqb (code_below o s e.name) 0) [] (e.name ∷ [])) []

  -- in ascending order, each once
  unfoldable pub links_in : ℕ → ℕ → List ℕ
  links_in o s = apart 65536 (sorted (flat_map (links_of o s) (along one two o s)))

  -- its 'every' entries, each with the code of the place below
  abbrev pub knot : ℕ → ℕ → ℕ → Joint ℕ
  knot o s l = joint (l % 65536) (code_below o s (l % 65536))

  unfoldable pub knots : ℕ → ℕ → List (Joint ℕ)
  knots o s = map (knot o s) (links_in o s)

-- what an entry of a place that stands whole says, if it is no 'every'
unfoldable pub whole_atoms : Entry → List Atom
whole_atoms e = cond (eqb e.kind 5) [] (atom_of e ∷ [])

abbrev pub lack_atom : ℕ → Atom
lack_atom p = atom lacks (p % 65536) 0

module _ (P : List ℕ) (one two : List Entry) where
  -- the lacks of a joined place, in ascending order, each once
  unfoldable pub lacks_in : ℕ → ℕ → List ℕ
  lacks_in o s = apart 65536 (sorted (flat_map (lacks_of P (place_of one o) (place_of two s)) (owned_by o one)))

  -- what the place lists beside 'every'
  unfoldable pub joined_atoms : ℕ → ℕ → List Atom
  joined_atoms o s =
      let u = place_of two s in
      flat_map (shared has u) (owned_by o one) ++ (map lack_atom (lacks_in o s)
      ++ (flat_map (shared least u) (owned_by o one) ++ flat_map (shared most u) (owned_by o one)))

  unfoldable pub atoms_in : ℕ → ℕ → List Atom
  atoms_in o s =
      cond (first_alone o s) (flat_map whole_atoms (owned_by o one)) (cond (second_alone o s) (flat_map whole_atoms (owned_by s two)) (joined_atoms o s))

  -- the place that the code stands for
  unfoldable pub place_by : ℕ → ℕ → Place
  place_by o s =
      cond (first_alone o s) (place_of one o) (cond (second_alone o s) (place_of two s) (joined_place (under P) (names_in P) (place_of one o) (place_of two s)))

  abbrev pub tree_by : ℕ → Place
  tree_by c = place_by (c / 1024) (c % 1024)
