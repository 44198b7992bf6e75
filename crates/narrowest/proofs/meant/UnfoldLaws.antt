-- A place of the result is what is written of it: its atoms, and then its 'every' entries, each with the code of the place below it.
-- Assumes nothing.
use Prim.Native.Nat.{◌<◌, ◌≤◌, ℕ}
use lib.ListN.{length}
use mathlib.Core.Bool.{false, not, true}
use mathlib.Core.List.{List, [], ◌++◌, ◌∷◌, map}
use mathlib.Core.Path.{◌∙◌, ◌≡◌, ap, refl, sym}
use Rattle.base.proofs.Tests.{bool_cases}
use Rattle.blocks.specs.declared.Entry.{Entry}
use Rattle.logic.proofs.SpecimenTrees.IncreasingNames.{increasing-one}
use Rattle.logic.proofs.TreeRows.FillLaws.{Codes}
use Rattle.logic.specs.Laying.{codes, joints, leaves}
use Rattle.logic.specs.Normal.{is_end, sub}
use Rattle.logic.specs.Place.{Atom, Place, has, lacks, least, most}
use Rattle.logic.specs.Tree.{leaf}
use Rattle.logic.specs.Witness.{member}
use Rattle.meaning.specs.Description.{place_of}
use Rattle.narrow.proofs.Joining.JoinMeans.{below-joined}
use Rattle.narrow.proofs.Writing.MadeJoined.{made-joined}
use Rattle.narrow.specs.Join.{joined_below, joined_place, place_below}
use Rattle.narrow.specs.code.Made.{bare, from_first, larger_most, leaves_of, made_place, nodes_of, shared_property, smaller_least}
use Rattle.narrow_listed.proofs.NamesListed.{excluded-named}
use Rattle.narrow_listed.specs.Listed.{names_in}
use Rattle.narrowest.proofs.meant.BelowLaws.{lawful, rising-names}
use Rattle.narrowest.proofs.meant.LackedLaws.{kinds-held, lack-leaves, lack-member, lacks-once}
use Rattle.narrowest.proofs.meant.LinkLaws.{every-good, every-joined, links-named, links-once}
use Rattle.narrowest.proofs.meant.OnceLaws.{Once}
use Rattle.narrowest.proofs.meant.SplitLaws.{atoms_of, nodes-agree, nodes_in, own-atoms, parts-of}
use Rattle.narrowest.proofs.rows.LeavesLaws.{kind-leaves}
use Rattle.narrowest.specs.code.Codes.{atoms_in, first_alone, joined_atoms, knots, lack_atom, lacks_in, links_in, place_by, second_alone, tree_by, whole_atoms}
use Rattle.narrowest.specs.code.Forms.{Held, entries_in, owned_by}
use Rattle.narrowest.specs.code.Mates.{Good, GoodCode, Joinable, Mated, Settled}
use Rattle.narrowest.specs.code.Lacks.{lacks_of}
use Rattle.narrowest.specs.code.Pushes.{shared}
use Rattle.pairs.specs.Pairs.{under}
use Rattle.std.specs.List.{flat_map}

-- atoms after atoms
pub leaves-append : (L K : List Atom) (r : Place) → leaves (L ++ K) r ≡ leaves L (leaves K r)
unfolding leaves
leaves-append [] K r = refl
leaves-append (a ∷ L) K r = ap (λ (z : Place). leaf a z) (leaves-append L K r)

module _ {P a b : List ℕ} (J : Joinable P a b) (HA : Held a) (HB : Held b) {M F : List ℕ} (m : Mated (entries_in a) (entries_in b) (length (entries_in a)) M) {k : ℕ}
    (S : Settled P (entries_in a) (entries_in b) k M F) {o s : ℕ} (g : Good P (entries_in a) (entries_in b) M o s) (later : k ≤ o) where
  abbrev one : List Entry
  one = entries_in a

  abbrev two : List Entry
  two = entries_in b

  abbrev t : Place
  t = place_of one o

  abbrev u : Place
  u = place_of two s

  abbrev T : Place
  T = place_by P one two o s

  abbrev links : List ℕ
  links = links_in one two F o s

  below-links : nodes_of (λ l. sub l T) links ≡ joints (tree_by P one two) (knots one two F o s)
  unfolding knots
  below-links = every-joined J HA HB m S g later

  pub codes-good : Codes (GoodCode P one two M) (codes (knots one two F o s))
  unfolding knots
  codes-good = every-good J HA HB m S g later

  -- ---- a place that stands whole

  whole : (v : Place) (L : List Atom) → T ≡ v → v ≡ leaves (atoms_of v) (nodes_of (λ l. sub l v) (nodes_in v)) → nodes_in v ≡ links → atoms_of v ≡ L
      → T ≡ leaves L (joints (tree_by P one two) (knots one two F o s))
  whole v L e w n x =
      e ∙ w
      ∙ ap (λ (z : List Atom). leaves z (nodes_of (λ l. sub l v) (nodes_in v))) x
      ∙ ap (λ (z : List ℕ). leaves L (nodes_of (λ l. sub l v) z)) n
      ∙ ap (λ (y : Place). leaves L (nodes_of (λ l. sub l y) links)) (sym e)
      ∙ ap (λ (z : Place). leaves L z) below-links

  whole-first : first_alone o s ≡ true → T ≡ leaves (flat_map whole_atoms (owned_by o one)) (joints (tree_by P one two) (knots one two F o s))
  whole-first e =
      let i : T ≡ t = unfold place_by in rw e refl in
      let p = parts-of g.first in
      whole t (flat_map whole_atoms (owned_by o one)) i p.whole
      (increasing-one 0 0 (nodes_in t) links p.rising (links-once J HA HB m S g later).rising
      (λ l. p.named l ∙ ap (λ (y : Place). not (is_end (sub l y))) (sym i) ∙ sym (links-named J HA HB m S g later l)))
      (unfold place_of in own-atoms o 1 one)

  whole-second : first_alone o s ≡ false → second_alone o s ≡ true → T ≡ leaves (flat_map whole_atoms (owned_by s two)) (joints (tree_by P one two) (knots one two F o s))
  whole-second e f =
      let i : T ≡ u = unfold place_by in rw (e, f) refl in
      let p = parts-of g.second in
      whole u (flat_map whole_atoms (owned_by s two)) i p.whole
      (increasing-one 0 0 (nodes_in u) links p.rising (links-once J HA HB m S g later).rising
      (λ l. p.named l ∙ ap (λ (y : Place). not (is_end (sub l y))) (sym i) ∙ sym (links-named J HA HB m S g later l)))
      (unfold place_of in own-atoms s 1 two)

  -- ---- two places that are joined

  -- the four kinds, along the entries of the first place
  atoms-made : (ls : List ℕ) (N : Place) → ((p : ℕ) → member p ls ≡ true → p < 65536)
      → leaves_of has (from_first (shared_property u) has t) (leaves_of lacks (bare ls)
      (leaves_of least (from_first (smaller_least u) least t) (leaves_of most (from_first (larger_most u) most t) N)))
      ≡ leaves (flat_map (shared has u) (owned_by o one) ++ (map lack_atom ls ++ (flat_map (shared least u) (owned_by o one) ++ flat_map (shared most u) (owned_by o one)))) N
  unfolding place_of
  atoms-made ls N h =
      let H = flat_map (shared has u) (owned_by o one) in
      let A = flat_map (shared least u) (owned_by o one) in
      let B = flat_map (shared most u) (owned_by o one) in
      let K = kinds-held HA in
      let e4 = kind-leaves most u o N 1 one K in
      let e3 = kind-leaves least u o (leaves B N) 1 one K in
      let e2 = lack-leaves ls (leaves A (leaves B N)) h in
      let e1 = kind-leaves has u o (leaves (map lack_atom ls) (leaves A (leaves B N))) 1 one K in
      sym (
      leaves-append H (map lack_atom ls ++ (A ++ B)) N
      ∙ ap (λ (z : Place). leaves H z) (leaves-append (map lack_atom ls) (A ++ B) N ∙ ap (λ (z : Place). leaves (map lack_atom ls) z) (leaves-append A B N))
      ∙ e1
      ∙ ap (λ (z : Place). leaves_of has (from_first (shared_property u) has (place_of one o)) z) (e2
      ∙ ap (λ (z : Place). leaves_of lacks (bare ls) z) (e3 ∙ ap (λ (z : Place). leaves_of least (from_first (smaller_least u) least (place_of one o)) z) e4))
      )

  abbrev V : ℕ → Place
  V l = place_below (under P) t u l (joined_below (under P) (names_in P) t l (sub l u))

  -- any list of the lacks serves
  joined-by : first_alone o s ≡ false → second_alone o s ≡ false → {all ls : List ℕ} → Once all ls
      → ((p : ℕ) → member p all ≡ member p (flat_map (lacks_of P t u) (owned_by o one)))
      → T ≡ leaves (flat_map (shared has u) (owned_by o one) ++ (map lack_atom ls ++ (flat_map (shared least u) (owned_by o one) ++ flat_map (shared most u) (owned_by o one))))
      (joints (tree_by P one two) (knots one two F o s))
  joined-by e f {all} {ls} w h =
      let i : T ≡ joined_place (under P) (names_in P) t u = unfold place_by in rw (e, f) refl in
      let v : (l : ℕ) → sub l T ≡ V l = λ l. ap (λ (y : Place). sub l y) i ∙ below-joined (lawful J) (names_in P) (rising-names J) (excluded-named P) t u g.first g.second l in
      let made = made-joined (lawful J) (names_in P) (rising-names J) (excluded-named P) t u g.first g.second ls links w.rising (links-once J HA HB m S g later).rising
      (λ p. w.same p ∙ h p ∙ lack-member P J.words HA o u p)
      (λ l. links-named J HA HB m S g later l ∙ ap (λ (y : Place). not (is_end y)) (v l)) in
      let laid : made_place V t u ls links
      ≡ leaves (flat_map (shared has u) (owned_by o one) ++ (map lack_atom ls ++ (flat_map (shared least u) (owned_by o one) ++ flat_map (shared most u) (owned_by o one)))) (nodes_of V links)
      = (unfold made_place in atoms-made ls (nodes_of V links) w.small) in
      i ∙ made ∙ laid
      ∙ ap (λ (z : Place). leaves (flat_map (shared has u) (owned_by o one) ++ (map lack_atom ls ++ (flat_map (shared least u) (owned_by o one) ++ flat_map (shared most u) (owned_by o one)))) z)
      (nodes-agree V (λ l. sub l T) links (λ l x. sym (v l)) ∙ below-links)

  pub unfolds : T ≡ leaves (atoms_in P one two o s) (joints (tree_by P one two) (knots one two F o s))
  unfolding atoms_in joined_atoms lacks_in
  unfolds =
      bool_cases (first_alone o s)
      (λ e. rw e (whole-first e))
      (λ e. bool_cases (second_alone o s)
      (λ f. rw (e, f) (whole-second e f))
      (λ f. rw (e, f) (joined-by e f (lacks-once P J.words HA o u) (λ p. refl))))
