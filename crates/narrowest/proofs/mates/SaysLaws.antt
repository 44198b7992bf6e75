-- Whether two joined places say something: exactly where the joined place is not empty.
-- Assumes nothing.
use Prim.Native.Nat.{◌≤◌, ℕ}
use lib.Dec.{eqb}
use lib.ListN.{length}
use mathlib.Core.Bool.{Bool, ◌||◌, false, false≢true, not, true}
use mathlib.Core.List.{List, [], ◌++◌, ◌∷◌, map}
use native.Mathlib.Omega.{arith}
use mathlib.Core.Path.{◌∙◌, ◌≡◌, ap, ap₂, refl, sym}
use Rattle.base.proofs.Tests.{eq-eqb, eqb-self, ne_eqb, or_left}
use Rattle.blocks.specs.declared.Entry.{Entry}
use Rattle.logic.specs.Laying.{Joint, joint, joints, leaf_rows, leaves}
use Rattle.logic.specs.Normal.{is_end}
use Rattle.logic.specs.Place.{Atom, Place, has, least, most}
use Rattle.logic.specs.Witness.{member}
use Rattle.meaning.specs.Description.{place_of}
use Rattle.narrowest.proofs.meant.LackedLaws.{lacks-once}
use Rattle.narrowest.proofs.meant.LinkLaws.{links-once}
use Rattle.narrowest.proofs.meant.UnfoldLaws.{unfolds}
use Rattle.narrowest.specs.code.Codes.{atoms_in, first_alone, joined_atoms, knot, knots, lack_atom, lacks_in, links_in, links_of, place_by, second_alone, tree_by}
use Rattle.narrowest.specs.code.Forms.{Held, entries_in, owned_by}
use Rattle.narrowest.specs.code.Lacks.{lacks_of}
use Rattle.narrowest.specs.code.Mates.{Good, Joinable, Mated, Settled, joint_place, says_along, says_any, some_of}
use Rattle.narrowest.specs.code.Pushes.{Counted, leaf_numbers, shared}
use Rattle.std.specs.List.{flat_map}

-- ---- whether there is some

some-both : {A : Type 0} (xs ys : List A) → some_of (xs ++ ys) ≡ (some_of xs || some_of ys)
some-both [] ys = refl
some-both (x ∷ xs) ys = refl

some-map : {A B : Type 0} (f : A → B) (xs : List A) → some_of (map f xs) ≡ some_of xs
some-map f [] = refl
some-map f (x ∷ xs) = refl

some-same : (xs ys : List ℕ) → ((x : ℕ) → member x ys ≡ member x xs) → some_of ys ≡ some_of xs
unfolding member
some-same [] [] h = refl
some-same [] (y ∷ ys) h = absurd (false≢true (sym (h y) ∙ or_left (member y ys) (eqb-self y)))
some-same (x ∷ xs) [] h = absurd (false≢true (h x ∙ or_left (member x xs) (eqb-self x)))
some-same (x ∷ xs) (y ∷ ys) h = refl

-- a count is 0 exactly where there is none
pub counted-some : (L : List ℕ) {rows' : List ℕ} {r : ℕ} → Counted 0 [] 0 L rows' r → not (eqb r 0) ≡ some_of L
counted-some [] {r = r} p = let e : r ≡ 0 = omega (arith, p.total) in rw (eq-eqb e) refl
counted-some (x ∷ L) {r = r} p = let z : eqb r 0 ≡ false = ne_eqb (λ q. absurd (omega (arith, p.total, q))) in rw z refl

pub some-numbers : (o : ℕ) (L : List Atom) → some_of (leaf_numbers o L) ≡ some_of L
unfolding leaf_rows
some-numbers o [] = refl
some-numbers o (x ∷ L) = refl

-- a place that is written has something exactly if it has an atom or an 'every'
some-written : (T : ℕ → Place) (L : List Atom) (N : List (Joint ℕ)) → not (is_end (leaves L (joints T N))) ≡ (some_of L || some_of N)
unfolding leaves joints
some-written T [] [] = refl
some-written T [] (joint l c ∷ N) = refl
some-written T (a ∷ L) N = refl

ordered : (h a b x y : Bool) → (h || (a || (b || (x || y)))) ≡ ((h || (x || (a || b))) || y)
ordered true a b x y = refl
ordered false true b true y = refl
ordered false true b false y = refl
ordered false false true true y = refl
ordered false false true false y = refl
ordered false false false true y = refl
ordered false false false false y = refl

module _ {P a b : List ℕ} (J : Joinable P a b) (HA : Held a) (HB : Held b) {M F : List ℕ} (m : Mated (entries_in a) (entries_in b) (length (entries_in a)) M) {k : ℕ}
    (S : Settled P (entries_in a) (entries_in b) k M F) {o s : ℕ} (g : Good P (entries_in a) (entries_in b) M o s) (later : k ≤ o) where
  abbrev one : List Entry
  one = entries_in a

  abbrev two : List Entry
  two = entries_in b

  abbrev u : Place
  u = place_of two s

  abbrev es : List Entry
  es = owned_by o one

  links-some : second_alone o s ≡ false → some_of (links_in one two F o s) ≡ some_of (flat_map (links_of one two F o s) es)
  links-some f =
      let L = links-once J HA HB m S g later in
      some-same _ (links_in one two F o s) L.same ∙ rw f refl

  abbrev X : List ℕ
  X = flat_map (lacks_of P (place_of one o) u) es

  abbrev H : List Atom
  H = flat_map (shared has u) es

  abbrev A : List Atom
  A = flat_map (shared least u) es

  abbrev B : List Atom
  B = flat_map (shared most u) es

  abbrev Y : List ℕ
  Y = flat_map (links_of one two F o s) es

  lacks-some : some_of (map lack_atom (lacks_in P one two o s)) ≡ some_of X
  unfolding lacks_in
  lacks-some = some-map lack_atom (lacks_in P one two o s) ∙ some-same X (lacks_in P one two o s) (lacks-once P J.words HA o u).same

  atoms-some : first_alone o s ≡ false → second_alone o s ≡ false → some_of (atoms_in P one two o s) ≡ (some_of H || (some_of X || (some_of A || some_of B)))
  unfolding atoms_in joined_atoms
  atoms-some e f =
      let K = map lack_atom (lacks_in P one two o s) in
      rw (e, f) (
      some-both H (K ++ (A ++ B))
      ∙ ap (λ (z : Bool). some_of H || z) (some-both K (A ++ B) ∙ ap₂ (λ (x y : Bool). x || y) lacks-some (some-both A B))
      )

  every-some : second_alone o s ≡ false → some_of (knots one two F o s) ≡ some_of Y
  unfolding knots
  every-some f = some-map (knot one two F o s) (links_in one two F o s) ∙ links-some f

  is-joint : first_alone o s ≡ false → second_alone o s ≡ false → place_by P one two o s ≡ joint_place P one two o s
  unfolding place_by
  is-joint e f = rw (e, f) refl

  pub says-right : first_alone o s ≡ false → second_alone o s ≡ false → says_any P one two F o s ≡ not (is_end (joint_place P one two o s))
  unfolding says_along
  says-right e f =
      ordered (some_of H) (some_of A) (some_of B) (some_of X) (some_of Y)
      ∙ sym (ap₂ (λ (x y : Bool). x || y) (atoms-some e f) (every-some f))
      ∙ sym (some-written (tree_by P one two) (atoms_in P one two o s) (knots one two F o s))
      ∙ ap (λ (t : Place). not (is_end t)) (sym (unfolds J HA HB m S g later) ∙ is-joint e f)
