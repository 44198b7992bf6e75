-- The joined place, as it is written.
-- Assumes nothing.
use Prim.Native.Nat.{◌≤◌, min, suc, ℕ}
use lib.Dec.{eqb}
use mathlib.Core.Bool.{Bool, ◌&&◌, and-false, cond, false, not, true}
use mathlib.Core.List.{List, [], ◌∷◌, ◌++◌, map}
use mathlib.Core.Option.{none, some}
use mathlib.Core.Path.{◌∙◌, ◌≡◌, ap, refl, sym}
use native.Mathlib.Omega.{arith}
use Rattle.base.proofs.Missing.{opt_cases}
use Rattle.base.proofs.Tests.{bool_cases, eqb-eq}
use Rattle.logic.proofs.SpecimenTrees.IncreasingNames.{Increasing, increasing-one}
use Rattle.logic.specs.Background.{Background, LawfulBackground}
use Rattle.logic.specs.Canonical.{Ascending, Canonical, canonical}
use Rattle.logic.specs.Normal.{at_most, find, found, is_end, sub, supports}
use Rattle.logic.specs.Place.{Place, atom, has, lacks, least, most}
use Rattle.logic.specs.Tree.{end, node}
use Rattle.logic.specs.Witness.{member, or_zero}
use Rattle.narrow.proofs.Joining.JoinCells.{cells-ascend, link-found, links-increasing, property-found, unnamed-link, unnamed-property}
use Rattle.narrow.proofs.Joining.JoinMeans.{below-joined, sub-joined, unnamed-lack}
use Rattle.narrow.proofs.Joining.JoinParts.{found-none}
use Rattle.narrow.proofs.Writing.MadeLaws.{bind, kind-first, kind-list}
use Rattle.narrow.specs.Join.{implied, joined_below, joined_cells, joined_place, larger, link_cell, link_names, place_below, property_cell, property_names}
use Rattle.narrow.specs.code.Made.{bare, from_first, larger_most, leaves_of, made_place, nodes_of, shared_property, smaller_least}
use Rattle.passes.proofs.Cells.WrittenLists.{listed}
use Rattle.passes.specs.code.Forms.{of_every, of_kind, written}
use Rattle.passes.specs.code.Slots.{Cell, lookup}

-- ---- the links of cells

-- those that pass
unfoldable passing : (ℕ → Bool) → List ℕ → List ℕ
passing K [] = []
passing K (l ∷ ls) = cond (K l) (l ∷ passing K ls) (passing K ls)

member-passing : (K : ℕ → Bool) (x : ℕ) (ls : List ℕ) → member x (passing K ls) ≡ K x && member x ls
unfolding passing member
member-passing K x [] = sym (and-false (K x))
member-passing K x (l ∷ ls) =
    bool_cases (eqb x l)
    (λ q.
    let i : x ≡ l = eqb-eq q in
    bool_cases (K l)
    (λ z. let y : K x ≡ true = rw i z in rw (z, q, y))
    (λ z. let y : K x ≡ false = rw i z in rw (z, y) (member-passing K x ls ∙ rw y)))
    (λ q. bool_cases (K l)
    (λ z. rw (z, q) (member-passing K x ls))
    (λ z. rw (z, q) (member-passing K x ls)))

passing-increasing : (K : ℕ → Bool) (b : ℕ) (ls : List ℕ) → Increasing b ls → Increasing b (passing K ls)
unfolding passing
passing-increasing K b [] h = tt
passing-increasing K b (l ∷ ls) h =
    bool_cases (K l)
    (λ z. rw z (h.0, passing-increasing K (suc l) ls h.1))
    (λ z. rw z (lower b (suc l) (passing K ls) (omega (arith, h.0)) (passing-increasing K (suc l) ls h.1)))
  where
    lower : (a c : ℕ) (xs : List ℕ) → a ≤ c → Increasing c xs → Increasing a xs
    lower a c [] g r = tt
    lower a c (x ∷ xs) g r = (omega (arith, r.0), r.1)

module _ {b : Background} (law : LawfulBackground b) (ps : List ℕ) (inc : Increasing 0 ps)
    (all-named : (p q : ℕ) → b.excludes q p ≡ true → member p ps ≡ true) (t u : Place) (ht : Canonical b t) (hu : Canonical b u) where
  abbrev T : ℕ → Place
  T l = place_below b t u l (joined_below b ps t l (sub l u))

  abbrev J : Place
  J = joined_place b ps t u

  abbrev q : List Cell
  q = joined_cells b ps t u

  ascending-t : Ascending t
  ascending-t = first ht
    where
      first : Canonical b t → Ascending t
      first (canonical a c d f) = a

  -- ---- properties and links

  abbrev both_lack : ℕ → Bool
  both_lack p = supports b t (atom lacks p 0) && supports b u (atom lacks p 0)

  has-cells : (p : ℕ) → listed has (lookup q false p) ≡ bind (shared_property u p) (find has p t)
  has-cells p =
      bool_cases (member p (property_names ps t u))
      (λ z. rw (property-found b t u ps p, z)
      (opt_cases (find has p t) (λ y. rw y) (λ m y. rw y (bool_cases (found (find has p u)) (λ x. rw x) (λ x. rw x)))))
      (λ z. rw (property-found b t u ps p, z, found-none (find has p t) (unnamed-property ps t u p z).0))

  lacks-cells : (p : ℕ) → listed lacks (lookup q false p) ≡ cond (both_lack p && not (implied b p t u)) (some 0) none
  lacks-cells p =
      bool_cases (member p (property_names ps t u))
      (λ z. rw (property-found b t u ps p, z) (bool_cases (both_lack p && not (implied b p t u)) (λ y. rw y) (λ y. rw y)))
      (λ z. rw (property-found b t u ps p, z, unnamed-lack law ps inc all-named t u p z))

  least-cells : (l : ℕ) → listed least (lookup q true l) ≡ bind (smaller_least u l) (find least l t)
  least-cells l =
      bool_cases (member l (link_names t u))
      (λ z. rw (link-found b t u ps l, z)
      (opt_cases (find least l t)
      (λ y. let i : min 0 (or_zero (find least l u)) ≡ 0 = omega arith in rw (y, i))
      (λ m y. rw y)))
      (λ z. rw (link-found b t u ps l, z, found-none (find least l t) (unnamed-link t u l z).0))

  most-cells : (l : ℕ) → listed most (lookup q true l) ≡ bind (larger_most u l) (find most l t)
  most-cells l =
      bool_cases (member l (link_names t u))
      (λ z. rw (link-found b t u ps l, z) (opt_cases (find most l t) (λ y. rw y) (λ m y. rw y)))
      (λ z. rw (link-found b t u ps l, z, found-none (find most l t) (unnamed-link t u l z).1))

  -- ---- 'every' entries

  abbrev K : ℕ → Bool
  K l = not (is_end (T l)) && not (at_most 0 (larger (find most l t) (find most l u)))

  every-links : (L : List ℕ) → of_every T (map (link_cell t u) L) ≡ nodes_of T (passing K L)
  unfolding of_every nodes_of passing
  every-links [] = refl
  every-links (l ∷ L) = bool_cases (K l) (λ z. rw z (ap (λ (x : Place). node l (T l) x) (every-links L))) (λ z. rw z (every-links L))

  every-properties : (N : List ℕ) (c : List Cell) → of_every T (map (property_cell b t u) N ++ c) ≡ of_every T c
  unfolding of_every
  every-properties [] c = refl
  every-properties (n ∷ N) c = every-properties N c

  shown : (l : ℕ) → member l (passing K (link_names t u)) ≡ not (is_end (T l))
  shown l =
      member-passing K l (link_names t u) ∙
      bool_cases (member l (link_names t u))
      (λ z. bool_cases (at_most 0 (larger (find most l t) (find most l u)))
      (λ y.
      let e : T l ≡ end = sym (below-joined law ps inc all-named t u ht hu l) ∙ sub-joined law ps inc all-named t u l ∙ rw (link-found b t u ps l, z, y) in
      rw (z, y, e))
      (λ y. rw (z, y) (drop (not (is_end (T l))))))
      (λ z.
      let e : T l ≡ end = sym (below-joined law ps inc all-named t u ht hu l) ∙ sub-joined law ps inc all-named t u l ∙ rw (link-found b t u ps l, z) in
      rw (z, e))
    where
      drop : (x : Bool) → ((x && true) && true) ≡ x
      drop true = refl
      drop false = refl

  -- ---- the whole, from any ascending lists of the lacks and of the links that are written

  pub made-joined : (lacking linking : List ℕ) → Increasing 0 lacking → Increasing 0 linking
      → ((p : ℕ) → member p lacking ≡ both_lack p && not (implied b p t u)) → ((l : ℕ) → member l linking ≡ not (is_end (T l)))
      → J ≡ made_place T t u lacking linking
  unfolding joined_place made_place written joined_cells
  made-joined lacking linking i i' f g =
      let s = cells-ascend b t u ps inc in
      let e : of_every T q ≡ nodes_of T linking
      = every-properties (property_names ps t u) (map (link_cell t u) (link_names t u)) ∙ every-links (link_names t u)
      ∙ ap (nodes_of T) (increasing-one 0 0 (passing K (link_names t u)) linking
      (passing-increasing K 0 (link_names t u) (links-increasing b t u)) i' (λ l. shown l ∙ sym (g l))) in
      let e4 : of_kind most q (of_every T q) ≡ leaves_of most (from_first (larger_most u) most t) (nodes_of T linking)
      = kind-first (larger_most u) most t q ascending-t s most-cells (of_every T q) ∙ ap (λ (x : Place). leaves_of most (from_first (larger_most u) most t) x) e in
      let e3 : of_kind least q (of_kind most q (of_every T q)) ≡ leaves_of least (from_first (smaller_least u) least t) (leaves_of most (from_first (larger_most u) most t) (nodes_of T linking))
      = kind-first (smaller_least u) least t q ascending-t s least-cells (of_kind most q (of_every T q)) ∙ ap (λ (x : Place). leaves_of least (from_first (smaller_least u) least t) x) e4 in
      let e2 : of_kind lacks q (of_kind least q (of_kind most q (of_every T q)))
      ≡ leaves_of lacks (bare lacking) (leaves_of least (from_first (smaller_least u) least t) (leaves_of most (from_first (larger_most u) most t) (nodes_of T linking)))
      = kind-list lacks q s lacking i (λ p. lacks-cells p ∙ ap (λ (x : Bool). cond x (some 0) none) (sym (f p))) (of_kind least q (of_kind most q (of_every T q)))
      ∙ ap (λ (x : Place). leaves_of lacks (bare lacking) x) e3 in
      kind-first (shared_property u) has t q ascending-t s has-cells (of_kind lacks q (of_kind least q (of_kind most q (of_every T q))))
      ∙ ap (λ (x : Place). leaves_of has (from_first (shared_property u) has t) x) e2
