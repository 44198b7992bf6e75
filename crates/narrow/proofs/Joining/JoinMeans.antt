-- The joined place, as it is made, is a normal place, and joins the two.
-- Assumes nothing.
use Prim.Native.Nat.{◌≤◌, min, ℕ}
use lib.Dec.{eqb, leb}
use mathlib.Core.Bool.{Bool, ◌&&◌, ◌||◌, and-false, false, not, true}
use mathlib.Core.List.{List}
use mathlib.Core.Option.{Option, none, some}
use mathlib.Core.Path.{◌∙◌, ◌≡◌, ap, ap₂, refl, sym}
use native.Mathlib.Omega.{arith}
use Rattle.base.proofs.Missing.{not-true, opt_cases}
use Rattle.base.proofs.Tests.{and_both, and_left, and_right, bool_cases, both_ways, false_of_not, iff-eq, neither_left, neither_right, not-to-true, or_left, or_right, or-none, tests}
use Rattle.logic.proofs.NormalForm.IsNormal.{canonical-end, canonical-sub}
use Rattle.logic.proofs.PlaceTrees.Lookup.{excluder, is-end, is-excluded}
use Rattle.logic.proofs.SpecimenTrees.IncreasingNames.{Increasing}
use Rattle.logic.specs.Background.{Background, LawfulBackground}
use Rattle.logic.specs.Canonical.{Canonical, Clean, canonical}
use Rattle.logic.specs.Normal.{at_most, enough, excluded, find, found, is_end, sub, supports, under}
use Rattle.logic.specs.Place.{Atom, Kind, Place, atom, has, lacks, least, most, nothing}
use Rattle.logic.specs.Tree.{end}
use Rattle.logic.specs.Witness.{member, or_zero}
use Rattle.narrow.proofs.Joining.JoinCells.{cells-ascend, cells-pass, link-found, property-found, unnamed-link, unnamed-property}
use Rattle.narrow.proofs.Joining.JoinParts.{below-none, below-some, enough-zero, found-none, found-zero, implied-shared, leb-min, most-both, shared-implied, value-enough}
use Rattle.narrow.specs.Join.{implied, joined_below, joined_cells, joined_place, larger, link_cell, link_names, place_below, property_cell, property_names}
use Rattle.narrow.specs.Joined.{Joined, joined}
use Rattle.passes.proofs.CellPlaces.FormMeaning.{cell_whole}
use Rattle.passes.proofs.Cells.CellsTell.{cap-open, cell_tells}
use Rattle.passes.proofs.Cells.WrittenLists.{below, listed, written-find, written-sub}
use Rattle.passes.proofs.Cells.WrittenNormal.{written-normal}
use Rattle.passes.specs.code.Restrict.{idle}
use Rattle.passes.specs.code.Slots.{is_link, lookup}

-- ---- what the joined place lists

module _ {b : Background} (law : LawfulBackground b) (ps : List ℕ) (inc : Increasing 0 ps)
    (all-named : (p q : ℕ) → b.excludes q p ≡ true → member p ps ≡ true) where
  module _ (t u : Place) where
    abbrev j : Place
    j = joined_place b ps t u

    abbrev T : ℕ → Place
    T l = place_below b t u l (joined_below b ps t l (sub l u))

    pub find-joined : (a : Kind) (n : ℕ) → find a n j ≡ listed a (lookup (joined_cells b ps t u) (is_link a) n)
    unfolding joined_place
    find-joined a n = written-find T (joined_cells b ps t u) (cells-ascend b t u ps inc) a n

    pub sub-joined : (l : ℕ) → sub l j ≡ below T (lookup (joined_cells b ps t u) true l)
    unfolding joined_place
    sub-joined l = written-sub T (joined_cells b ps t u) (cells-ascend b t u ps inc) l

    -- it has the properties that both have
    pub has-joined : (p : ℕ) → found (find has p j) ≡ found (find has p t) && found (find has p u)
    has-joined p =
        bool_cases (member p (property_names ps t u))
        (λ q. rw (find-joined has p, property-found b t u ps p, q)
        (bool_cases (found (find has p t) && found (find has p u)) (λ z. rw z) (λ z. rw z)))
        (λ q. rw (find-joined has p, property-found b t u ps p, q, (unnamed-property ps t u p q).0))

    abbrev both_lack : ℕ → Bool
    both_lack p = supports b t (atom lacks p 0) && supports b u (atom lacks p 0)

    pub unnamed-lack : (p : ℕ) → member p (property_names ps t u) ≡ false → supports b t (atom lacks p 0) ≡ false
    unnamed-lack p q =
        let r = unnamed-property ps t u p q in
        or-none r.1 (not-true (λ y. let x = excluder b p t y in both_ways (all-named p x.name x.against) r.3))

    pub lacks-joined : (p : ℕ) → found (find lacks p j) ≡ both_lack p && not (implied b p t u)
    lacks-joined p =
        bool_cases (member p (property_names ps t u))
        (λ q. rw (find-joined lacks p, property-found b t u ps p, q)
        (bool_cases (both_lack p && not (implied b p t u)) (λ z. rw z) (λ z. rw z)))
        (λ q. rw (find-joined lacks p, property-found b t u ps p, q, unnamed-lack p q))

    excluded-joined : (p : ℕ) → excluded b p j ≡ implied b p t u
    excluded-joined p =
        iff-eq
        (λ e.
        let x = excluder b p j e in
        let f : (found (find has x.name t) && found (find has x.name u)) ≡ true = sym (has-joined x.name) ∙ rw x.listed in
        shared-implied b p u t (record {
          name = x.name;
          first = and_left (found (find has x.name t)) (found (find has x.name u)) f;
          second = and_right (found (find has x.name t)) (found (find has x.name u)) f;
          against = x.against;
        }))
        (λ e.
        let x = implied-shared b p u t e in
        let f : found (find has x.name j) ≡ true = has-joined x.name ∙ and_both x.first x.second in
        opt_cases (find has x.name j)
        (λ z. both_ways f (rw z))
        (λ m z. is-excluded b p j (record { name = x.name; number = m; listed = z; against = x.against })))

    has-excludes : (v : Place) (p q : ℕ) → found (find has q v) ≡ true → b.excludes q p ≡ true → excluded b p v ≡ true
    has-excludes v p q f e =
        opt_cases (find has q v) (λ z. both_ways f (rw z)) (λ m z. is-excluded b p v (record { name = q; number = m; listed = z; against = e }))

    implied-lack : (p : ℕ) → implied b p t u ≡ true → both_lack p ≡ true
    implied-lack p e =
        let x = implied-shared b p u t e in
        and_both (or_right (found (find lacks p t)) (has-excludes t p x.name x.first x.against))
        (or_right (found (find lacks p u)) (has-excludes u p x.name x.second x.against))

    pub enough-joined : (m l : ℕ) → enough m (find least l j) ≡ leb m (min (or_zero (find least l t)) (or_zero (find least l u)))
    enough-joined m l =
        bool_cases (member l (link_names t u))
        (λ q. rw (find-joined least l, link-found b t u ps l, q) (value-enough m _ (larger (find most l t) (find most l u))))
        (λ q.
        let r = unnamed-link t u l q in
        let z : or_zero (find least l t) ≡ 0 = found-zero (find least l t) r.0 in
        let y : min 0 (or_zero (find least l u)) ≡ 0 = omega arith in
        rw (find-joined least l, link-found b t u ps l, q, z, y) (value-enough m 0 none))

    pub most-joined : (l : ℕ) → find most l j ≡ larger (find most l t) (find most l u)
    most-joined l =
        bool_cases (member l (link_names t u))
        (λ q. rw (find-joined most l, link-found b t u ps l, q))
        (λ q.
        let r = unnamed-link t u l q in
        rw (find-joined most l, link-found b t u ps l, q, found-none (find most l t) r.1))

    -- it supports what both do
    pub supports-joined : (a : Atom) → supports b j a ≡ supports b t a && supports b u a
    supports-joined (atom has p m) = has-joined p
    supports-joined (atom lacks p m) =
        rw (lacks-joined p, excluded-joined p)
        (bool_cases (implied b p t u)
        (λ z. rw (z, implied-lack p z))
        (λ z. rw z (drop (both_lack p))))
      where
        drop : (x : Bool) → ((x && true) || false) ≡ x
        drop true = refl
        drop false = refl
    supports-joined (atom least l m) =
        enough-joined m l ∙ leb-min m (or_zero (find least l t)) (or_zero (find least l u))
        ∙ ap₂ (λ (x y : Bool). x && y) (sym (enough-zero m (find least l t))) (sym (enough-zero m (find least l u)))
    supports-joined (atom most l m) = rw (most-joined l) (most-both m (find most l t) (find most l u) (at_most m (b.cap l)))
    supports-joined (atom nothing n m) = refl

    -- ---- the cells of two normal places

    least-under : (m q : ℕ) (o : Option ℕ) → q ≤ m → under m o ≡ false → under q o ≡ false
    least-under m q none h e = refl
    least-under m q (some x) h e = omega tests

    idle-larger : (c x y : Option ℕ) → idle c x ≡ false → idle c y ≡ false → idle c (larger x y) ≡ false
    idle-larger c none y e f = refl
    idle-larger c (some x) none e f = refl
    idle-larger none (some x) (some y) e f = refl
    idle-larger (some q) (some x) (some y) e f = omega tests

    module _ (ht : Canonical b t) (hu : Canonical b u) where
      clean-of : {v : Place} → Canonical b v → Clean b v
      clean-of (canonical a c d s) = c

      -- a property that a normal place has, it does not support the lack of
      no-lack : (v : Place) → Canonical b v → (p : ℕ) → found (find has p v) ≡ true → supports b v (atom lacks p 0) ≡ false
      no-lack v h p e =
          opt_cases (find has p v) (λ z. both_ways e (rw z)) (λ m z. (clean-of h has p m z).0)

      property-whole : (p : ℕ) → cell_whole (property_cell b t u p) ≡ true
      property-whole p =
          bool_cases (found (find has p t) && found (find has p u))
          (λ z. rw (z, no-lack t ht p (and_left (found (find has p t)) (found (find has p u)) z)))
          (λ z. rw z)

      property-tells : (p : ℕ) → cell_tells b (λ n. excluded b n j) (property_cell b t u p) ≡ true
      property-tells p =
          rw (excluded-joined p)
          (bool_cases (implied b p t u)
          (λ z.
          let x = implied-shared b p u t z in
          let out : excluded b p t ≡ true = has-excludes t p x.name x.first x.against in
          let no : found (find has p t) ≡ false = not-true (λ e. opt_cases (find has p t) (λ w. both_ways e (rw w))
          (λ m w. both_ways out (neither_right (found (find lacks p t)) (excluded b p t) (clean-of ht has p m w).0))) in
          rw (z, no, and-false (both_lack p)))
          (λ z. rw z))

      free-zero : (o : Option ℕ) → under 0 o ≡ false
      free-zero none = refl
      free-zero (some q) = omega tests

      least-within : (l m : ℕ) → or_zero (find least l t) ≡ m → (under m (find most l t) ≡ false) × (under m (b.cap l) ≡ false)
      least-within l m e =
          opt_cases (find least l t)
          (λ z. let i : m ≡ 0 = sym e ∙ rw z in rw i (free-zero (find most l t), free-zero (b.cap l)))
          (λ q z.
          let i : q ≡ m = sym (ap or_zero z) ∙ e in
          let c = (clean-of ht least l q z).0 in
          let x : under q (find most l t) ≡ false = neither_left (under q (find most l t)) (under q (b.cap l)) c in
          let y : under q (b.cap l) ≡ false = neither_right (under q (find most l t)) (under q (b.cap l)) c in
          (rw i at x, rw i at y))

      abbrev low : ℕ → ℕ
      low l = min (or_zero (find least l t)) (or_zero (find least l u))

      under-larger : (q : ℕ) (x y : Option ℕ) → under q x ≡ false → under q (larger x y) ≡ false
      under-larger q none y e = refl
      under-larger q (some x) none e = refl
      under-larger q (some x) (some y) e = omega tests

      low-below : (l : ℕ) (o : Option ℕ) → under (or_zero (find least l t)) o ≡ false → under (low l) o ≡ false
      low-below l o e = least-under (or_zero (find least l t)) (low l) o (omega arith) e

      link-whole : (l : ℕ) → cell_whole (link_cell t u l) ≡ true
      link-whole l =
          not-to-true (under-larger (low l) (find most l t) (find most l u) (low-below l (find most l t) (least-within l _ refl).0))

      idle-listed : (v : Place) → Canonical b v → (l : ℕ) → idle (b.cap l) (find most l v) ≡ false
      idle-listed v h l =
          opt_cases (find most l v)
          (λ z. rw z)
          (λ m z. rw z (false_of_not (at_most m (b.cap l)) (clean-of h most l m z).1))

      link-tells : (l : ℕ) → cell_tells b (λ n. excluded b n j) (link_cell t u l) ≡ true
      link-tells l =
          and_both (not-to-true (low-below l (b.cap l) (least-within l _ refl).1))
          (not-to-true (idle-larger (b.cap l) (find most l t) (find most l u) (idle-listed t ht l) (idle-listed u hu l)))

  -- ---- the joined place is normal

  pub canonical-joined : (t u : Place) → Canonical b t → Canonical b u → Canonical b (joined_place b ps t u)
  unfolding joined_place
  canonical-joined t u (canonical a c d f) hu =
      let ht : Canonical b t = canonical a c d f in
      written-normal law (λ n. excluded b n (joined_place b ps t u)) (T t u) (joined_cells b ps t u) (cells-ascend b t u ps inc)
      (cells-pass b t u ps cell_whole (property-whole t u ht hu) (link-whole t u ht hu))
      (cells-pass b t u ps (cell_tells b (λ n. excluded b n (joined_place b ps t u))) (property-tells t u ht hu) (link-tells t u ht hu))
      (λ p e. e)
      (λ i g n lo hi m k.
      bool_cases (supports b u (atom most i 0))
      (λ q. rw q (canonical-sub law i t ht))
      (λ q. bool_cases (supports b t (atom most i 0))
      (λ z. rw (q, z) (canonical-sub law i u hu))
      (λ z. bool_cases (is_end (sub i t))
      (λ y. rw (q, z, below-none b ps t i (sub i u) a y) (canonical-end law))
      (λ y. rw (q, z, below-some b ps t i (sub i u) y) (canonical-joined (sub i t) (sub i u) (f i y) (canonical-sub law i u hu))))))

  -- ---- and joins the two

  -- a normal place owns nothing by a link of which it has at most 0
  shut : (v : Place) → ((m : ℕ) → is_end (sub m v) ≡ false → supports b v (atom most m 0) ≡ false) → (m : ℕ)
      → supports b v (atom most m 0) ≡ true → is_end (sub m v) ≡ true
  shut v g m e = bool_cases (is_end (sub m v)) (λ z. z) (λ z. both_ways e (g m z))

  -- what is made below a link is what stands there, unless both sides have at most 0 of it
  pub below-joined : (t u : Place) → Canonical b t → Canonical b u → (l : ℕ) → sub l (joined_place b ps t u) ≡ T t u l
  below-joined t u (canonical a c d f) (canonical a' c' d' f') l =
      bool_cases (member l (link_names t u))
      (λ q. rw (sub-joined t u l, link-found b t u ps l, q)
      (bool_cases (at_most 0 (larger (find most l t) (find most l u)))
      (λ z.
      let y : ((at_most 0 (find most l t) || at_most 0 (b.cap l)) && (at_most 0 (find most l u) || at_most 0 (b.cap l))) ≡ true
      = sym (most-both 0 (find most l t) (find most l u) (at_most 0 (b.cap l))) ∙ or_left (at_most 0 (b.cap l)) z in
      let ct : supports b t (atom most l 0) ≡ true = and_left (supports b t (atom most l 0)) (supports b u (atom most l 0)) y in
      let cu : supports b u (atom most l 0) ≡ true = and_right (supports b t (atom most l 0)) (supports b u (atom most l 0)) y in
      let e : is_end (sub l t) ≡ true = shut t d l ct in
      rw (z, cu) (sym (is-end (sub l t) e)))
      (λ z. rw z)))
      (λ q.
      let r = unnamed-link t u l q in
      let et : sub l t ≡ end = is-end (sub l t) r.2 in
      let eu : sub l u ≡ end = is-end (sub l u) r.3 in
      rw (sub-joined t u l, link-found b t u ps l, q)
      (bool_cases (supports b u (atom most l 0))
      (λ z. rw (z, et))
      (λ z. bool_cases (supports b t (atom most l 0))
      (λ y. rw (z, y, eu))
      (λ y. rw (z, y) (sym (below-none b ps t l (sub l u) a r.2))))))

  -- an empty place joins with any
  end-supports : (u : Place) (a : Atom) → supports b end a ≡ supports b end a && supports b u a
  unfolding find excluded
  end-supports u (atom has p m) = refl
  end-supports u (atom lacks p m) = refl
  end-supports u (atom least l m) =
      iff-eq (λ e. and_both {a = eqb m 0} e (enough-zero m (find least l u) ∙ omega tests)) (λ e. and_left (eqb m 0) (enough m (find least l u)) e)
  end-supports u (atom most l m) =
      iff-eq (λ e. and_both {a = at_most m (b.cap l)} e (or_right (at_most m (find most l u)) e))
      (λ e. and_left (at_most m (b.cap l)) (at_most m (find most l u) || at_most m (b.cap l)) e)
  end-supports u (atom nothing n m) = refl

  end-joined : (u : Place) → Canonical b u → Joined b end u end
  unfolding sub find
  end-joined u (canonical a c d f) =
      joined (end-supports u)
      (λ l x. both_ways x (cap-open law l))
      (λ l y. refl)
      (λ l z. refl)
      (λ l x y z. end-joined (sub l u) (f l z))

  pub joins : (t u : Place) → Canonical b t → Canonical b u → Joined b t u (joined_place b ps t u)
  joins t u (canonical a c d f) (canonical a' c' d' f') =
      let ht : Canonical b t = canonical a c d f in
      let hu : Canonical b u = canonical a' c' d' f' in
      joined (supports-joined t u)
      (λ l x. below-joined t u ht hu l ∙ bool_cases (supports b u (atom most l 0))
      (λ y. rw (y, is-end (sub l t) (shut t d l x), is-end (sub l u) (shut u d' l y)))
      (λ y. rw (y, x)))
      (λ l y. below-joined t u ht hu l ∙ rw y)
      (λ l z.
      let e : is_end (sub l t) ≡ true = and_left (is_end (sub l t)) (is_end (sub l u)) z in
      let e' : is_end (sub l u) ≡ true = and_right (is_end (sub l t)) (is_end (sub l u)) z in
      below-joined t u ht hu l ∙ bool_cases (supports b u (atom most l 0))
      (λ y. rw (y, is-end (sub l t) e))
      (λ y. bool_cases (supports b t (atom most l 0))
      (λ x. rw (y, x, is-end (sub l u) e'))
      (λ x. rw (y, x) (below-none b ps t l (sub l u) a e))))
      (λ l x y z.
      let i : sub l (joined_place b ps t u) ≡ joined_below b ps t l (sub l u) = below-joined t u ht hu l ∙ rw (y, x) in
      bool_cases (is_end (sub l t))
      (λ w. rw (i, below-none b ps t l (sub l u) a w, is-end (sub l t) w) (end-joined (sub l u) (canonical-sub law l u hu)))
      (λ w. rw (i, below-some b ps t l (sub l u) w) (joins (sub l t) (sub l u) (f l w) (canonical-sub law l u hu))))
