-- What the joined place lists comes from the two places: what holds of each of their entries holds of each of its own,
-- and it has no more levels.
-- Assumes nothing.
use Prim.Native.Nat.{◌≤◌, max, min, pred, suc, ℕ}
use lib.Dec.{eqb, leb}
use mathlib.Core.Bool.{Bool, ◌&&◌, false, not, true, true≢false}
use mathlib.Core.List.{List, [], ◌∷◌, ◌++◌, map}
use mathlib.Core.Option.{Option, none, some}
use mathlib.Core.Path.{◌≡◌, refl, sym}
use native.Mathlib.Omega.{arith}
use Rattle.base.proofs.Missing.{opt_cases, some-none}
use Rattle.base.proofs.Tests.{and_left, bool_cases, both_ways, eqb-eq, or_cases, tests}
use Rattle.logic.proofs.NormalForm.IsNormal.{canonical-sub}
use Rattle.logic.proofs.PlaceTrees.Lookup.{excluder, find_head, is-end, same_kind, same_name, sub-head}
use Rattle.logic.proofs.PlaceTrees.Order.{find-rest, sub-rest}
use Rattle.logic.proofs.TreeRows.AllEntries.{AllEntries}
use Rattle.logic.specs.Background.{Background, LawfulBackground}
use Rattle.logic.specs.Canonical.{Ascending, Canonical, Clean, canonical, telling}
use Rattle.logic.specs.Normal.{excluded, find, found, is_end, same, sub, supports}
use Rattle.logic.specs.Place.{Atom, Kind, Place, atom, has, lacks, least, most, nothing}
use Rattle.logic.specs.Size.{levels, measure}
use Rattle.logic.specs.Tree.{end, leaf, node}
use Rattle.logic.specs.Witness.{or_zero}
use Rattle.narrow.proofs.Joining.JoinParts.{below-none, below-some}
use Rattle.narrow.specs.Join.{implied, joined_below, joined_cells, joined_place, link_cell, link_names, place_below, property_cell, property_names}
use Rattle.passes.specs.code.Forms.{kept, leaf_if, of_every, of_kind, written}
use Rattle.passes.specs.code.Slots.{Cell, cell, is_link, same_class, value}

-- ---- the entries of one place

module _ (P : Atom → Type 0) (R : ℕ → Place → Type 0) where
  -- P of each atom, R of each 'every' with what it owns
  abbrev pub Each : Place → Type 0
  Each end = Unit {0}
  Each (leaf a r) = P a × Each r
  Each (node l s r) = R l s × Each r

  pub each-found : (k : Kind) (n m : ℕ) (t : Place) → find k n t ≡ some m → Each t → P (atom k n m)
  unfolding find
  each-found k n m end e h = some-none e refl
  each-found k n m (leaf (atom k' n' m') r) e h =
      bool_cases (same k n k' n')
      (λ q.
      let i : k ≡ k' = same_kind k n k' n' q in
      let j : n ≡ n' = same_name k n k' n' q in
      let y : some m' ≡ some m = rw q at e in
      let x : m' ≡ m = cc in
      rw (i, j, ← x) h.0)
      (λ q. each-found k n m r (rw q at e) h.1)
  each-found k n m (node l s r) e h = each-found k n m r e h.1

  pub each-sub : (l : ℕ) (t : Place) → is_end (sub l t) ≡ false → Each t → R l (sub l t)
  unfolding sub
  each-sub l end e h = absurd (true≢false e)
  each-sub l (leaf a r) e h = each-sub l r e h.1
  each-sub l (node l' s r) e h =
      bool_cases (eqb l l')
      (λ q. let i : l ≡ l' = eqb-eq q in rw (q, i) h.0)
      (λ q. rw q (each-sub l r (rw q at e) h.1))

  -- where entries ascend, what is listed is all that there is
  pub listed-each : (t : Place) → Ascending t → ((k : Kind) (n m : ℕ) → find k n t ≡ some m → P (atom k n m))
      → ((l : ℕ) → is_end (sub l t) ≡ false → R l (sub l t)) → Each t
  listed-each end a f g = tt
  listed-each (leaf (atom k n m) r) a f g =
      (f k n m (find_head k n m r), listed-each r a.1 (λ k' n' m' e. f k' n' m' (find-rest k n m r a.0 k' n' m' e)) (unfold sub in g))
  listed-each (node l s r) a f g =
      (rw (sub-head l s r) at (g l (rw (sub-head l s r) a.1)), listed-each r a.2 (unfold find in f) (λ l' e. rw (sub-rest l s r a.0 l' e) at (g l' (rw (sub-rest l s r a.0 l' e) e))))

  -- ---- a place that is written from cells

  abbrev Lists : Kind → Cell → Type 0
  Lists a (cell j b n lo hi) = (m : ℕ) → same_class b (is_link a) ≡ true → value a lo hi ≡ some m → P (atom a n m)

  abbrev Leads : (ℕ → Place) → Cell → Type 0
  Leads T (cell j b n lo hi) = kept T j b hi ≡ true → R n (T j)

  abbrev OfCells : (Cell → Type 0) → List Cell → Type 0
  OfCells F [] = Unit {0}
  OfCells F (c ∷ q) = F c × OfCells F q

  each-leaf_if : (a : Kind) (n : ℕ) (o : Option ℕ) (r : Place) → ((m : ℕ) → o ≡ some m → P (atom a n m)) → Each r → Each (leaf_if a n o r)
  each-leaf_if a n none r f h = h
  each-leaf_if a n (some m) r f h = (f m refl, h)

  each-kind : (a : Kind) (q : List Cell) (r : Place) → OfCells (Lists a) q → Each r → Each (of_kind a q r)
  unfolding of_kind
  each-kind a [] r f h = h
  each-kind a (cell j b n lo hi ∷ q) r f h =
      bool_cases (same_class b (is_link a))
      (λ z. rw z (each-leaf_if a n (value a lo hi) (of_kind a q r) (λ m e. f.0 m z e) (each-kind a q r f.1 h)))
      (λ z. rw z (each-kind a q r f.1 h))

  each-every : (T : ℕ → Place) (q : List Cell) → OfCells (Leads T) q → Each (of_every T q)
  unfolding of_every
  each-every T [] f = tt
  each-every T (cell j b n lo hi ∷ q) f =
      bool_cases (kept T j b hi) (λ z. rw z (f.0 z, each-every T q f.1)) (λ z. rw z (each-every T q f.1))

  each-written : (T : ℕ → Place) (q : List Cell) → ((a : Kind) → OfCells (Lists a) q) → OfCells (Leads T) q → Each (written T q)
  unfolding written
  each-written T q f g =
      each-kind has q _ (f has) (each-kind lacks q _ (f lacks) (each-kind least q _ (f least) (each-kind most q _ (f most) (each-every T q g))))

  of-cells : (F : Cell → Type 0) (b : Background) (t u : Place) (ps : List ℕ) → ((n : ℕ) → F (property_cell b t u n)) → ((l : ℕ) → F (link_cell t u l))
      → OfCells F (joined_cells b ps t u)
  unfolding joined_cells
  of-cells F b t u ps f g = properties (map (link_cell t u) (link_names t u)) (property_names ps t u) (links (link_names t u))
    where
      links : (L : List ℕ) → OfCells F (map (link_cell t u) L)
      links [] = tt
      links (l ∷ L) = (g l, links L)

      properties : (q : List Cell) (N : List ℕ) → OfCells F q → OfCells F (map (property_cell b t u) N ++ q)
      properties q [] h = h
      properties q (n ∷ N) h = (f n, properties q N h)

  -- ---- the joined place

  module _ (b : Background) (ps : List ℕ) (lacking : (p q m : ℕ) → b.excludes q p ≡ true → P (atom has q m) → P (atom lacks p 0)) where
    module _ (t u : Place) (ct : Clean b t) (cu : Clean b u) (et : Each t) (eu : Each u) where
      listed-one : (v : Place) → Clean b v → Each v → (k : Kind) (p : ℕ) → found (find k p v) ≡ true → eqb 0 0 ≡ true
          → ((m : ℕ) → telling b v (atom k p m) ≡ true → m ≡ 0) → P (atom k p 0)
      listed-one v c e k p f z g =
          opt_cases (find k p v)
          (λ q. both_ways f (rw q))
          (λ m q. let i : m ≡ 0 = g m (c k p m q).1 in rw (← i) (each-found k p m v q e))

      property-lists : (a : Kind) (p : ℕ) → Lists a (property_cell b t u p)
      property-lists has p m z e =
          bool_cases (found (find has p t) && found (find has p u))
          (λ q.
          let y : some 0 ≡ some m = rw q at e in
          let i : 0 ≡ m = cc in
          rw (← i) (listed-one t ct et has p (and_left (found (find has p t)) (found (find has p u)) q) refl (λ m h. omega tests)))
          (λ q. some-none e (rw q))
      property-lists lacks p m z e =
          bool_cases ((supports b t (atom lacks p 0) && supports b u (atom lacks p 0)) && not (implied b p t u))
          (λ q.
          let y : some 0 ≡ some m = rw q at e in
          let i : 0 ≡ m = cc in
          let s : supports b t (atom lacks p 0) ≡ true = and_left (supports b t (atom lacks p 0)) (supports b u (atom lacks p 0)) (and_left _ (not (implied b p t u)) q) in
          rw (← i) (or_cases (found (find lacks p t)) (excluded b p t) s
          (λ w. listed-one t ct et lacks p w refl (λ m h. let x = and_left (eqb m 0) (not (excluded b p t)) h in omega tests))
          (λ w. let x = excluder b p t w in lacking p x.name x.number x.against (each-found has x.name x.number t x.listed et))))
          (λ q. some-none e (rw q))
      property-lists least p m z e = absurd (true≢false (sym z))
      property-lists most p m z e = absurd (true≢false (sym z))
      property-lists nothing p m z e = some-none e refl

      -- a number that is one of two that are listed
      one-of : (k : Kind) (l x y : ℕ) → find k l t ≡ some x → find k l u ≡ some y → (P (atom k l (min x y))) × (P (atom k l (max x y)))
      one-of k l x y e f =
          let a : P (atom k l x) = each-found k l x t e et in
          let c : P (atom k l y) = each-found k l y u f eu in
          bool_cases (leb x y)
          (λ q. let i : min x y ≡ x = omega tests in let j : max x y ≡ y = omega tests in (rw i a, rw j c))
          (λ q. let i : min x y ≡ y = omega tests in let j : max x y ≡ x = omega tests in (rw i c, rw j a))

      link-lists : (a : Kind) (l : ℕ) → Lists a (link_cell t u l)
      link-lists has l m z e = absurd (true≢false (sym z))
      link-lists lacks l m z e = absurd (true≢false (sym z))
      link-lists least l m z e =
          opt_cases (find least l t)
          (λ p. let i : min 0 (or_zero (find least l u)) ≡ 0 = omega arith in some-none e (rw (p, i)))
          (λ x p. opt_cases (find least l u)
          (λ q. let i : min x 0 ≡ 0 = omega arith in some-none e (rw (p, q, i)))
          (λ y q. bool_cases (eqb (min x y) 0)
          (λ w. some-none e (rw (p, q, w)))
          (λ w.
          let v : some (min x y) ≡ some m = rw (p, q, w) at e in
          let i : min x y ≡ m = cc in
          rw (← i) (one-of least l x y p q).0)))
      link-lists most l m z e =
          opt_cases (find most l t)
          (λ p. some-none e (rw p))
          (λ x p. opt_cases (find most l u)
          (λ q. some-none e (rw (p, q)))
          (λ y q.
          let v : some (max x y) ≡ some m = rw (p, q) at e in
          let i : max x y ≡ m = cc in
          rw (← i) (one-of most l x y p q).1))
      link-lists nothing l m z e = some-none e refl

      abbrev below : ℕ → Place
      below l = place_below b t u l (joined_below b ps t l (sub l u))

      pub each-joined : ((l : ℕ) → is_end (below l) ≡ false → R l (below l)) → Each (joined_place b ps t u)
      unfolding joined_place
      each-joined g =
          each-written below (joined_cells b ps t u)
          (λ a. of-cells (Lists a) b t u ps (property-lists a) (link-lists a))
          (of-cells (Leads below) b t u ps (λ n k. absurd (true≢false (sym k)))
          (λ l k. g l (alive (is_end (below l)) _ k)))
        where
          alive : (e d : Bool) → (not e && d) ≡ true → e ≡ false
          alive true d k = absurd (true≢false (sym k))
          alive false d k = refl

-- ---- all places together

-- levels, place by place
levels-each : (k : ℕ) (t : Place) → levels t ≤ k → Each (λ a. 1 ≤ k) (λ l s. suc (levels s) ≤ k) t
unfolding measure
levels-each k end h = tt
levels-each k (leaf a r) h = (omega arith, levels-each k r (omega arith))
levels-each k (node l s r) h = (omega arith, levels-each k r (omega arith))

each-levels : (k : ℕ) (t : Place) → Each (λ a. 1 ≤ k) (λ l s. suc (levels s) ≤ k) t → levels t ≤ k
unfolding measure
each-levels k end h = omega arith
each-levels k (leaf a r) h = omega (arith, h.0, each-levels k r h.1)
each-levels k (node l s r) h = omega (arith, h.0, each-levels k r h.1)

pub all-each : (P : Atom → Type 0) (Q : ℕ → Type 0) (t : Place) → AllEntries P Q t → Each P (λ l s. Q l × AllEntries P Q s) t
all-each P Q end h = tt
all-each P Q (leaf a r) h = (h.0, all-each P Q r h.1)
all-each P Q (node l s r) h = ((h.0, h.1), all-each P Q r h.2)

pub each-all : (P : Atom → Type 0) (Q : ℕ → Type 0) (t : Place) → Each P (λ l s. Q l × AllEntries P Q s) t → AllEntries P Q t
each-all P Q end h = tt
each-all P Q (leaf a r) h = (h.0, each-all P Q r h.1)
each-all P Q (node l s r) h = (h.0.0, h.0.1, each-all P Q r h.1)

clean-in : {b : Background} {t : Place} → Canonical b t → Clean b t
clean-in (canonical a c d f) = c

module _ {b : Background} (law : LawfulBackground b) (ps : List ℕ) where
  -- what stands below a link of the joined place: what stands below it at the one side, or at the other, or the two
  -- joined
  module _ (G : ℕ → Place → Type 0) (t u : Place) (a : Ascending t) (l : ℕ) (first : is_end (sub l t) ≡ false → G l (sub l t))
      (second : is_end (sub l u) ≡ false → G l (sub l u)) (both : is_end (sub l t) ≡ false → G l (joined_place b ps (sub l t) (sub l u))) where
    pub made-below : is_end (place_below b t u l (joined_below b ps t l (sub l u))) ≡ false → G l (place_below b t u l (joined_below b ps t l (sub l u)))
    made-below e =
        bool_cases (supports b u (atom most l 0))
        (λ q. rw q (first (rw q at e)))
        (λ q. bool_cases (supports b t (atom most l 0))
        (λ z. rw (q, z) (second (rw (q, z) at e)))
        (λ z. bool_cases (is_end (sub l t))
        (λ y. let x : true ≡ false = rw (q, z, below-none b ps t l (sub l u) a y) at e in absurd (true≢false x))
        (λ y. rw (q, z, below-some b ps t l (sub l u) y) (both y))))

  -- no more levels than one of them
  pub levels-joined : (t u : Place) → Canonical b t → Canonical b u → (k : ℕ) → levels t ≤ k → levels u ≤ k → levels (joined_place b ps t u) ≤ k
  levels-joined t u (canonical a c d f) hu k h g =
      let deep : (s : Place) → levels s ≤ k → (l : ℕ) → is_end (sub l s) ≡ false → suc (levels (sub l s)) ≤ k
      = λ s i l e. each-sub (λ a. 1 ≤ k) (λ l s. suc (levels s) ≤ k) l s e (levels-each k s i) in
      each-levels k (joined_place b ps t u)
      (each-joined (λ a. 1 ≤ k) (λ l s. suc (levels s) ≤ k) b ps (λ p q m x y. y) t u c (clean-in hu) (levels-each k t h) (levels-each k u g)
      (λ l. made-below (λ l s. suc (levels s) ≤ k) t u a l (deep t h l) (deep u g l)
      (λ e.
      let x : suc (levels (sub l t)) ≤ k = deep t h l e in
      let y : levels (sub l u) ≤ pred k
      = bool_cases (is_end (sub l u)) (λ z. rw (is-end (sub l u) z) (unfold measure in omega arith)) (λ z. omega (arith, deep u g l z)) in
      let w = levels-joined (sub l t) (sub l u) (f l e) (canonical-sub law l u hu) (pred k) (omega arith) y in
      omega arith)))

  -- what holds of each entry of both holds of each of the joined place
  module _ (P : Atom → Type 0) (Q : ℕ → Type 0) (lacking : (p q m : ℕ) → b.excludes q p ≡ true → P (atom has q m) → P (atom lacks p 0)) where
    abbrev Sub : ℕ → Place → Type 0
    Sub l s = Q l × AllEntries P Q s

    all-sub : (l : ℕ) (t : Place) → AllEntries P Q t → AllEntries P Q (sub l t)
    all-sub l t h = bool_cases (is_end (sub l t)) (λ z. rw (is-end (sub l t) z) tt) (λ z. (each-sub P Sub l t z (all-each P Q t h)).1)

    pub all-joined : (t u : Place) → Canonical b t → Canonical b u → AllEntries P Q t → AllEntries P Q u → AllEntries P Q (joined_place b ps t u)
    all-joined t u (canonical a c d f) hu h g =
        each-all P Q (joined_place b ps t u)
        (each-joined P Sub b ps lacking t u c (clean-in hu) (all-each P Q t h) (all-each P Q u g)
        (λ l. made-below Sub t u a l (λ e. each-sub P Sub l t e (all-each P Q t h)) (λ e. each-sub P Sub l u e (all-each P Q u g))
        (λ e. (
          (each-sub P Sub l t e (all-each P Q t h)).0,
          all-joined (sub l t) (sub l u) (f l e) (canonical-sub law l u hu) (all-sub l t h) (all-sub l u g),
        ))))
