-- Where no place is impossible, what a normal form holds is said by one atom of the description by itself, or by every
-- record.
-- Assumes nothing.
use Prim.Native.Nat.{ℕ}
use lib.Dec.{eqb}
use mathlib.Core.Bool.{◌&&◌, ◌||◌, false, false≢true, true}
use mathlib.Core.List.{List, [], ◌∷◌}
use mathlib.Core.Logic.{◌⊎◌, inl, inr, ⊎_elim}
use mathlib.Core.Option.{Option, none, some}
use mathlib.Core.Path.{◌∙◌, ◌≡◌, ap, refl, subst, sym}
use Rattle.base.proofs.Tests.{and_both, bool_cases, both_ways, eqb-eq, eqb-self, neither_left, neither_right, or_cases, or_left, or_right, or-none, tests}
use Rattle.logic.proofs.NormalForm.IsNormal.{add-normal, alive, canonical-alive, canonical-below, canonical-end, canonical-sub}
use Rattle.logic.proofs.PlaceTrees.Inserted.{from_more, more, owned-old}
use Rattle.logic.proofs.PlaceTrees.Listed.{FromEither, excluded-either, look-either, only}
use Rattle.logic.proofs.PlaceTrees.Lookup.{is-end}
use Rattle.logic.proofs.PlaceTrees.Passes.{find-put_every, find-remove_every, sub-put_every-other, sub-put_every-same, sub-remove_every-other, sub-remove_every-same}
use Rattle.logic.proofs.PlaceTrees.Thinner.{ascending-thinner, thinner-remove_every}
use Rattle.logic.specs.Background.{Background, LawfulBackground}
use Rattle.logic.specs.Canonical.{Ascending, Canonical, canonical}
use Rattle.logic.specs.Holds.{holds_at}
use Rattle.logic.specs.Normal.{add, at_most, clash, enough, excluded, fill, find, found, insert, is_bottom, is_end, nf, put_every, remove_every, same, stored, sub, supports, within}
use Rattle.logic.specs.Place.{Atom, Kind, Place, atom, has, lacks, least, most, nothing}
use Rattle.logic.specs.Tree.{end, leaf, node}
use Rattle.narrow.specs.Heard.{Possible, alone, heard}
use Rattle.passes.proofs.Cells.CellsTell.{cap-open}

-- what neither place supports, one that lists what either lists does not
supports-either : {u t v : Place} → FromEither u t v → (b : Background) (a : Atom) → supports b t a ≡ false → supports b v a ≡ false → supports b u a ≡ false
supports-either f b (atom has p m) e g = look-either f found refl has p e g
supports-either {t = t} {v = v} f b (atom lacks p m) e g =
    or-none
    (look-either f found refl lacks p (neither_left (found (find lacks p t)) (excluded b p t) e) (neither_left (found (find lacks p v)) (excluded b p v) g))
    (excluded-either f b p (neither_right (found (find lacks p t)) (excluded b p t) e) (neither_right (found (find lacks p v)) (excluded b p v) g))
supports-either {t = t} {v = v} f b (atom least l m) e g = bool_cases (eqb m 0) (λ z. both_ways (zero z) e) (λ z. look-either f (enough m) (rw z) least l e g)
  where
    zero : eqb m 0 ≡ true → enough m (find least l t) ≡ true
    zero z = some-number (find least l t)
      where
        some-number : (o : Option ℕ) → enough m o ≡ true
        some-number none = z
        some-number (some q) = omega tests
supports-either {t = t} {v = v} f b (atom most l m) e g =
    or-none
    (look-either f (at_most m) refl most l (neither_left (at_most m (find most l t)) (at_most m (b.cap l)) e) (neither_left (at_most m (find most l v)) (at_most m (b.cap l)) g))
    (neither_right (at_most m (find most l t)) (at_most m (b.cap l)) e)
supports-either f b (atom nothing n m) e g = e

either-supports : {u t v : Place} → FromEither u t v → (b : Background) (a : Atom) → supports b u a ≡ true
    → (supports b t a ≡ true) ⊎ (supports b v a ≡ true)
either-supports {u} {t} {v} f b a h =
    bool_cases (supports b t a) (λ z. inl z) (λ z. bool_cases (supports b v a) (λ y. inr y) (λ y. both_ways h (supports-either f b a z y)))

-- a property's number says nothing
any-number : (k' : Kind) (p : ℕ) (k : Kind) (n m m' : ℕ) → found (find k' p (only (atom k n m))) ≡ found (find k' p (only (atom k n m')))
unfolding find
any-number k' p k n m m' = bool_cases (same k' p k n) (λ q. rw q) (λ q. rw q)

stored-supports : (b : Background) (k : Kind) (n m : ℕ) (a : Atom) → supports b (only (atom k n (stored k m))) a ≡ true → supports b (alone (atom k n m)) a ≡ true
unfolding find excluded
stored-supports b has n m (atom has p x) h = sym (any-number has p has n 0 m) ∙ h
stored-supports b has n m (atom lacks p x) h = h
stored-supports b has n m (atom least l x) h = h
stored-supports b has n m (atom most l x) h = h
stored-supports b has n m (atom nothing l x) h = h
stored-supports b lacks n m (atom has p x) h = h
stored-supports b lacks n m (atom lacks p x) h =
    or_cases (found (find lacks p (only (atom lacks n 0)))) (excluded b p (only (atom lacks n 0))) h
    (λ z. or_left (excluded b p (only (atom lacks n m))) (sym (any-number lacks p lacks n 0 m) ∙ z))
    (λ z. or_right (found (find lacks p (only (atom lacks n m)))) z)
stored-supports b lacks n m (atom least l x) h = h
stored-supports b lacks n m (atom most l x) h = h
stored-supports b lacks n m (atom nothing l x) h = h
stored-supports b least n m a h = h
stored-supports b most n m a h = h
stored-supports b nothing n m a h = h

-- what an empty place holds, it supports
holds-end : {b : Background} → LawfulBackground b → (w : List ℕ) (a : Atom) → holds_at b end w a ≡ true → supports b end a ≡ true
unfolding holds_at sub find excluded
holds-end law [] a h = h
holds-end {b} law (l ∷ w) a h = or_cases (at_most 0 (b.cap l)) (holds_at b end w a) h (λ z. both_ways z (cap-open law l)) (λ z. holds-end law w a z)

module _ {b : Background} (law : LawfulBackground b) where
  abbrev Trivial : Atom → Type 0
  Trivial a = supports b end a ≡ true

  -- ---- an atom that is added

  -- the place with an atom added, if it is not impossible, is the place or lists the atom
  module _ (k : Kind) (n m : ℕ) (t : Place) (h : Canonical b t) (z : is_bottom (insert b (atom k n m) t) ≡ false) where
    ascending-t : Ascending t
    ascending-t = first h
      where
        first : Canonical b t → Ascending t
        first (canonical a c d f) = a

    inserted-supports : (a : Atom) → supports b (insert b (atom k n m) t) a ≡ true → (supports b t a ≡ true) ⊎ (supports b (alone (atom k n m)) a ≡ true)
    unfolding insert is_bottom
    inserted-supports a e =
        bool_cases (is_bottom t || supports b t (atom k n m))
        (λ q. inl (rw q at e))
        (λ q. bool_cases (clash b t (atom k n m))
        (λ y. let x : true ≡ false = rw (q, y) at z in absurd (false≢true (sym x)))
        (λ y.
        let x : supports b (more law t k n m ascending-t) a ≡ true = rw (q, y) at e in
        ⊎_elim (λ v. inl v) (λ v. inr (stored-supports b k n m a v)) (either-supports (from_more law t k n m ascending-t) b a x)))

    inserted-sub : (l : ℕ) → is_end (sub l (insert b (atom k n m) t)) ≡ false → sub l (insert b (atom k n m) t) ≡ sub l t
    unfolding insert is_bottom
    inserted-sub l e =
        bool_cases (is_bottom t || supports b t (atom k n m))
        (λ q. rw q)
        (λ q. bool_cases (clash b t (atom k n m))
        (λ y. let x : true ≡ false = rw (q, y) at z in absurd (false≢true (sym x)))
        (λ y. rw (q, y) (owned-old law t k n m ascending-t l (rw (q, y) at e))))

    inserted-holds : (w : List ℕ) (a : Atom) → holds_at b (insert b (atom k n m) t) w a ≡ true
        → (Trivial a) ⊎ ((holds_at b t w a ≡ true) ⊎ (heard b (leaf (atom k n m) end) w a ≡ true))
    unfolding holds_at heard
    inserted-holds [] a e =
        ⊎_elim (λ v. inr (inl v)) (λ v. inr (inr (or_left false v))) (inserted-supports a e)
    inserted-holds (l ∷ w) a e =
        or_cases (supports b (insert b (atom k n m) t) (atom most l 0)) (holds_at b (sub l (insert b (atom k n m) t)) w a) e
        (λ q. ⊎_elim (λ v. inr (inl (or_left (holds_at b (sub l t) w a) v))) (λ v. inr (inr (or_left false v))) (inserted-supports (atom most l 0) q))
        (λ q. bool_cases (is_end (sub l (insert b (atom k n m) t)))
        (λ y. inl (holds-end law w a (rw (is-end _ y) at q)))
        (λ y. inr (inl (or_right (supports b t (atom most l 0)) (rw (inserted-sub l y) at q)))))

  -- ---- a place that is added

  heard-atom : (x : Atom) (r : Place) (w : List ℕ) (a : Atom) → heard b (leaf x end) w a ≡ true → heard b (leaf x r) w a ≡ true
  unfolding heard
  heard-atom x r [] a e = or_cases (supports b (alone x) a) false e (λ z. or_left (heard b r [] a) z) (λ z. absurd (false≢true z))
  heard-atom x r (l ∷ w) a e =
      or_cases (supports b (alone x) (atom most l 0)) false e (λ z. or_left (heard b r (l ∷ w) a) z) (λ z. absurd (false≢true z))

  heard-rest : (x : Atom) (r : Place) (w : List ℕ) (a : Atom) → heard b r w a ≡ true → heard b (leaf x r) w a ≡ true
  unfolding heard
  heard-rest x r [] a e = or_right (supports b (alone x) a) e
  heard-rest x r (l ∷ w) a e = or_right (supports b (alone x) (atom most l 0)) e

  heard-after : (l' : ℕ) (s r : Place) (w : List ℕ) (a : Atom) → heard b r w a ≡ true → heard b (node l' s r) w a ≡ true
  unfolding heard
  heard-after l' s r [] a e = e
  heard-after l' s r (l ∷ w) a e = or_right (eqb l l' && heard b s w a) e

  heard-below : (l : ℕ) (s r : Place) (w : List ℕ) (a : Atom) → heard b s w a ≡ true → heard b (node l s r) (l ∷ w) a ≡ true
  unfolding heard
  heard-below l s r w a e = or_left (heard b r (l ∷ w) a) (and_both (eqb-self l) e)

  -- what is added under a link: the place s made of what stood there
  module _ (l : ℕ) (s t : Place) (h : Canonical b t) where
    ascends : Ascending t
    ascends = first h
      where
        first : Canonical b t → Ascending t
        first (canonical a c d f) = a

    abbrev pub put_in : Place
    put_in = put_every l s (remove_every l t)

    pub same-lists : FromEither put_in t t
    same-lists = record { listed = λ k n q e. inl (sym (find-put_every k n l s (remove_every l t) ∙ find-remove_every k n l t) ∙ e) }

    put-supports : (a : Atom) → supports b put_in a ≡ true → supports b t a ≡ true
    put-supports a e = ⊎_elim (λ v. v) (λ v. v) (either-supports same-lists b a e)

    pub put-here : sub l put_in ≡ s
    put-here =
        sub-put_every-same l s (remove_every l t) (ascending-thinner (thinner-remove_every l t) ascends) (sub-remove_every-same l t ascends)

    pub put-other : (l' : ℕ) → eqb l' l ≡ false → sub l' put_in ≡ sub l' t
    put-other l' e = sub-put_every-other l s l' (remove_every l t) e ∙ sub-remove_every-other l l' t e

  -- what the place below a link holds
  below-held : (l : ℕ) (T : Place) (v : List ℕ) (c : Atom) → holds_at b (sub l T) v c ≡ true → holds_at b T (l ∷ v) c ≡ true
  unfolding holds_at
  below-held l T v c j = or_right (supports b T (atom most l 0)) j

  pub possible-alive : (d t : Place) → Canonical b t → Possible b d t → is_bottom (add b d t) ≡ false
  unfolding add within fill
  possible-alive end t h p = p
  possible-alive (leaf x r) t h p = p.1
  possible-alive (node l s r) t h p =
      let T : Place = add b r t in
      let z : is_bottom T ≡ false = possible-alive r t h p.0 in
      let hT : Canonical b T = alive law T (add-normal law r t (inr h)) z in
      bool_cases (supports b T (atom most l 0))
      (λ q. rw (z, q) z)
      (λ q.
      let y = p.1 q in
      let S : Place = add b s (sub l T) in
      let hS : Canonical b S = alive law S (add-normal law s (sub l T) (inr (canonical-sub law l T hT))) y.1 in
      bool_cases (is_end S)
      (λ x. rw (z, q, y.1, x) z)
      (λ x. rw (z, q, y.1, x) (canonical-alive (canonical-below law l S T hT hS x q))))

  pub still : (d t : Place) → Canonical b t → Possible b d t → Canonical b (add b d t)
  still d t h p = alive law (add b d t) (add-normal law d t (inr h)) (possible-alive d t h p)

  -- what is held, of a place with an 'every' put in
  put-holds : (G : List ℕ → Atom → Type 0) (l : ℕ) (S T : Place) (h : Canonical b T) → ((w : List ℕ) (a : Atom) → holds_at b T w a ≡ true → G w a)
      → ((w : List ℕ) (a : Atom) → holds_at b S w a ≡ true → G (l ∷ w) a) → (w : List ℕ) (a : Atom) → holds_at b (put_in l S T h) w a ≡ true → G w a
  unfolding holds_at
  put-holds G l S T h f g [] a e = f [] a (put-supports l S T h a e)
  put-holds G l S T h f g (l' ∷ w) a e =
      or_cases (supports b (put_in l S T h) (atom most l' 0)) (holds_at b (sub l' (put_in l S T h)) w a) e
      (λ q. f (l' ∷ w) a (or_left (holds_at b (sub l' T) w a) (put-supports l S T h (atom most l' 0) q)))
      (λ q. bool_cases (eqb l' l)
      (λ z.
      let i : l' ≡ l = eqb-eq z in
      let y : holds_at b (sub l (put_in l S T h)) w a ≡ true = ap (λ (x : ℕ). holds_at b (sub x (put_in l S T h)) w a) (sym i) ∙ q in
      subst (λ (x : ℕ). G (x ∷ w) a) (sym i) (g w a (ap (λ (x : Place). holds_at b x w a) (sym (put-here l S T h)) ∙ y)))
      (λ z. f (l' ∷ w) a (or_right (supports b T (atom most l' 0)) (ap (λ (x : Place). holds_at b x w a) (sym (put-other l S T h l' z)) ∙ q))))

  -- where no place is impossible: what the place holds with the entries of d added, every record keeps, or it held, or
  -- one atom of d says
  abbrev From : Place → Place → List ℕ → Atom → Type 0
  From t d w a = (Trivial a) ⊎ ((holds_at b t w a ≡ true) ⊎ (heard b d w a ≡ true))

  -- what is added under a link
  within-holds : (l : ℕ) (s r t T : Place) → Canonical b T → ((w : List ℕ) (a : Atom) → holds_at b T w a ≡ true → From t (node l s r) w a)
      → (supports b T (atom most l 0) ≡ false → is_bottom (add b s (sub l T)) ≡ false)
      → (supports b T (atom most l 0) ≡ false → (w : List ℕ) (a : Atom) → holds_at b (add b s (sub l T)) w a ≡ true → From (sub l T) s w a)
      → (w : List ℕ) (a : Atom) → holds_at b (within b l (λ u. add b s u) T) w a ≡ true → From t (node l s r) w a
  unfolding within fill
  within-holds l s r t T hT rest possible inner w a e =
      let z : is_bottom T ≡ false = canonical-alive hT in
      bool_cases (supports b T (atom most l 0))
      (λ q. rest w a (rw (z, q) at e))
      (λ q.
      let y = possible q in
      bool_cases (is_end (add b s (sub l T)))
      (λ x. rest w a (rw (z, q, y, x) at e))
      (λ x. put-holds (From t (node l s r)) l (add b s (sub l T)) T hT rest
      (λ v c u. ⊎_elim (λ k. inl k) (λ k. ⊎_elim (λ j. rest (l ∷ v) c (step l v c j)) (λ j. inr (inr (heard-below l s r v c j))) k) (inner q v c u))
      w a (rw (z, q, y, x) at e)))
    where
      step : (l : ℕ) (v : List ℕ) (c : Atom) → holds_at b (sub l T) v c ≡ true → holds_at b T (l ∷ v) c ≡ true
      step l v c j = below-held l T v c j

  pub added-holds : (d t : Place) → Canonical b t → Possible b d t → (w : List ℕ) (a : Atom) → holds_at b (add b d t) w a ≡ true → From t d w a
  unfolding add
  added-holds end t h p w a e = inr (inl e)
  added-holds (leaf (atom k n m) r) t h p w a e =
      ⊎_elim (λ v. inl v)
      (λ v. ⊎_elim
      (λ u. ⊎_elim (λ x. inl x) (λ x. ⊎_elim (λ y. inr (inl y)) (λ y. inr (inr (heard-rest (atom k n m) r w a y))) x) (added-holds r t h p.0 w a u))
      (λ u. inr (inr (heard-atom (atom k n m) r w a u))) v)
      (inserted-holds k n m (add b r t) (still r t h p.0) p.1 w a e)
  added-holds (node l s r) t h p w a e =
      let T : Place = add b r t in
      let hT : Canonical b T = still r t h p.0 in
      within-holds l s r t T hT
      (λ w a u. ⊎_elim (λ x. inl x) (λ x. ⊎_elim (λ y. inr (inl y)) (λ y. inr (inr (heard-after l s r w a y))) x) (added-holds r t h p.0 w a u))
      (λ q. (p.1 q).1)
      (λ q v c u. added-holds s (sub l T) (canonical-sub law l T hT) (p.1 q).0 v c u)
      w a e

  -- the normal form: what it holds every record keeps, or one atom of the description says
  pub single-support : (d : Place) → Possible b d end → (w : List ℕ) (a : Atom) → holds_at b (nf b d) w a ≡ true
      → (Trivial a) ⊎ (heard b d w a ≡ true)
  unfolding nf
  single-support d p w a e =
      ⊎_elim (λ x. inl x) (λ x. ⊎_elim (λ y. inl (holds-end law w a y)) (λ y. inr y) x) (added-holds d end (canonical-end law) p w a e)
