-- Entries of which no two at one path clash: no place comes out impossible, in whatever order they are added; and what
-- they say together, every record keeps or one of them says by itself.
-- Assumes nothing.
use Prim.Native.Nat.{ℕ}
use lib.Dec.{eqb}
use mathlib.Core.Bool.{◌&&◌, false, false≢true, true}
use mathlib.Core.List.{List, [], ◌∷◌}
use mathlib.Core.Logic.{inr, ⊎_elim}
use mathlib.Core.Option.{some}
use mathlib.Core.Path.{◌∙◌, ◌≡◌, ap, refl, subst, sym}
use Rattle.base.proofs.Missing.{some-none}
use Rattle.base.proofs.Tests.{and_both, and_left, and_right, bool_cases, eqb-eq, neither_left, neither_right, or_cases, or-none}
use Rattle.logic.proofs.NormalForm.IsNormal.{add-normal, canonical-alive, canonical-end, canonical-sub}
use Rattle.logic.proofs.PlaceTrees.Inserted.{from_more, more, owned-old}
use Rattle.logic.proofs.PlaceTrees.Listed.{clash-either, only}
use Rattle.logic.proofs.PlaceTrees.Lookup.{is-end}
use Rattle.logic.specs.Background.{Background, LawfulBackground}
use Rattle.logic.specs.Canonical.{Ascending, Canonical, canonical}
use Rattle.logic.specs.Normal.{add, clash, excluded, fill, find, found, insert, is_bottom, is_end, same, stored, sub, supports, under, within}
use Rattle.logic.specs.Place.{Atom, Kind, Place, atom, has, lacks, least, most, nothing}
use Rattle.logic.specs.Tree.{end, leaf, node}
use Rattle.narrow.proofs.Telling.HeardLaws.{possible-alive, put-here, put-other, put_in, same-lists, still}
use Rattle.narrow.specs.Heard.{Possible, alone, heard}
use Rattle.narrow.specs.Told.{tells}

-- atoms at paths
abbrev pub World : Type 1
World = List ℕ → Atom → Type 0

-- those below a link
abbrev pub below : ℕ → World → World
below l W = λ w a. W (l ∷ w) a

-- the place that a path leads to
unfoldable pub at : List ℕ → Place → Place
at [] t = t
at (l ∷ w) t = at w (sub l t)

-- each atom of d is of W
abbrev pub Made : World → Place → Type 0
Made W end = Unit {0}
Made W (leaf x r) = W [] x × Made W r
Made W (node l s r) = Made (below l W) s × Made W r

at-end : (w : List ℕ) → at w end ≡ end
unfolding at sub
at-end [] = refl
at-end (l ∷ w) = at-end w

module _ {b : Background} (law : LawfulBackground b) where
  -- no two at one path clash
  abbrev pub Apart : World → Type 0
  Apart W = (w : List ℕ) (x y : Atom) → W w x → W w y → clash b (alone x) y ≡ false

  -- the place t rules out none of them
  abbrev pub Open : World → Place → Type 0
  Open W t = (w : List ℕ) (y : Atom) → W w y → clash b (at w t) y ≡ false

  -- what is ruled out by nothing else is not by a cap
  pub clash-empty : (x y : Atom) → clash b (alone x) y ≡ false → clash b end y ≡ false
  unfolding find excluded
  clash-empty x (atom has p m) e = refl
  clash-empty x (atom lacks p m) e = refl
  clash-empty x (atom least l m) e = neither_right (under m (find most l (alone x))) (under m (b.cap l)) e
  clash-empty x (atom most l m) e = refl
  clash-empty x (atom nothing l m) e = e

  -- the number that an atom is listed with does not count
  any-number : (k' : Kind) (p : ℕ) (k : Kind) (n m m' : ℕ) → found (find k' p (only (atom k n m))) ≡ found (find k' p (only (atom k n m')))
  unfolding find
  any-number k' p k n m m' = bool_cases (same k' p k n) (λ q. rw q) (λ q. rw q)

  stored-clash : (k : Kind) (n m : ℕ) (y : Atom) → clash b (alone (atom k n m)) y ≡ false → clash b (only (atom k n (stored k m))) y ≡ false
  unfolding find excluded
  stored-clash has n m (atom has p x) e = e
  stored-clash has n m (atom lacks p x) e = any-number has p has n 0 m ∙ e
  stored-clash has n m (atom least l x) e = e
  stored-clash has n m (atom most l x) e = e
  stored-clash has n m (atom nothing l x) e = e
  stored-clash lacks n m (atom has p x) e =
      or-none
      (any-number lacks p lacks n 0 m ∙ neither_left (found (find lacks p (alone (atom lacks n m)))) (excluded b p (alone (atom lacks n m))) e)
      (neither_right (found (find lacks p (alone (atom lacks n m)))) (excluded b p (alone (atom lacks n m))) e)
  stored-clash lacks n m (atom lacks p x) e = e
  stored-clash lacks n m (atom least l x) e = e
  stored-clash lacks n m (atom most l x) e = e
  stored-clash lacks n m (atom nothing l x) e = e
  stored-clash least n m y e = e
  stored-clash most n m y e = e
  stored-clash nothing n m (atom has p x) e = e
  stored-clash nothing n m (atom lacks p x) e = e
  stored-clash nothing n m (atom least l x) e = e
  stored-clash nothing n m (atom most l x) e = e
  stored-clash nothing n m (atom nothing l x) e = e

  ascends : {t : Place} → Canonical b t → Ascending t
  ascends (canonical a c d f) = a

  -- an alive place does not list 'nothing'
  no-nothing : {t : Place} → Canonical b t → (n m : ℕ) → find nothing n t ≡ some m → ⊥
  no-nothing (canonical a c d f) n m e = false≢true (sym (c nothing n m e).0)

  -- ---- an atom

  module _ (k : Kind) (n m : ℕ) (t : Place) (h : Canonical b t) (z : clash b t (atom k n m) ≡ false) where
    lists-none : (q : ℕ) → find nothing 0 (more law t k n m (ascends h)) ≡ some q → ⊥
    unfolding find
    lists-none q e =
        ⊎_elim (λ v. no-nothing h 0 q v) (λ v. one k z v) ((from_more law t k n m (ascends h)).listed nothing 0 q e)
      where
        one : (k : Kind) → clash b t (atom k n m) ≡ false → find nothing 0 (only (atom k n (stored k m))) ≡ some q → ⊥
        one has y v = some-none v refl
        one lacks y v = some-none v refl
        one least y v = some-none v refl
        one most y v = some-none v refl
        one nothing y v = absurd (false≢true (sym y))

    alive-inserted : is_bottom (insert b (atom k n m) t) ≡ false
    unfolding insert is_bottom find add
    alive-inserted =
        bool_cases (supports b t (atom k n m))
        (λ q. rw (canonical-alive h, q) (canonical-alive h))
        (λ q.
        let i : insert b (atom k n m) t ≡ more law t k n m (ascends h) = rw (canonical-alive h, q, z) in
        ⊎_elim
        (λ v. absurd (lists-none 0 (ap (λ (u : Place). find nothing 0 u) (sym i ∙ v))))
        (λ v. canonical-alive v)
        (add-normal law (leaf (atom k n m) end) t (inr h)))

    open-inserted : (W : World) → Apart W → W [] (atom k n m) → Open W t → Open W (insert b (atom k n m) t)
    unfolding insert at
    open-inserted W apart p f w y q =
        bool_cases (supports b t (atom k n m))
        (λ e. rw (canonical-alive h, e) (f w y q))
        (λ e.
        let i : insert b (atom k n m) t ≡ more law t k n m (ascends h) = rw (canonical-alive h, e, z) in
        rw i (open-more w y q))
      where
        open-more : (w : List ℕ) (y : Atom) → W w y → clash b (at w (more law t k n m (ascends h))) y ≡ false
        open-more [] y q = clash-either (from_more law t k n m (ascends h)) b y (f [] y q) (stored-clash k n m y (apart [] (atom k n m) y p q))
        open-more (l ∷ w) y q =
            bool_cases (is_end (sub l (more law t k n m (ascends h))))
            (λ e.
            let i : clash b end y ≡ false = clash-empty y y (apart (l ∷ w) y y q q) in
            rw (is-end _ e, at-end w) i)
            (λ e. rw (owned-old law t k n m (ascends h) l e) (f (l ∷ w) y q))

  -- ---- places

  open-below : (W : World) (l : ℕ) (t : Place) → Open W t → Open (below l W) (sub l t)
  unfolding at
  open-below W l t f w y q = f (l ∷ w) y q

  open-put : (W : World) (l : ℕ) (s t : Place) (h : Canonical b t) → Open W t → Open (below l W) s → Open W (put_in law l s t h)
  unfolding at
  open-put W l s t h f g [] y q = clash-either (same-lists law l s t h) b y (f [] y q) (f [] y q)
  open-put W l s t h f g (l' ∷ w) y q =
      bool_cases (eqb l' l)
      (λ z.
      let i : l' ≡ l = eqb-eq z in
      let q' : W (l ∷ w) y = subst (λ (x : ℕ). W (x ∷ w) y) i q in
      ap (λ (x : ℕ). clash b (at w (sub x (put_in law l s t h))) y) i ∙ ap (λ (x : Place). clash b (at w x) y) (put-here law l s t h) ∙ g w y q')
      (λ z. ap (λ (x : Place). clash b (at w x) y) (put-other law l s t h l' z) ∙ f (l' ∷ w) y q)

  open-within : (W : World) (l : ℕ) (s T : Place) → Canonical b T → Open W T
      → (supports b T (atom most l 0) ≡ false → is_bottom (add b s (sub l T)) ≡ false)
      → (supports b T (atom most l 0) ≡ false → Open (below l W) (add b s (sub l T))) → Open W (within b l (λ u. add b s u) T)
  unfolding within fill
  open-within W l s T h f p g =
      bool_cases (supports b T (atom most l 0))
      (λ q. rw (canonical-alive h, q) f)
      (λ q. bool_cases (is_end (add b s (sub l T)))
      (λ x. rw (canonical-alive h, q, p q, x) f)
      (λ x. rw (canonical-alive h, q, p q, x) (open-put W l (add b s (sub l T)) T h f (g q))))

  apart-below : (W : World) (l : ℕ) → Apart W → Apart (below l W)
  apart-below W l f w x y p q = f (l ∷ w) x y p q

  -- no place comes out impossible, and none of them is ruled out by what comes out
  pub peaceful : (W : World) → Apart W → (d t : Place) → Canonical b t → Made W d → Open W t → Possible b d t × Open W (add b d t)
  unfolding add at
  peaceful W apart end t h m f = (canonical-alive h, f)
  peaceful W apart (leaf (atom k n x) r) t h m f =
      let y = peaceful W apart r t h m.1 f in
      let hT : Canonical b (add b r t) = still law r t h y.0 in
      let z : clash b (add b r t) (atom k n x) ≡ false = y.1 [] (atom k n x) m.0 in
      ((y.0, alive-inserted k n x (add b r t) hT z), open-inserted k n x (add b r t) hT z W apart m.0 y.1)
  peaceful W apart (node l s r) t h m f =
      let y = peaceful W apart r t h m.1 f in
      let T : Place = add b r t in
      let hT : Canonical b T = still law r t h y.0 in
      let hS : Canonical b (sub l T) = canonical-sub law l T hT in
      let g = peaceful (below l W) (apart-below W l apart) s (sub l T) hS m.0 (open-below W l T y.1) in
      let p : is_bottom (add b s (sub l T)) ≡ false = possible-alive law s (sub l T) hS g.0 in
      ((y.0, λ q. (g.0, p)), open-within W l s T hT y.1 (λ q. p) (λ q. g.1))

  pub peaceful-possible : (W : World) → Apart W → (d : Place) → Made W d → Possible b d end
  peaceful-possible W apart d m =
      (peaceful W apart d end (canonical-end law) m (λ w y q. let i : clash b end y ≡ false = clash-empty y y (apart w y y q q) in rw (at-end w) i)).0

-- ---- what is heard, one of them tells

-- an atom of W that tells a at w
pub record Told (b : Background) (W : World) (w : List ℕ) (a : Atom) : Type 0 where
  pub path : List ℕ
  pub atom : Atom
  pub member : W path atom
  pub telling : tells b path atom w a ≡ true

told-below : {b : Background} (W : World) (l l' : ℕ) (w : List ℕ) (a : Atom) → eqb l l' ≡ true → Told b (below l' W) w a → Told b W (l ∷ w) a
unfolding tells
told-below W l l' w a e x = record { path = l' ∷ x.path; atom = x.atom; member = x.member; telling = and_both e x.telling }

pub heard-told : {b : Background} (W : World) (d : Place) → Made W d → (w : List ℕ) (a : Atom) → heard b d w a ≡ true → Told b W w a
unfolding heard tells
heard-told W end m w a e = absurd (false≢true e)
heard-told {b} W (leaf x r) m [] a e =
    or_cases (supports b (alone x) a) (heard b r [] a) e
    (λ z. record { path = []; atom = x; member = m.0; telling = z })
    (λ z. heard-told W r m.1 [] a z)
heard-told {b} W (leaf x r) m (l ∷ w) a e =
    or_cases (supports b (alone x) (atom most l 0)) (heard b r (l ∷ w) a) e
    (λ z. record { path = []; atom = x; member = m.0; telling = z })
    (λ z. heard-told W r m.1 (l ∷ w) a z)
heard-told W (node l' s r) m [] a e = heard-told W r m.1 [] a e
heard-told {b} W (node l' s r) m (l ∷ w) a e =
    or_cases (eqb l l' && heard b s w a) (heard b r (l ∷ w) a) e
    (λ z. told-below W l l' w a (and_left (eqb l l') (heard b s w a) z) (heard-told (below l' W) s m.0 w a (and_right (eqb l l') (heard b s w a) z)))
    (λ z. heard-told W r m.1 (l ∷ w) a z)
