-- A normal place with an atom added is normal.
-- Assumes nothing.
use Prim.Native.Nat.{ℕ}
use lib.Dec.{eqb, leb}
use mathlib.Core.Bool.{false, true, true≢false}
use mathlib.Core.Logic.{inl, inr}
use mathlib.Core.Option.{none, some}
use mathlib.Core.Path.{◌∙◌, ◌≡◌, ap, ap₂, refl, sym}
use native.Mathlib.Omega.{arith}
use Rattle.base.proofs.Missing.{not-true, opt_cases, some-none}
use Rattle.base.proofs.Tests.{bool_cases, both_ways, neither_left, neither_right, not-to-true, or-none, tests}
use Rattle.logic.proofs.PlaceTrees.Ascend.{ascending-put}
use Rattle.logic.proofs.PlaceTrees.Listed.{FromEither, clash-either, excluded-either, excluded-only, look-either, look-only, only, only-itself, only-other, telling-either}
use Rattle.logic.proofs.PlaceTrees.Lookup.{same_kind, same_name}
use Rattle.logic.proofs.PlaceTrees.Passes.{find-put-other, find-put-same, find-remove-same, find-remove_lacks, sub-put, sub-remove_every-same}
use Rattle.logic.proofs.PlaceTrees.Thinner.{Thinner, ascending-thinner, listed-thinner, owned-thinner, thinner-clear, thinner-remove}
use Rattle.logic.specs.Background.{Background, LawfulBackground}
use Rattle.logic.specs.Canonical.{Ascending, Clean, Normal, canonical, telling}
use Rattle.logic.specs.Normal.{at_most, clash, clear, enough, excluded, find, found, insert, is_bottom, is_end, put, rank, remove, same, stored, sub, supports}
use Rattle.logic.specs.Place.{Atom, Kind, Place, atom, has, lacks, least, most, nothing}
use Rattle.logic.specs.Tree.{end}

-- a property has no number
clash-stored : (b : Background) (t : Place) (k : Kind) (n m : ℕ) → clash b t (atom k n (stored k m)) ≡ clash b t (atom k n m)
clash-stored b t has n m = refl
clash-stored b t lacks n m = refl
clash-stored b t least n m = refl
clash-stored b t most n m = refl
clash-stored b t nothing n m = refl

module _ {b : Background} (law : LawfulBackground b) (t : Place) (k : Kind) (n m : ℕ) (asc : Ascending t) where
  -- the atom as it is listed; the place without what it replaces and makes idle; and that place with it
  abbrev pub new : Atom
  new = atom k n (stored k m)

  abbrev pub less : Place
  less = remove k n (clear b (atom k n m) t)

  abbrev pub more : Place
  more = put k n (stored k m) less

  cleared : Thinner (clear b (atom k n m) t) t
  cleared = thinner-clear b (atom k n m) t

  asc-clear : Ascending (clear b (atom k n m) t)
  asc-clear = ascending-thinner cleared asc

  removed : Thinner less (clear b (atom k n m) t)
  removed = thinner-remove k n (clear b (atom k n m) t)

  absent : find k n less ≡ none
  absent = find-remove-same k n (clear b (atom k n m) t) asc-clear

  asc-more : Ascending more
  asc-more = ascending-put k n (stored k m) less (ascending-thinner removed asc-clear) absent

  find-new : find k n more ≡ some (stored k m)
  find-new = find-put-same k n (stored k m) less absent

  -- what else is listed now was listed, also after what the atom makes idle is gone
  listed-cleared : (k' : Kind) (n' q : ℕ) → same k' n' k n ≡ false → find k' n' more ≡ some q → find k' n' (clear b (atom k n m) t) ≡ some q
  listed-cleared k' n' q z e = listed-thinner removed asc-clear k' n' q (sym (find-put-other k n (stored k m) k' n' less z) ∙ e)

  listed-old : (k' : Kind) (n' q : ℕ) → same k' n' k n ≡ false → find k' n' more ≡ some q → find k' n' t ≡ some q
  listed-old k' n' q z e = listed-thinner cleared asc k' n' q (listed-cleared k' n' q z e)

  -- what is listed now was listed, or is the atom
  pub from_more : FromEither more t (only new)
  unfolding find
  from_more =
      record {
        listed = λ k' n' q e. bool_cases (same k' n' k n)
            (λ z.
            let i : find k' n' more ≡ find k n more = ap₂ (λ (a : Kind) (d : ℕ). find a d more) (same_kind k' n' k n z) (same_name k' n' k n z) in
            inr (rw z (sym (i ∙ find-new) ∙ e)))
            (λ z. inl (listed-old k' n' q z e));
      }

  -- what is owned now was owned, also after what the atom makes idle is gone
  owned-cleared : (l : ℕ) → is_end (sub l more) ≡ false → sub l more ≡ sub l (clear b (atom k n m) t)
  owned-cleared l e = let z = sub-put k n (stored k m) l less in z ∙ owned-thinner removed asc-clear l (rw z at e)

  pub owned-old : (l : ℕ) → is_end (sub l more) ≡ false → sub l more ≡ sub l t
  owned-old l e = let z = owned-cleared l e in z ∙ owned-thinner cleared asc l (rw z at e)

  module _ (c : Clean b t) (e : supports b t (atom k n m) ≡ false) (f : clash b t (atom k n m) ≡ false) where
    -- the place does not rule it out
    not-ruled-out : clash b t new ≡ false
    not-ruled-out = clash-stored b t k n m ∙ f

    -- the atom tells something
    new-telling : (k' : Kind) → k ≡ k' → telling b more (atom k' n (stored k' m)) ≡ true
    new-telling has i = refl
    new-telling lacks i =
        let z : supports b t (atom lacks n m) ≡ false = ap (λ (a : Kind). supports b t (atom a n m)) (sym i) ∙ e in
        not-to-true (excluded-either from_more b n (neither_right (found (find lacks n t)) (excluded b n t) z)
        (excluded-only b n k n (stored k m) (λ j. let v : ◌≡◌ {A = ℕ} 1 2 = ap (λ (a : Kind). rank a) (j ∙ i) in absurd (omega arith))))
    new-telling least i =
        let z : enough m (find least n t) ≡ false = ap (λ (a : Kind). supports b t (atom a n m)) (sym i) ∙ e in
        not-to-true (not-true (λ (w : eqb m 0 ≡ true).
        both_ways (opt_cases (find least n t) (λ q. rw (q, w)) (λ q h. rw h (omega tests))) z))
    new-telling most i =
        let z : supports b t (atom most n m) ≡ false = ap (λ (a : Kind). supports b t (atom a n m)) (sym i) ∙ e in
        not-to-true (neither_right (at_most m (find most n t)) (at_most m (b.cap n)) z)
    new-telling nothing i =
        let z : clash b t (atom nothing n m) ≡ false = ap (λ (a : Kind). clash b t (atom a n m)) (sym i) ∙ f in
        absurd (true≢false z)

    -- a lack that is still listed is not implied by the atom
    lack-free : (p q : ℕ) → find lacks p more ≡ some q → excluded b p (only new) ≡ false
    lack-free p q h =
        excluded-only b p k n (stored k m) (λ i. not-true (λ y.
        let o : same lacks p k n ≡ false = ap (λ (a : Kind). same lacks p a n) (sym i) in
        let g : find lacks p (clear b (atom k n m) t) ≡ none
        = ap (λ (a : Kind). find lacks p (clear b (atom a n m) t)) (sym i) ∙ find-remove_lacks b n lacks p t ∙ rw y in
        some-none (listed-cleared lacks p q o h) g))

    -- what is listed tells something and is not ruled out
    clean-more : Clean b more
    clean-more k' n' q h =
        bool_cases (same k' n' k n)
        (λ z.
        let ik : k' ≡ k = same_kind k' n' k n z in
        let in' : n' ≡ n = same_name k' n' k n z in
        let iq : some (stored k m) ≡ some q = sym find-new ∙ ap₂ (λ (a : Kind) (d : ℕ). find a d more) (sym ik) (sym in') ∙ h in
        let ia : atom k' n' q ≡ new = cc in (
          ap (λ (a : Atom). clash b more a) ia ∙ clash-either from_more b new not-ruled-out (only-itself law t k n (stored k m) not-ruled-out),
          ap (λ (a : Atom). telling b more a) ia ∙ new-telling k refl,
        ))
        (λ z.
        let g : find k' n' t ≡ some q = listed-old k' n' q z h in
        let o = c k' n' q g in (
          clash-either from_more b (atom k' n' q) o.0 (only-other law t k' n' q k n (stored k m) g o.0 not-ruled-out),
          telling-either from_more b k' n' q o.1 (λ i. lack-free n' q (ap (λ (a : Kind). find a n' more) i ∙ h)),
        ))

    -- an 'every' that stays has no at most 0
    open_more : ((l : ℕ) → is_end (sub l t) ≡ false → supports b t (atom most l 0) ≡ false) → (l : ℕ) → is_end (sub l more) ≡ false
        → supports b more (atom most l 0) ≡ false
    open_more d l i =
        let s : supports b t (atom most l 0) ≡ false = d l (rw (owned-old l i) at i) in
        or-none
        (look-either from_more (at_most 0) refl most l (neither_left (at_most 0 (find most l t)) (at_most 0 (b.cap l)) s)
        (look-only (at_most 0) refl most l k n (stored k m) (λ ik il.
        let fm : stored k m ≡ m = ap (λ (a : Kind). stored a m) (sym ik) in
        rw fm (not-true (λ (y : leb m 0 ≡ true).
        let w : eqb m 0 ≡ true = omega tests in
        let g : sub l (clear b (atom k n m) t) ≡ end
        = ap₂ (λ (a : Kind) (d : ℕ). sub l (clear b (atom a d m) t)) (sym ik) (sym il) ∙ rw w (sub-remove_every-same l t asc) in
        both_ways (ap (λ (a : Place). is_end a) (owned-cleared l i ∙ g)) i)))))
        (neither_right (at_most 0 (find most l t)) (at_most 0 (b.cap l)) s)

-- a normal place with an atom added is normal
pub insert-normal : {b : Background} → LawfulBackground b → (a : Atom) (t : Place) → Normal b t → Normal b (insert b a t)
unfolding insert is_bottom
insert-normal law (atom k n m) t (inl e) = inl (rw e)
insert-normal {b} law (atom k n m) t (inr (canonical a c d s)) =
    bool_cases (is_bottom t)
    (λ z. rw z (inr (canonical a c d s)))
    (λ z. bool_cases (supports b t (atom k n m))
    (λ y. rw (z, y) (inr (canonical a c d s)))
    (λ y. bool_cases (clash b t (atom k n m))
    (λ x. rw (z, y, x) (inl refl))
    (λ x. rw (z, y, x) (inr (canonical (asc-more law t k n m a) (clean-more law t k n m a c y x) (open_more law t k n m a c y x d)
    (λ l i. rw (owned-old law t k n m a l i) (s l (rw (owned-old law t k n m a l i) at i))))))))
