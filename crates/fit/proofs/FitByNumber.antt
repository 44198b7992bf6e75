-- Fitting by entry numbers, down from the top and for 33 levels, is fitting in the record of the specimen.
-- Assumes nothing.
use Prim.Native.Nat.{◌+◌, ◌≤◌, suc, zero, ℕ}
use lib.Dec.{eqb, leb}
use lib.ListN.{length}
use mathlib.Core.Bool.{Bool, ◌&&◌, ◌||◌, false, not, true}
use mathlib.Core.List.{List, [], ◌∷◌}
use mathlib.Core.Path.{◌∙◌, ◌≡◌, ap, fun_ext, refl, sym}
use native.Mathlib.Omega.{arith}
use Rattle.base.proofs.Tests.{and_both, and_left, and_right, and-swap, bool_cases, eq-cases, eqb-sym, gt-leb, iff-eq, le-leb, leb-le, ne_eqb}
use Rattle.blocks.proofs.Refusing.Legal.{owner-earlier}
use Rattle.blocks.proofs.Refusing.LevelLaws.{depth-under}
use Rattle.blocks.specs.Entries.{nth}
use Rattle.blocks.specs.Owners.{depth_of, depth_ok, owner_of}
use Rattle.blocks.specs.Promise.{Legal}
use Rattle.blocks.specs.declared.Entry.{Entry}
use Rattle.blocks.specs.declared.Schema.TheVariants.{Description}
use Rattle.std.proofs.Math.Bool.{not-not}
use Rattle.fit.proofs.totals.TotalsLaws.{items-absent}
use Rattle.fit.specs.code.Bare.{bare, bare_fits, demands, quiet}
use Rattle.fit.specs.code.Groups.{fits_place, groups_by, has_bare, has_property, is_group, meets_entry, total_by}
use Rattle.logic.proofs.Records.Counting.{every-from-ext, every_from}
use Rattle.logic.specs.Place.{Place, kind_of}
use Rattle.logic.specs.Record.{fits}
use Rattle.logic.specs.Tree.{end, leaf, node}
use Rattle.meaning.proofs.Descriptions.OwnedLaws.{owned_at, owned-ext, owned-from, owned-of}
use Rattle.meaning.proofs.Descriptions.Places.{all_here, asks, place-owned}
use Rattle.meaning.proofs.Specimens.Items.{each_group, fits-groups, fits_by, group_under, linked_items, meets_by}
use Rattle.meaning.proofs.Specimens.SingleKeeps.{brought-linked}
use Rattle.meaning.specs.Description.{place_of}
use Rattle.meaning.specs.Owned.{all_owned}
use Rattle.meaning.specs.Specimen.{owns, record_of}

-- ---- the specimen's groups, by number and by list

-- an owner's test before two others, in the order of the list's test
owner-last : (o k n : Bool) → (not o || not (k && n)) ≡ not (k && (o && n))
owner-last true k n = refl
owner-last false true n = refl
owner-last false false n = refl

-- a group of owner g by link l, in the order of the numbers' test
under-owner : (g l : ℕ) (e : Entry) → group_under g l e ≡ eqb e.owner g && (eqb e.kind 7 && eqb e.name l)
under-owner g l e = rw (eqb-sym g e.owner, eqb-sym l e.name) (and-swap (eqb e.kind 7) (eqb e.owner g) (eqb e.name l))

-- a property that a group owns, by the list
owns-from : (g p k : ℕ) (es : List Entry) → owns g p es ≡ not (every_from (λ n e. not (eqb e.owner g) || not (eqb e.kind 1 && eqb e.name p)) k es)
unfolding owns every_from
owns-from g p k [] = refl
owns-from g p k (e ∷ es) =
    rw (owns-from g p (suc k) es, eqb-sym g e.owner, eqb-sym p e.name, owner-last (eqb e.owner g) (eqb e.kind 1) (eqb e.name p))
    (bool_cases (eqb e.kind 1 && (eqb e.owner g && eqb e.name p)) (λ q. rw q) (λ q. rw q))

module _ (s : List Entry) (g : ℕ) where
  -- the properties of a group
  property-owns : (p : ℕ) → has_property s g p ≡ owns g p s
  unfolding has_property
  property-owns p = ap not (owned-from (λ k e. not (eqb e.kind 1 && eqb e.name p)) s g) ∙ sym (owns-from g p 1 s)

  -- the groups of a group by a link
  groups-each : (p : ℕ → Bool) (l : ℕ) → groups_by p s g l ≡ each_group p s g l
  unfolding groups_by each_group
  groups-each p l =
      owned-from (λ k e. not (eqb e.kind 7 && eqb e.name l) || p k) s g
      ∙ every-from-ext _ _ 1 s (λ k e. rw (under-owner g l e) (bool_cases (eqb e.owner g) (λ q. rw q) (λ q. rw q)))

-- ---- a group that owns nothing

module _ (s : List Entry) (g : ℕ) (nothing : bare s g ≡ true) where
  none_owned : (k : ℕ) → 1 ≤ k → k ≤ length s → owner_of s k ≡ g → ⊥
  unfolding quiet
  none_owned k lo hi q = let f : false ≡ true = owned_at (λ k. false) s g (length s) nothing k lo hi q in let z : ◌≡◌ {A = ℕ} 0 1 = cc in omega arith

  bare-property : (p : ℕ) → has_property s g p ≡ false
  unfolding has_property
  bare-property p = ap not (owned-of _ s g (length s) (λ k lo hi q. absurd (none_owned k lo hi q)))

  bare-total : (l : ℕ) → total_by s g l ≡ 0
  unfolding owner_of
  bare-total l = items-absent s g l (length s) (λ k w. none_owned k w.from w.to w.owner)

  bare-groups : (p : ℕ → Bool) (l : ℕ) → groups_by p s g l ≡ true
  unfolding groups_by
  bare-groups p l = owned-of _ s g (length s) (λ k lo hi q. absurd (none_owned k lo hi q))

-- groups by a link that pass two tests pass each
or-first : (x p q : Bool) → (x || (p && q)) ≡ true → (x || p) ≡ true
or-first true p q e = refl
or-first false p q e = and_left p q e

or-second : (x p q : Bool) → (x || (p && q)) ≡ true → (x || q) ≡ true
or-second true p q e = refl
or-second false p q e = and_right p q e

or-both : (x p q : Bool) → (x || p) ≡ true → (x || q) ≡ true → (x || (p && q)) ≡ true
or-both true p q d e = refl
or-both false p q d e = and_both d e

groups-both : (s : List Entry) (g l : ℕ) (p q : ℕ → Bool) → groups_by (λ h. p h && q h) s g l ≡ (groups_by p s g l && groups_by q s g l)
unfolding groups_by
groups-both s g l p q =
    let one : (ℕ → Bool) → ℕ → Bool = λ r k. not (is_group s l k) || r k in
    iff-eq
    (λ e. and_both
    (owned-of (one p) s g (length s) (λ k lo hi o. or-first (not (is_group s l k)) (p k) (q k) (owned_at (one (λ h. p h && q h)) s g (length s) e k lo hi o)))
    (owned-of (one q) s g (length s) (λ k lo hi o. or-second (not (is_group s l k)) (p k) (q k) (owned_at (one (λ h. p h && q h)) s g (length s) e k lo hi o))))
    (λ e.
    let a = and_left (groups_by p s g l) (groups_by q s g l) e in
    let b = and_right (groups_by p s g l) (groups_by q s g l) e in
    owned-of (one (λ h. p h && q h)) s g (length s)
    (λ k lo hi o. or-both (not (is_group s l k)) (p k) (q k) (owned_at (one p) s g (length s) a k lo hi o) (owned_at (one q) s g (length s) b k lo hi o)))

-- groups that own nothing, which all pass or all fail, may be judged together
groups-split : (s : List Entry) (g l : ℕ) (f : ℕ → Bool) (c : Bool) → ((h : ℕ) → bare s h ≡ true → f h ≡ c)
    → ((c || not (has_bare s g l)) && groups_by (λ h. bare s h || f h) s g l) ≡ groups_by f s g l
groups-split s g l f c same =
    bool_cases c
    (λ y. rw y (ap (λ (p : ℕ → Bool). groups_by p s g l)
    (fun_ext (λ h. bool_cases (bare s h) (λ w. let t : f h ≡ true = same h w ∙ y in rw (w, t)) (λ w. rw w)))))
    (λ n. rw n
    (ap (λ (x : Bool). x && groups_by (λ h. bare s h || f h) s g l) (not-not (groups_by (λ h. not (bare s h)) s g l))
    ∙ sym (groups-both s g l (λ h. not (bare s h)) (λ h. bare s h || f h))
    ∙ ap (λ (p : ℕ → Bool). groups_by p s g l)
    (fun_ext (λ h. bool_cases (bare s h) (λ w. let t : f h ≡ false = same h w ∙ n in rw (w, t)) (λ w. rw w)))))

-- ---- the description's entries

-- a place by the entries there
here-groups : (s : List Entry) (t : Place) (g : ℕ) → fits_by s t g ≡ all_here (λ a. meets_by s a g) (λ l u. each_group (fits_by s u) s g l) t
unfolding fits_by all_here
here-groups s end g = refl
here-groups s (leaf a r) g = rw (here-groups s r g)
here-groups s (node l t r) g = rw (here-groups s r g)

-- an entry that may be followed down asks of a group what the table of kinds says
meets-asks : (left : ℕ) (s d : List Entry) (g n : ℕ) → ((h : ℕ) → fits_place left s d h n ≡ fits_by s (place_of d n) h)
    → ((h : ℕ) → bare s h ≡ true → fits_by s (place_of d n) h ≡ bare_fits d n)
    → meets_entry (suc left) s d g n ≡ asks (λ a. meets_by s a g) (λ l u. each_group (fits_by s u) s g l) d n (nth d n)
unfolding meets_entry kind_of
meets-asks left s d g n below alike =
    eq-cases (nth d n).kind 1 (λ z. rw z (property-owns s g (nth d n).name)) (λ z₁.
    eq-cases (nth d n).kind 2 (λ z. rw z (ap not (property-owns s g (nth d n).name))) (λ z₂.
    eq-cases (nth d n).kind 3 (λ z. rw z (ap (λ (t : ℕ). leb (nth d n).number t) (brought-linked s g (nth d n).name))) (λ z₃.
    eq-cases (nth d n).kind 4 (λ z. rw z (ap (λ (t : ℕ). leb t (nth d n).number) (brought-linked s g (nth d n).name))) (λ z₄.
    eq-cases (nth d n).kind 5
    (λ z. rw z
    (groups-split s g (nth d n).name (λ h. fits_place left s d h n) (bare_fits d n) (λ h w. below h ∙ alike h w)
    ∙ ap (λ (p : ℕ → Bool). groups_by p s g (nth d n).name) (fun_ext below) ∙ groups-each s g (fits_by s (place_of d n)) (nth d n).name))
    (λ z₅. rw (ne_eqb z₁, ne_eqb z₂, ne_eqb z₃, ne_eqb z₄, ne_eqb z₅))))))

-- at least so many of none
none-least : (m : ℕ) → leb m 0 ≡ not (not (eqb m 0))
none-least m = eq-cases m 0 (λ z. rw z) (λ z. rw (ne_eqb z, gt-leb {m = m} {n = 0} (omega arith)))

-- an entry asks of a group that owns nothing what it asks of an item with nothing
bare-asks : (s d : List Entry) (g n : ℕ) → bare s g ≡ true
    → asks (λ a. meets_by s a g) (λ l u. each_group (fits_by s u) s g l) d n (nth d n) ≡ not (demands (nth d n))
unfolding kind_of
bare-asks s d g n w =
    let name = (nth d n).name in
    let none : linked_items s g name ≡ 0 = sym (brought-linked s g name) ∙ bare-total s g w name in
    let lacks : owns g name s ≡ false = sym (property-owns s g name) ∙ bare-property s g w name in
    eq-cases (nth d n).kind 1 (λ z. rw z lacks) (λ z₁.
    eq-cases (nth d n).kind 2 (λ z. rw z (ap not lacks)) (λ z₂.
    eq-cases (nth d n).kind 3 (λ z. rw z (ap (λ (t : ℕ). leb (nth d n).number t) none ∙ none-least (nth d n).number)) (λ z₃.
    eq-cases (nth d n).kind 4 (λ z. rw z (ap (λ (t : ℕ). leb t (nth d n).number) none ∙ le-leb {m = 0} {n = (nth d n).number} (omega arith))) (λ z₄.
    eq-cases (nth d n).kind 5
    (λ z. rw z (sym (groups-each s g (fits_by s (place_of d n)) name) ∙ bare-groups s g w (fits_by s (place_of d n)) name))
    (λ z₅. rw (ne_eqb z₁, ne_eqb z₂, ne_eqb z₃, ne_eqb z₄, ne_eqb z₅))))))

-- ---- the theorem

module _ (s d : List Entry) (L : Legal Description d) where
  -- what the entries of a place ask of a group
  fits-asks : (o g : ℕ) → fits_by s (place_of d o) g
      ≡ all_owned (λ n. asks (λ a. meets_by s a g) (λ l u. each_group (fits_by s u) s g l) d n (nth d n)) d o (length d)
  fits-asks o g = here-groups s (place_of d o) g ∙ place-owned d L (λ a. meets_by s a g) (λ l u. each_group (fits_by s u) s g l) o

  -- a group that owns nothing fits a place if an item with nothing does
  bare-place : (o g : ℕ) → bare s g ≡ true → fits_by s (place_of d o) g ≡ bare_fits d o
  unfolding quiet
  bare-place o g w = fits-asks o g ∙ owned-ext _ _ d o (length d) (λ n lo hi q. bare-asks s d g n w)

  -- no entry is deeper than 32
  at-most-32 : (n : ℕ) → 1 ≤ n → n ≤ length d → depth_of d n ≤ 32
  unfolding depth_ok
  at-most-32 n lo hi = leb-le (L.depth n lo hi)

  -- what an entry owns is one deeper
  one_deeper : (m n : ℕ) → 1 ≤ n → 1 ≤ m → m ≤ length d → owner_of d m ≡ n → depth_of d m ≡ suc (depth_of d n)
  one_deeper m n pos lo hi q =
      let r = depth-under d m (λ k a b. owner-earlier L k a (omega arith)) (owner-earlier L m lo hi) (λ z. omega arith) in rw q at r

  -- a place whose entries are so deep that they can be followed down far enough
  fits-left : (left o : ℕ) → ((n : ℕ) → 1 ≤ n → n ≤ length d → owner_of d n ≡ o → 33 ≤ left + depth_of d n)
      → (g : ℕ) → fits_place left s d g o ≡ fits_by s (place_of d o) g
  fits-left zero o deep g =
      owned-ext _ _ d o (length d) (λ n lo hi q. absurd (omega (arith, deep n lo hi q, at-most-32 n lo hi))) ∙ sym (fits-asks o g)
  fits-left (suc left) o deep g =
      owned-ext _ _ d o (length d)
      (λ n lo hi q. meets-asks left s d g n (fits-left left n (λ m lo' hi' r. omega (arith, deep n lo hi q, one_deeper m n lo lo' hi' r))) (bare-place n))
      ∙ sym (fits-asks o g)

  -- the top item fits the description if the top does by entry numbers
  pub fit-by-groups : fits (record_of s) (place_of d 0) 0 ≡ fits_place 33 s d 0 0
  fit-by-groups = fits-groups s (place_of d 0) 0 ∙ sym (fits-left 33 0 (λ n lo hi q. omega arith) 0)
