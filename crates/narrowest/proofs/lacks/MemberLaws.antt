-- Which properties are noted: those whose lack the first place says, where the joined place lists it.
-- Assumes nothing.
use Prim.Native.Nat.{suc, ℕ}
use lib.Dec.{eqb}
use mathlib.Core.Bool.{Bool, ◌&&◌, ◌||◌, false, true}
use mathlib.Core.List.{List, [], ◌++◌, ◌∷◌, map}
use mathlib.Core.Path.{◌∙◌, ◌≡◌, ap, refl, sym}
use native.Mathlib.Omega.{arith}
use Rattle.base.proofs.Tests.{bool_cases, eq-cases, eq-eqb, eqb-eq, eqb-self, ne_eqb}
use Rattle.blocks.specs.declared.Entry.{Entry}
use Rattle.logic.specs.Normal.{excluded, find, found}
use Rattle.logic.specs.Place.{Place, lacks}
use Rattle.logic.specs.Tree.{tree}
use Rattle.logic.specs.Witness.{member}
use Rattle.meaning.proofs.Descriptions.Lookups.{rank-kind}
use Rattle.meaning.specs.Description.{row_of}
use Rattle.narrowest.proofs.rows.LeavesLaws.{Kinds}
use Rattle.narrowest.specs.code.Forms.{owned_by}
use Rattle.narrowest.specs.code.Lacks.{lack_if, lacks_of, lists_lack}
use Rattle.pairs.proofs.Partners.{partnered-any, partnered-is}
use Rattle.pairs.proofs.Excluding.{excludes-turned}
use Rattle.pairs.specs.Pairs.{excludes_in, under}
use Rattle.pairs.specs.code.Index.{named_count, partners}
use Rattle.std.specs.List.{flat_map, list_any}

-- ---- on truth values

or-and : (a b c : Bool) → ((a && c) || (b && c)) ≡ ((a || b) && c)
or-and true true true = refl
or-and true true false = refl
or-and true false true = refl
or-and true false false = refl
or-and false b c = refl

or-all : (f x c : Bool) → (c || ((f || x) && c)) ≡ c
or-all true x true = refl
or-all true x false = refl
or-all false true true = refl
or-all false true false = refl
or-all false false true = refl
or-all false false false = refl

or-turned : (e f x c : Bool) → ((e && c) || ((f || x) && c)) ≡ ((f || (e || x)) && c)
or-turned true true x true = refl
or-turned true true x false = refl
or-turned true false x true = refl
or-turned true false x false = or-and true x false
or-turned false f x c = refl

-- ---- one list after another

member-append : (x : ℕ) (q r : List ℕ) → member x (q ++ r) ≡ (member x q || member x r)
unfolding member
member-append x [] r = refl
member-append x (y ∷ q) r = bool_cases (eqb x y) (λ z. rw z refl) (λ z. rw z (member-append x q r))

any-member : (p : ℕ) (xs : List ℕ) → list_any (λ x. eqb p x) xs ≡ member p xs
unfolding member
any-member p [] = refl
any-member p (x ∷ xs) = bool_cases (eqb p x) (λ z. rw z refl) (λ z. rw z (any-member p xs))

module _ (P : List ℕ) (t u : Place) (p : ℕ) where
  -- ---- the properties that exclude one

  member-partners : (q : ℕ) → member p (partners P q (named_count P)) ≡ excludes_in P q p
  member-partners q =
      sym (any-member p (partners P q (named_count P))) ∙ sym (partnered-any P (λ x. eqb p x) q (named_count P))
      ∙ sym (partnered-is P (λ x. eqb p x) q
      (λ e. record { name = p; held = eqb-self p; excluding = excludes-turned P p q ∙ e })
      (λ x. excludes-turned P q p ∙ ap (λ (n : ℕ). excludes_in P n q) (eqb-eq x.held) ∙ x.excluding))

  -- ---- what is noted of one, and of several

  abbrev L : Bool
  L = lists_lack P t u p

  member-if : (q : ℕ) → member p (lack_if P t u q) ≡ (eqb p q && L)
  unfolding lack_if member
  member-if q =
      bool_cases (eqb p q)
      (λ e.
      let i : p ≡ q = eqb-eq e in
      rw (← i) (bool_cases (lists_lack P t u p) (λ y. rw (y, eqb-self p) refl) (λ y. rw (y, eqb-self p) refl)))
      (λ e. bool_cases (lists_lack P t u q) (λ y. rw (y, e) refl) (λ y. rw (y, e) refl))

  member-all : (qs : List ℕ) → member p (flat_map (lack_if P t u) qs) ≡ (member p qs && L)
  unfolding member
  member-all [] = refl
  member-all (q ∷ qs) =
      member-append p (lack_if P t u q) (flat_map (lack_if P t u) qs)
      ∙ rw (member-if q, member-all qs) (or-and (eqb p q) (member p qs) L)

  -- ---- what is noted along the entries of a place

  module _ (o : ℕ) where
    pub member-lacks : (i : ℕ) (es : List Entry) → Kinds es
        → member p (flat_map (lacks_of P t u) (owned_by o es))
        ≡ ((found (find lacks p (tree i (map row_of es) o)) || excluded (under P) p (tree i (map row_of es) o)) && L)
    unfolding member owned_by tree row_of find excluded lacks_of
    member-lacks i [] h = refl
    member-lacks i (e ∷ es) h =
        let ih = member-lacks (suc i) es h.2 in
        let T = tree (suc i) (map row_of es) o in
        let R = flat_map (lacks_of P t u) (owned_by o es) in
        eq-cases e.kind 5
        (λ q.
        let f : eqb e.kind 5 ≡ true = eq-eqb q in
        let z₁ : eqb e.kind 1 ≡ false = ne_eqb (λ y. absurd (omega (arith, q, y))) in
        let z₂ : eqb e.kind 2 ≡ false = ne_eqb (λ y. absurd (omega (arith, q, y))) in
        bool_cases (eqb o e.owner) (λ y. rw (f, y, z₁, z₂) ih) (λ y. rw (f, y) ih))
        (λ q.
        let f : eqb e.kind 5 ≡ false = ne_eqb q in
        let k = rank-kind e.kind h.0 h.1 q in
        bool_cases (eqb o e.owner)
        (λ y.
        eq-cases e.kind 2
        (λ w.
        let z₂ : eqb e.kind 2 ≡ true = eq-eqb w in
        let s₂ : eqb 2 e.kind ≡ true = eq-eqb (sym w) in
        let s₁ : eqb 1 e.kind ≡ false = ne_eqb (λ v. absurd (omega (arith, w, v))) in
        rw (f, y, z₂, k, s₂, s₁)
        (member-append p (lack_if P t u e.name) R ∙ rw (member-if e.name, ih)
        (bool_cases (eqb p e.name) (λ v. rw v (or-all (found (find lacks p T)) (excluded (under P) p T) L)) (λ v. rw v refl))))
        (λ w.
        let z₂ : eqb e.kind 2 ≡ false = ne_eqb w in
        let s₂ : eqb 2 e.kind ≡ false = ne_eqb (λ v. w (sym v)) in
        eq-cases e.kind 1
        (λ x.
        let z₁ : eqb e.kind 1 ≡ true = eq-eqb x in
        let s₁ : eqb 1 e.kind ≡ true = eq-eqb (sym x) in
        rw (f, y, z₂, z₁, k, s₂, s₁)
        (member-append p (flat_map (lack_if P t u) (partners P e.name (named_count P))) R
        ∙ rw (member-all (partners P e.name (named_count P)), member-partners e.name, ih)
        (or-turned (excludes_in P e.name p) (found (find lacks p T)) (excluded (under P) p T) L)))
        (λ x.
        let z₁ : eqb e.kind 1 ≡ false = ne_eqb x in
        let s₁ : eqb 1 e.kind ≡ false = ne_eqb (λ v. x (sym v)) in
        rw (f, y, z₂, z₁, k, s₂, s₁) ih)))
        (λ y. rw (f, y) ih))
