-- The narrowest of two descriptions: an accepted description in normal form, which contains each, and which every
-- description that contains both contains.
-- Assumes nothing.
use Prim.Native.Nat.{◌≤◌, ℕ}
use mathlib.Core.Bool.{false≢true, true}
use mathlib.Core.List.{List}
use mathlib.Core.Logic.{◌↔◌, inl, inr}
use mathlib.Core.Path.{◌∙◌, ◌≡◌, ap, refl, sym}
use native.Mathlib.Omega.{arith}
use Rattle.base.proofs.Tests.{bool_cases, both_ways, iff-eq}
use Rattle.blocks.specs.Entries.{form_ok, zero_entry}
use Rattle.blocks.specs.Promise.{Legal}
use Rattle.blocks.specs.declared.Entry.{Entry}
use Rattle.blocks.specs.declared.Schema.TheVariants.{Description}
use Rattle.logic.proofs.NormalForm.IsNormal.{alive, canonical-alive, nf-normal}
use Rattle.logic.proofs.NormalForm.NormalFields.{Stored, nf-stored}
use Rattle.logic.proofs.NormalForm.NormalSize.{nf-levels}
use Rattle.logic.proofs.NormalForm.Sound.{nf-sound}
use Rattle.logic.proofs.OneMeaning.Unique.{normal-fixed, one-normal}
use Rattle.logic.proofs.SpecimenTrees.IncreasingNames.{Increasing}
use Rattle.logic.proofs.TreeRows.AllEntries.{AllEntries, row-all, write-all}
use Rattle.logic.proofs.TreeRows.LayoutLaws.{write-reads}
use Rattle.logic.specs.Background.{Background, LawfulBackground}
use Rattle.logic.specs.Canonical.{Canonical, Normal}
use Rattle.logic.specs.Layout.{write}
use Rattle.logic.specs.Normal.{bottom, is_bottom, nf}
use Rattle.logic.specs.Place.{Atom, Place, atom, has, lacks}
use Rattle.logic.specs.Record.{Record, fits}
use Rattle.logic.specs.Size.{levels}
use Rattle.logic.specs.Tree.{Row, tree}
use Rattle.logic.specs.Witness.{member}
use Rattle.meaning.proofs.Descriptions.EntryFields.{Any, Positive, legal-names, place-fields}
use Rattle.meaning.proofs.Descriptions.PlaceSize.{place-levels}
use Rattle.meaning.proofs.NormalForms.LayoutLegal.{write-legal}
use Rattle.meaning.proofs.NormalForms.NormalEntriesLaws.{rows_back}
use Rattle.meaning.proofs.NormalForms.NormalLegal.{description-rows, row-form}
use Rattle.meaning.specs.Description.{place_of}
use Rattle.meaning.specs.Failing.{normal_of}
use Rattle.meaning.specs.Promise.{Subsumed}
use Rattle.meaning.specs.RowEntries.{row_entry}
use Rattle.narrow.proofs.Joining.JoinEntries.{all-joined, levels-joined}
use Rattle.narrow.proofs.Joining.JoinMeans.{canonical-joined, joins}
use Rattle.narrow.proofs.Joining.Least.{least}
use Rattle.narrow.specs.Join.{joined_place, narrowest}
use Rattle.narrow.specs.Narrowest.{narrowest_entries, narrowest_place}

-- nothing fits bottom
pub bottom-none : (r : Record) (x : ℕ) → fits r bottom x ≡ true → ⊥
unfolding fits
bottom-none r x h = false≢true h

module _ {b : Background} (law : LawfulBackground b) (ps : List ℕ) (inc : Increasing 0 ps)
    (all-named : (p q : ℕ) → b.excludes q p ≡ true → member p ps ≡ true) where
  -- ---- places

  -- by which sides are impossible: a property of the narrowest follows from that of the other side, or of the joined
  -- place
  pub narrowest-cases : (G : Place → Type 0) (t u : Place) → Normal b t → Normal b u → (t ≡ bottom → G u) → (u ≡ bottom → G t)
      → (Canonical b t → Canonical b u → G (joined_place b ps t u)) → G (narrowest b ps t u)
  unfolding narrowest is_bottom
  narrowest-cases G t u nt nu f g h =
      bool_cases (is_bottom t)
      (λ q. rw q (f (is-bottom t nt q)))
      (λ q. bool_cases (is_bottom u)
      (λ z. rw (q, z) (g (is-bottom u nu z)))
      (λ z. rw (q, z) (h (alive law t nt q) (alive law u nu z))))
    where
      is-bottom : (v : Place) → Normal b v → is_bottom v ≡ true → v ≡ bottom
      is-bottom v (inl e) q = e
      is-bottom v (inr c) q = both_ways q (canonical-alive c)

  pub narrowest-normal : (t u : Place) → Normal b t → Normal b u → Normal b (narrowest b ps t u)
  narrowest-normal t u nt nu =
      narrowest-cases (λ j. Normal b j) t u nt nu (λ e. nu) (λ e. nt) (λ ct cu. inr (canonical-joined law ps inc all-named t u ct cu))

  -- a description contains the narrowest exactly if it contains both
  pub narrowest-least : (t u : Place) → Normal b t → Normal b u → (e : List Entry) → Legal Description e
      → Subsumed b (narrowest b ps t u) (place_of e 0) ↔ (Subsumed b t (place_of e 0) × Subsumed b u (place_of e 0))
  narrowest-least t u nt nu e L =
      narrowest-cases (λ j. Subsumed b j (place_of e 0) ↔ (Subsumed b t (place_of e 0) × Subsumed b u (place_of e 0))) t u nt nu
      (λ q. (λ f. (λ r kept x i h. absurd (bottom-none r x (rw q at h)), f), λ g. g.1))
      (λ q. (λ f. (f, λ r kept x i h. absurd (bottom-none r x (rw q at h))), λ g. g.0))
      (λ ct cu. least law ct cu (canonical-joined law ps inc all-named t u ct cu) (joins law ps inc all-named t u ct cu) e L)

  -- no more levels than one of them
  pub narrowest-levels : (t u : Place) → Normal b t → Normal b u → (k : ℕ) → levels t ≤ k → levels u ≤ k → levels (narrowest b ps t u) ≤ k
  narrowest-levels t u nt nu k h g =
      narrowest-cases (λ j. levels j ≤ k) t u nt nu (λ e. g) (λ e. h) (λ ct cu. levels-joined law ps t u ct cu k h g)

  -- what holds of each entry of both holds of each of the narrowest
  pub narrowest-all : (P : Atom → Type 0) (Q : ℕ → Type 0) → ((p q m : ℕ) → b.excludes q p ≡ true → P (atom has q m) → P (atom lacks p 0))
      → (t u : Place) → Normal b t → Normal b u → AllEntries P Q t → AllEntries P Q u → AllEntries P Q (narrowest b ps t u)
  narrowest-all P Q lacking t u nt nu h g =
      narrowest-cases (λ j. AllEntries P Q j) t u nt nu (λ e. g) (λ e. h) (λ ct cu. all-joined law ps P Q lacking t u ct cu h g)

  -- ---- descriptions

  module _ (c d : List Entry) (C : Legal Description c) (D : Legal Description d)
      (named : (p q : ℕ) → b.excludes q p ≡ true → Positive p) where
    abbrev t : Place
    t = normal_of b c

    abbrev u : Place
    u = normal_of b d

    normal-t : Normal b t
    unfolding normal_of
    normal-t = nf-normal law (place_of c 0)

    normal-u : Normal b u
    unfolding normal_of
    normal-u = nf-normal law (place_of d 0)

    abbrev N : List Entry
    N = narrowest_entries b ps c d

    -- its entries are read as its place
    pub narrowest-read : place_of N 0 ≡ narrowest_place b ps c d
    unfolding place_of narrowest_entries
    narrowest-read =
        let j : Place = narrowest_place b ps c d in
        ap (λ (rs : List (Row Atom ℕ)). tree 1 rs 0) (rows_back (write j)) ∙ write-reads j

    -- it is its own normal form
    pub narrowest-fixed : nf b (place_of N 0) ≡ place_of N 0
    unfolding narrowest_place
    narrowest-fixed = rw narrowest-read (normal-fixed law (narrowest b ps t u) (narrowest-normal t u normal-t normal-u))

    stored-t : AllEntries (Stored Positive Any) Positive t
    unfolding normal_of
    stored-t = nf-stored Positive Any tt b (place_of c 0) (place-fields Positive Any c (legal-names C) 0)

    stored-u : AllEntries (Stored Positive Any) Positive u
    unfolding normal_of
    stored-u = nf-stored Positive Any tt b (place_of d 0) (place-fields Positive Any d (legal-names D) 0)

    low-t : levels t ≤ 33
    unfolding normal_of
    low-t = omega (arith, nf-levels b (place_of c 0), place-levels c C)

    low-u : levels u ≤ 33
    unfolding normal_of
    low-u = omega (arith, nf-levels b (place_of d 0), place-levels d D)

    -- it is accepted, apart from its length
    pub narrowest-legal : Legal Description N
    unfolding narrowest_entries narrowest_place
    narrowest-legal =
        let j : Place = narrowest b ps t u in
        let fields = narrowest-all (Stored Positive Any) Positive (λ p q m x y. (named p q x, refl)) t u normal-t normal-u stored-t stored-u in
        write-legal description-rows j (narrowest-levels t u normal-t normal-u 33 low-t low-u)
        (row-all (Stored Positive Any) Positive row_entry (λ e. form_ok Description e ≡ true) row-form (write j)
        (write-all (Stored Positive Any) Positive j fields) zero_entry)

    -- a description contains it exactly if it contains both
    pub contains-narrowest : (e : List Entry) → Legal Description e
        → Subsumed b (place_of N 0) (place_of e 0) ↔ (Subsumed b (place_of c 0) (place_of e 0) × Subsumed b (place_of d 0) (place_of e 0))
    unfolding narrowest_place normal_of
    contains-narrowest e L =
        let y = narrowest-least (nf b (place_of c 0)) (nf b (place_of d 0)) (nf-normal law (place_of c 0)) (nf-normal law (place_of d 0)) e L in
        rw narrowest-read (
          λ f. let g = y.0 f in
              (λ r kept x i h. g.0 r kept x i (nf-sound r kept (place_of c 0) x i ∙ h), λ r kept x i h. g.1 r kept x i (nf-sound r kept (place_of d 0) x i ∙ h)),
          λ g. y.1 (λ r kept x i h. g.0 r kept x i (sym (nf-sound r kept (place_of c 0) x i) ∙ h), λ r kept x i h. g.1 r kept x i (sym (nf-sound r kept (place_of d 0) x i) ∙ h)),
        )

    -- each of the two is contained in it
    pub narrowest-contains : Subsumed b (place_of c 0) (place_of N 0) × Subsumed b (place_of d 0) (place_of N 0)
    narrowest-contains = (contains-narrowest N narrowest-legal).0 (λ r kept x i h. h)

-- ---- either order

-- which description is given first makes no difference
pub narrowest-either : {b : Background} (law : LawfulBackground b) (ps : List ℕ) (inc : Increasing 0 ps)
    (all-named : (p q : ℕ) → b.excludes q p ≡ true → member p ps ≡ true) (c d : List Entry) → Legal Description c → Legal Description d
    → ((p q : ℕ) → b.excludes q p ≡ true → Positive p) → narrowest_place b ps c d ≡ narrowest_place b ps d c
unfolding narrowest_place normal_of
narrowest-either {b} law ps inc all-named c d C D named =
    let cd = contains-narrowest law ps inc all-named c d C D named in
    let dc = contains-narrowest law ps inc all-named d c D C named in
    let up = narrowest-contains law ps inc all-named c d C D named in
    let down = narrowest-contains law ps inc all-named d c D C named in
    let first : Subsumed b (place_of (narrowest_entries b ps c d) 0) (place_of (narrowest_entries b ps d c) 0)
    = (cd (narrowest_entries b ps d c) (narrowest-legal law ps inc all-named d c D C named)).1 (down.1, down.0) in
    let second : Subsumed b (place_of (narrowest_entries b ps d c) 0) (place_of (narrowest_entries b ps c d) 0)
    = (dc (narrowest_entries b ps c d) (narrowest-legal law ps inc all-named c d C D named)).1 (up.1, up.0) in
    one-normal law _ _
    (narrowest-normal law ps inc all-named (nf b (place_of c 0)) (nf b (place_of d 0)) (nf-normal law (place_of c 0)) (nf-normal law (place_of d 0)))
    (narrowest-normal law ps inc all-named (nf b (place_of d 0)) (nf b (place_of c 0)) (nf-normal law (place_of d 0)) (nf-normal law (place_of c 0)))
    (λ r kept x i.
    iff-eq
    (λ h. ap (λ (t : Place). fits r t x) (sym (narrowest-read law ps inc all-named d c D C named)) ∙ first r kept x i (ap (λ (t : Place). fits r t x) (narrowest-read law ps inc all-named c d C D named) ∙ h))
    (λ h. ap (λ (t : Place). fits r t x) (sym (narrowest-read law ps inc all-named c d C D named)) ∙ second r kept x i (ap (λ (t : Place). fits r t x) (narrowest-read law ps inc all-named d c D C named) ∙ h)))
