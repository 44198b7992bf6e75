-- Laws of meeting an entry, one for each way through the code.
-- Assumes nothing.
use Prim.Native.Nat.{◌-◌, suc, zero, ℕ, ◌%◌}
use lib.Dec.{eqb, leb}
use lib.ListN.{length}
use mathlib.Core.Bool.{Bool, cond, ◌&&◌, ◌||◌, false, not, true}
use mathlib.Core.List.{List}
use mathlib.Core.Logic.{◌≢◌}
use mathlib.Core.Path.{◌∙◌, ◌≡◌, ap, refl, sym}
use native.Mathlib.Numerals.{sub-one}
use Rattle.base.proofs.Tests.{bool_cases, false_of_not, ne_eqb, or-one, true_of_not}
use Rattle.blocks.specs.Entries.{nth}
use Rattle.blocks.specs.Owners.{owner_of}
use Rattle.blocks.specs.declared.Entry.{Entry}
use Rattle.blocks.specs.declared.Schema.TheVariants.{Specimen}
use Rattle.fit.proofs.groups.GroupLaws.{full-here, owned-else, owned-here}
use Rattle.fit.proofs.index.BucketLaws.{all-bucket, code-full, elsewhere}
use Rattle.fit.specs.code.Bare.{bare, bare_fits}
use Rattle.fit.specs.code.Groups.{fits_place, group_fits, groups_by, has_bare, has_property, is_group, meets_entry, own_fits, total_by}
use Rattle.fit.specs.code.Index.{bucket_of, hash_of, is_of}
use Rattle.meaning.specs.Owned.{all_owned, all_where}

-- the items of group g meet an entry that is no 'every'
unfoldable pub meets_atom : List Entry → ℕ → Entry → Bool
meets_atom s g e =
    cond (eqb e.kind 1) (has_property s g e.name)
    (cond (eqb e.kind 2) (not (has_property s g e.name))
    (cond (eqb e.kind 3) (leb e.number (total_by s g e.name))
    (cond (eqb e.kind 4) (leb (total_by s g e.name) e.number) false)))

-- one of another kind is not met
pub no-atom : (s : List Entry) (g : ℕ) (e : Entry) → e.kind ≢ 1 → e.kind ≢ 2 → e.kind ≢ 3 → e.kind ≢ 4 → false ≡ meets_atom s g e
unfolding meets_atom
no-atom s g e a b c d = rw (meets_atom, ne_eqb a, ne_eqb b, ne_eqb c, ne_eqb d)

pub meets-bottom : (left : ℕ) (s d : List Entry) (g e : ℕ) → left ≡ 0 → false ≡ meets_entry left s d g e
unfolding meets_entry
meets-bottom left s d g e z = rw z

pub meets-atoms : (left : ℕ) (s d : List Entry) (g e : ℕ) {x : Entry} {r : Bool} → left ≢ 0 → x ≡ nth d e → x.kind ≢ 5 → r ≡ meets_atom s g x
    → r ≡ meets_entry left s d g e
unfolding meets_entry meets_atom
meets-atoms zero s d g e z a k h = absurd (z refl)
meets-atoms (suc left) s d g e z a k h = h ∙ rw (a, meets_atom, meets_entry, ne_eqb (λ q. k (ap (λ (y : Entry). y.kind) a ∙ q)))

meets-groups : (left : ℕ) (s d : List Entry) (g e : ℕ) {x : Entry} {l : ℕ} → left ≢ 0 → x ≡ nth d e → x.kind ≡ 5 → l ≡ x.name
    → meets_entry left s d g e ≡ ((bare_fits d e || not (has_bare s g l)) && all_owned (group_fits (left - 1) s d e l) s g (length s))
unfolding meets_entry groups_by
meets-groups zero s d g e z a k n = absurd (z refl)
meets-groups (suc left) s d g e z a k n =
    let kind : (nth d e).kind ≡ 5 = sym (ap (λ (y : Entry). y.kind) a) ∙ k in
    let name : (nth d e).name ≡ _ = sym (n ∙ ap (λ (y : Entry). y.name) a) in
    rw (meets_entry, kind, name, groups_by, sub-one)

-- whether groups that own nothing fit a place, by what was found of the place and of the groups
pub bare-fail : (fits has : Bool) {a b : Bool} → a ≡ not fits → b ≡ has → a ≡ true → b ≡ true → (fits || not has) ≡ false
bare-fail fits has a b y z = rw (false_of_not fits (sym a ∙ y), sym b ∙ z)

pub bare-asked : (fits has : Bool) {a : Bool} → a ≡ not fits → a ≡ false → (fits || not has) ≡ true
bare-asked fits has a y = rw (true_of_not fits (sym a ∙ y))

pub bare-none : (fits has : Bool) {b : Bool} → b ≡ has → b ≡ false → (fits || not has) ≡ true
bare-none fits has b z = rw (sym b ∙ z, or-one fits)

-- groups that own nothing are judged together
module _ (left : ℕ) (s d : List Entry) (g e : ℕ) {x : Entry} {l : ℕ} (z : left ≢ 0) (a : x ≡ nth d e) (k : x.kind ≡ 5) (n : l ≡ x.name) where
  pub meets-bare : (bare_fits d e || not (has_bare s g l)) ≡ false → false ≡ meets_entry left s d g e
  meets-bare q = sym (meets-groups left s d g e z a k n ∙ rw q)

  pub meets-bucket : (most : ℕ) → (bare_fits d e || not (has_bare s g l)) ≡ true
      → meets_entry left s d g e ≡ all_where (bucket_of Specimen most s) (own_fits (left - 1) s d e g l) (hash_of most g 7 l) (length s)
  meets-bucket most q =
      meets-groups left s d g e z a k n ∙ rw q
      (all-bucket (owner_of s) (bucket_of Specimen most s) (group_fits (left - 1) s d e l) g (hash_of most g 7 l)
      (λ k out. bool_cases (bare s k)
      (λ y. rw (y, or-one (not (is_group s l k)), or-one (not (eqb (owner_of s k) g))))
      (λ y. elsewhere most s g 7 7 l k out (λ q. code-full _ q y) (λ o. rw o) (λ m. rw m (or-one (not (eqb (owner_of s k) g)))))) (length s))

-- what entry k was read to be decides
module _ (s : List Entry) (left : ℕ) (d : List Entry) (e g l k : ℕ) {x : Entry} {r : Bool} (a : x ≡ nth s k) (b : r ≡ is_of x g 7 l) where
  pub other-passes : r ≡ false → own_fits left s d e g l k ≡ true
  other-passes q = owned-else s g 7 l k a b q (λ o. rw o) (λ m. rw m (or-one (not (eqb (owner_of s k) g))))

  pub group-decides : (most : ℕ) {f : Bool} → bucket_of Specimen most s k ≡ hash_of most g 7 l → (most - 1) % 2 ≡ 1 → r ≡ true → f ≡ fits_place left s d k e
      → own_fits left s d e g l k ≡ f
  group-decides most at more q h =
      let y = owned-here s g 7 l k a b q in rw (y.0, y.1, full-here most s g l k more y.0 y.1 at) (sym h)
