-- Laws of what the items of a group have, one for each step of a walk over the entries of a bucket.
-- Assumes nothing.
use Prim.Native.Nat.{ℕ, ◌-◌, ◌%◌}
use lib.Dec.{eqb, leb}
use lib.ListN.{length}
use mathlib.Core.Bool.{Bool, ◌&&◌, ◌||◌, false, not, true}
use mathlib.Core.List.{List}
use mathlib.Core.Path.{◌∙◌, ◌≡◌, ap, sym}
use native.Mathlib.Omega.{arith}
use Rattle.std.proofs.Math.Logic.{∥∥₁_elim}
use Rattle.std.proofs.Props.{props}
use Rattle.base.proofs.Tests.{and_cases, and_left, and_right, bool_cases, eqb-eq, or-one}
use Rattle.blocks.specs.Entries.{entries_of, nth}
use Rattle.blocks.specs.Owners.{owner_of}
use Rattle.blocks.specs.Single.{items_up_to}
use Rattle.blocks.specs.declared.Entry.{Entry}
use Rattle.blocks.specs.declared.Schema.TheVariants.{Specimen}
use Rattle.fit.proofs.index.BucketLaws.{all-bucket, code-bare, code-full, code_other, elsewhere, hash-apart}
use Rattle.fit.proofs.index.BucketWalk.{where-ext}
use Rattle.fit.specs.Totals.{TotalsOf}
use Rattle.fit.specs.code.Bare.{bare}
use Rattle.fit.specs.code.Groups.{gives_property, groups_by, has_bare, has_property, is_group, total_by}
use Rattle.fit.specs.code.Index.{any_of, bucket_of, code_of, hash_of, is_of, not_of}
use Rattle.fit.specs.code.Rows.{Singles}

-- what was worked out of the entry that was read is true of entry k of the list
read_here : {A : Type 0} (es : List Entry) (f : Entry → A) (k : ℕ) {e : Entry} {r : A} → e ≡ nth es k → r ≡ f e → f (nth es k) ≡ r
read_here es f k a b = sym (b ∙ ap f a)

-- ---- an entry that was read

module _ (es : List Entry) (g kind name k : ℕ) {e : Entry} {r : Bool} (a : e ≡ nth es k) (b : r ≡ is_of e g kind name) where
  of-read : is_of (nth es k) g kind name ≡ r
  of-read = read_here es (λ (x : Entry). is_of x g kind name) k a b

  pub owned-here : r ≡ true → (eqb (owner_of es k) g ≡ true)
      × ((eqb (nth es k).kind kind && eqb (nth es k).name name) ≡ true)
  unfolding owner_of
  owned-here y =
      let x = nth es k in
      let own = eqb x.owner g in
      let is = eqb x.kind kind && eqb x.name name in
      (and_left own is (of-read ∙ y), and_right own is (of-read ∙ y))

  pub owned-else : {A : Type 0} → r ≡ false → (eqb (owner_of es k) g ≡ false → A)
      → ((eqb (nth es k).kind kind && eqb (nth es k).name name) ≡ false → A) → A
  unfolding owner_of
  owned-else y =
      let x = nth es k in
      and_cases (eqb x.owner g) (eqb x.kind kind && eqb x.name name) (of-read ∙ y)

-- what entry k was read to be decides
module _ (es : List Entry) (g kind name k : ℕ) {e : Entry} {r : Bool} (a : e ≡ nth es k) (b : r ≡ is_of e g kind name) where
  pub is-here : r ≡ true → not_of es g kind name k ≡ false
  is-here q = let y = owned-here es g kind name k a b q in rw (y.0, y.1)

  pub is-else : r ≡ false → not_of es g kind name k ≡ true
  is-else q = owned-else es g kind name k a b q (λ o. rw o) (λ m. rw m (or-one (not (eqb (owner_of es k) g))))

-- ---- properties

pub property_bucket : (most : ℕ) (es : List Entry) (g p : ℕ) {b : ℕ} {r : Bool} → b ≡ hash_of most g 1 p → r ≡ any_of most es b g 1 p → r ≡ has_property es g p
unfolding has_property any_of
property_bucket most es g p is h =
    h ∙ rw (is, any_of) (ap not (sym (all-bucket (owner_of es) (bucket_of Specimen most es) (λ k. not (gives_property es p k)) g (hash_of most g 1 p)
    (λ k out. elsewhere most es g 1 1 p k out (λ q. code_other _ _ (λ z. omega arith) ∙ q) (λ o. rw o) (λ m. rw m (or-one (not (eqb (owner_of es k) g))))) (length es))))

-- ---- groups that own nothing

-- group k of the bucket of those that own nothing does, and of the bucket of the others does not
module _ (most : ℕ) (es : List Entry) (g l k : ℕ) (more : (most - 1) % 2 ≡ 1) (own : eqb (owner_of es k) g ≡ true)
    (is : (eqb (nth es k).kind 7 && eqb (nth es k).name l) ≡ true) where
  at_code : {code : ℕ} → code_of (nth es k).kind (bare es k) ≡ code → bucket_of Specimen most es k ≡ hash_of most g code l
  at_code e =
      let a : owner_of es k ≡ g = eqb-eq own in
      let b : (nth es k).name ≡ l = eqb-eq (and_right (eqb (nth es k).kind 7) (eqb (nth es k).name l) is) in
      rw (a, e, b)

  kind-is : (nth es k).kind ≡ 7
  kind-is = eqb-eq (and_left (eqb (nth es k).kind 7) (eqb (nth es k).name l) is)

  pub full-here : bucket_of Specimen most es k ≡ hash_of most g 7 l → bare es k ≡ false
  full-here e =
      bool_cases (bare es k) (λ y. absurd (hash-apart most g l more (sym (at_code (code-bare _ kind-is y)) ∙ e))) (λ n. n)

  pub bare-here : bucket_of Specimen most es k ≡ hash_of most g 8 l → bare es k ≡ true
  bare-here e =
      bool_cases (bare es k) (λ y. y) (λ n. absurd (hash-apart most g l more (sym e ∙ at_code (code-full _ kind-is n))))

pub bare_bucket : (most : ℕ) (es : List Entry) (g l : ℕ) {b : ℕ} {r : Bool} → (most - 1) % 2 ≡ 1 → b ≡ hash_of most g 8 l → r ≡ any_of most es b g 7 l → r ≡ has_bare es g l
unfolding groups_by any_of
bare_bucket most es g l more is h =
    h ∙ rw (is, any_of, groups_by)
    (ap not (where-ext (bucket_of Specimen most es) (not_of es g 7 l) (λ k. not (eqb (owner_of es k) g) || (not (is_group es l k) || not (bare es k))) (hash_of most g 8 l) (length es)
    (λ k at. bool_cases (eqb (owner_of es k) g)
    (λ o. bool_cases (is_group es l k) (λ q. rw (o, q, bare-here most es g l k more o q at)) (λ q. rw (o, q)))
    (λ o. rw o))
    ∙ sym (all-bucket (owner_of es) (bucket_of Specimen most es) (λ k. not (is_group es l k) || not (bare es k)) g (hash_of most g 8 l)
    (λ k out. bool_cases (bare es k)
    (λ y. elsewhere most es g 7 8 l k out (λ q. code-bare _ q y) (λ o. rw o) (λ m. rw m (or-one (not (eqb (owner_of es k) g)))))
    (λ y. rw (y, or-one (not (is_group es l k)), or-one (not (eqb (owner_of es k) g))))) (length es))))

-- ---- totals

-- what the table has for every list of entries that it is of, it has for the specimen's
pub table-total : (s : List ℕ) {rows : List ℕ} {used r : ℕ} (o l : ℕ) → ∥ TotalsOf (entries_of s) (length (entries_of s)) rows used ∥₁
    → ((es : List Entry) → (m : ℕ) → TotalsOf es m rows used → r ≡ items_up_to es o l m) → r ≡ total_by (entries_of s) o l
table-total s o l T h = ∥∥₁_elim T (search props) (h (entries_of s) (length (entries_of s)))

pub table-most : (s : List ℕ) {rows : List ℕ} {used : ℕ} {r : Bool} (o l number : ℕ) → ∥ TotalsOf (entries_of s) (length (entries_of s)) rows used ∥₁
    → Singles (entries_of s) (length (entries_of s))
    → ((es : List Entry) → (m : ℕ) → TotalsOf es m rows used → Singles es m → r ≡ leb (items_up_to es o l m) number)
    → r ≡ leb (total_by (entries_of s) o l) number
table-most s o l number T S h =
    ∥∥₁_elim T (search props) (λ t. h (entries_of s) (length (entries_of s)) t S)
