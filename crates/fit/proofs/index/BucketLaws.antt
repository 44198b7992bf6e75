-- Buckets of entries: which there are, and where the entries of one owner, kind and name stand.
-- Assumes nothing.
use Prim.Native.Nat.{◌%◌, ◌*◌, ◌+◌, ◌<◌, ◌≤◌, suc, zero, ℕ, ◌-◌}
use lib.Bits.{and_le_r, and_step, bit_and}
use lib.Dec.{eqb}
use lib.ListN.{get_or, length}
use mathlib.Core.Bool.{Bool, ◌&&◌, ◌||◌, false, not, true}
use mathlib.Core.List.{List}
use mathlib.Core.Logic.{◌≢◌}
use mathlib.Core.Path.{◌∙◌, ◌≡◌, ap, refl}
use native.Mathlib.Omega.{arith}
use Rattle.std.proofs.Math.Bool.{not-not}
use Rattle.base.proofs.Tests.{and_cases, and_left, and_right, bool_cases, both_ways, eq-eqb, eqb-eq, ne_eqb}
use Rattle.blocks.specs.Entries.{nth}
use Rattle.blocks.specs.Owners.{owner_of}
use Rattle.blocks.specs.declared.Entry.{Entry}
use Rattle.blocks.specs.declared.Schema.{Schema}
use Rattle.blocks.specs.declared.Schema.TheVariants.{Description, Named, Specimen}
use Rattle.fit.specs.code.Bare.{Marked, any_entry, bare, quiet}
use Rattle.fit.specs.code.Index.{Ordered, bucket_of, code_of, hash_of}
use Rattle.meaning.specs.Owned.{all_where}

-- ---- there are `most`

pub hash-below : (most o k n : ℕ) → 0 < most → hash_of most o k n < most
unfolding hash_of
hash-below most o k n pos = omega (arith, and_le_r (o + (31 * n + k)) (most - 1))

pub hash_is : (most o k n : ℕ) {q m : ℕ} → 0 < most → q ≡ k → m ≡ n
    → (bit_and (o + (31 * m + q)) (most - 1) ≡ hash_of most o k n) × (bit_and (o + (31 * m + q)) (most - 1) < most)
unfolding hash_of
hash_is most o k n {q} {m} pos d e = (rw (hash_of, d, e), omega (arith, and_le_r (o + (31 * m + q)) (most - 1)))

-- where one less than `most` is at hand
pub masked_is : (most o k n : ℕ) {m r : ℕ} → 0 < most → m ≡ most - 1 → r ≡ bit_and (o + (31 * n + k)) m
    → (r ≡ hash_of most o k n) × (r < most)
masked_is most o k n pos d e = rw (e, d) (hash_is most o k n pos refl refl)

pub bucket-below : (σ : Schema) (most : ℕ) (es : List Entry) (k : ℕ) → Ordered es → 1 ≤ k → k ≤ length es → length es < most → bucket_of σ most es k < most
bucket-below Description most es k O lo hi few = omega (arith, O.earlier k lo hi)
bucket-below (Named names) most es k O lo hi few = omega (arith, O.earlier k lo hi)
bucket-below Specimen most es k O lo hi few = hash-below most (owner_of es k) (code_of (nth es k).kind (bare es k)) (nth es k).name (omega arith)

-- ---- kinds by which entries are found

pub code_other : (kind : ℕ) (b : Bool) → kind ≢ 7 → code_of kind b ≡ kind
unfolding code_of
code_other kind b z = rw (code_of, ne_eqb z)

pub code-full : (kind : ℕ) {b : Bool} → kind ≡ 7 → b ≡ false → code_of kind b ≡ 7
unfolding code_of
code-full kind q n = rw (code_of, q, n)

pub code-bare : (kind : ℕ) {b : Bool} → kind ≡ 7 → b ≡ true → code_of kind b ≡ 8
unfolding code_of
code-bare kind q y = rw (code_of, q, y)

-- a mark says whether one of the owner's entries tells
pub marked-tells : {tells : Entry → Bool} {es : List Entry} {total most : ℕ} {marks : List Bool} → Marked tells es total most marks → total ≡ length es
    → (k : ℕ) → k < most → not (get_or marks k false) ≡ quiet tells es k (length es)
marked-tells {tells} {es} {total} M n k l =
    ap not (M.mark k l) ∙ not-not (quiet tells es k total) ∙ ap (quiet tells es k) n

-- the bucket of the entry that was read, with the mark that says whether it owns something, is that of entry k
pub bucket-specimen : {most total : ℕ} {marks : List Bool} (es : List Entry) (k : ℕ) → Marked any_entry es total most marks → total ≡ length es → k < most
    → {e : Entry} {m : Bool} {o c b : ℕ} → e ≡ nth es k → m ≡ get_or marks k false → o ≡ e.owner → c ≡ code_of e.kind (not m) → b ≡ hash_of most o c e.name
    → b ≡ bucket_of Specimen most es k
unfolding owner_of
bucket-specimen {most} {total} {marks} es k M n l {e} at mark own code h =
    h ∙ rw (own, code, mark, marked-tells M n k l, at)

-- a number and the next differ in their lowest bit
next-apart : (x b : ℕ) → b % 2 ≡ 1 → bit_and (suc x) b ≢ bit_and x b
next-apart x b odd e = omega (arith, and_step (suc x) b, and_step x b)

-- groups that own nothing stand apart from the others of their owner and link
pub hash-apart : (most o n : ℕ) → (most - 1) % 2 ≡ 1 → hash_of most o 8 n ≢ hash_of most o 7 n
unfolding hash_of
hash-apart most o n h e =
    let next : o + (31 * n + 8) ≡ suc (o + (31 * n + 7)) = omega arith in next-apart (o + (31 * n + 7)) (most - 1) h (rw next at e)

-- ---- the entries of an owner that matter stand in one bucket

-- a test of an owner's entries, where those outside the bucket pass
pub all-bucket : (c c' : ℕ → ℕ) (p : ℕ → Bool) (o b : ℕ) → ((k : ℕ) → eqb (c' k) b ≡ false → (not (eqb (c k) o) || p k) ≡ true)
    → (n : ℕ) → all_where c p o n ≡ all_where c' (λ k. not (eqb (c k) o) || p k) b n
unfolding all_where
all-bucket c c' p o b h zero = refl
all-bucket c c' p o b h (suc n) =
    let rest = all-bucket c c' p o b h n in
    bool_cases (eqb (c' (suc n)) b) (λ q. rw (q, rest)) (λ q. rw (q, h (suc n) q, rest))

-- an entry outside the bucket of an owner, a kind and a name, if it is found by that kind, is of another owner, or of another kind or name
module _ {A : Type 0} (most : ℕ) (es : List Entry) (g kind code name k : ℕ) (out : eqb (bucket_of Specimen most es k) (hash_of most g code name) ≡ false)
    (coded : (nth es k).kind ≡ kind → code_of (nth es k).kind (bare es k) ≡ code) where
  pub elsewhere : (eqb (owner_of es k) g ≡ false → A) → ((eqb (nth es k).kind kind && eqb (nth es k).name name) ≡ false → A) → A
  elsewhere =
      let own = eqb (owner_of es k) g in
      let is = eqb (nth es k).kind kind && eqb (nth es k).name name in
      and_cases own is
      (bool_cases (own && is)
      (λ y.
      let o : owner_of es k ≡ g = eqb-eq (and_left own is y) in
      let a : (nth es k).kind ≡ kind = eqb-eq (and_left (eqb (nth es k).kind kind) (eqb (nth es k).name name) (and_right own is y)) in
      let b : (nth es k).name ≡ name = eqb-eq (and_right (eqb (nth es k).kind kind) (eqb (nth es k).name name) (and_right own is y)) in
      let e : bucket_of Specimen most es k ≡ hash_of most g code name = rw (o, coded a, b) in
      both_ways (eq-eqb e) out)
      (λ n. n))
