-- The normal form of a description is no deeper: the depths of entries, and the levels of places.
-- Assumes nothing.
use Prim.Native.Nat.{◌+◌, ◌-◌, ◌<◌, ◌≤◌, suc, zero, ℕ}
use lib.Dec.{eqb, leb}
use lib.ListN.{length}
use mathlib.Core.Bool.{Bool, cond, true}
use mathlib.Core.List.{List}
use mathlib.Core.Path.{◌∙◌, ◌≡◌, refl, sym}
use native.Mathlib.Omega.{arith}
use Rattle.base.proofs.Tests.{eq-cases, eq-eqb, leb-le, leb-self, ne_eqb, tests}
use Rattle.blocks.proofs.Refusing.Legal.{owner-earlier, owner-kind}
use Rattle.blocks.proofs.Refusing.LevelLaws.{depth-top, depth-under}
use Rattle.blocks.specs.Entries.{nth}
use Rattle.blocks.specs.Owners.{depth_of, owner_of}
use Rattle.blocks.specs.Promise.{Legal}
use Rattle.blocks.specs.declared.Entry.{Entry}
use Rattle.blocks.specs.declared.Schema.TheVariants.{Description}
use Rattle.logic.specs.Background.{Background}
use Rattle.logic.specs.Size.{levels}
use Rattle.meaning.proofs.Descriptions.OwnedLaws.{owned_at, owned-of}
use Rattle.meaning.proofs.Descriptions.PlaceSize.{depth-owned, levels-here}
use Rattle.meaning.proofs.Descriptions.Places.{asks, place-owned}
use Rattle.meaning.proofs.NormalForms.NormalEntriesLaws.{normal-levels}
use Rattle.meaning.proofs.NormalForms.NormalLegal.{normal-legal}
use Rattle.meaning.specs.Description.{place_of}
use Rattle.meaning.specs.NormalEntries.{normal_entries}
use Rattle.meaning.specs.Owned.{all_owned}

module _ (d : List Entry) (L : Legal Description d) where
  -- ---- from depths to levels

  -- places near the end first: a place whose entries have depth e or more has at most so many levels as depths are left
  levels-from : (bound left o e : ℕ) → length d ≤ o + left → e ≤ bound → ((n : ℕ) → 1 ≤ n → n ≤ length d → depth_of d n < bound)
      → ((n : ℕ) → 1 ≤ n → n ≤ length d → owner_of d n ≡ o → e ≤ depth_of d n) → leb (levels (place_of d o)) (bound - e) ≡ true
  levels-from bound zero o e b small shallow deep =
      levels-here (bound - e) (place_of d o) ∙ place-owned d L (λ a. leb 1 (bound - e)) (λ l u. leb (suc (levels u)) (bound - e)) o
      ∙ owned-of _ d o (length d) (λ n lo hi q. absurd (omega (arith, owner-earlier L n lo hi)))
  levels-from bound (suc left) o e b small shallow deep =
      levels-here (bound - e) (place_of d o) ∙ place-owned d L (λ a. leb 1 (bound - e)) (λ l u. leb (suc (levels u)) (bound - e)) o
      ∙ owned-of _ d o (length d)
      (λ n lo hi q.
      let x = deep n lo hi q in
      let y = shallow n lo hi in
      eq-cases (nth d n).kind 5
      (λ z.
      let ih = levels-from bound left n (suc e) (omega (arith, owner-earlier L n lo hi)) (omega arith) shallow
      (λ m lo' hi' p. omega (arith, depth-owned d L m n lo lo' hi' p)) in
      rw (eq-eqb z) (omega tests))
      (λ z. rw (ne_eqb z) (omega tests)))

  -- a description whose entries are less deep than `bound` has at most so many levels
  pub levels-most : (bound : ℕ) → ((n : ℕ) → 1 ≤ n → n ≤ length d → depth_of d n < bound) → levels (place_of d 0) ≤ bound
  levels-most bound shallow =
      let e = levels-from bound (length d) 0 0 (omega arith) (omega arith) shallow (λ n lo hi q. omega arith) in
      let f : levels (place_of d 0) ≤ bound - 0 = leb-le e in
      omega arith

  -- ---- from levels to depths

  abbrev levels_at : ℕ → ℕ
  levels_at o = levels (place_of d o)

  -- what a place's levels say of an entry that stands there
  level-owned : (n : ℕ) → 1 ≤ n → n ≤ length d
      → cond (eqb (nth d n).kind 5) (leb (suc (levels_at n)) (levels_at (owner_of d n))) (leb 1 (levels_at (owner_of d n))) ≡ true
  level-owned n lo hi =
      let o : ℕ = owner_of d n in
      let k : ℕ = levels_at o in
      let p : ℕ → Bool = λ j. asks (λ a. leb 1 k) (λ l u. leb (suc (levels u)) k) d j (nth d j) in
      let whole : all_owned p d o (length d) ≡ true =
      sym (place-owned d L (λ a. leb 1 k) (λ l u. leb (suc (levels u)) k) o) ∙ sym (levels-here k (place_of d o)) ∙ leb-self k in
      owned_at p d o (length d) whole n lo hi refl

  -- an 'every' stands one level above what it owns
  level-under : (n : ℕ) → 1 ≤ n → n ≤ length d → (nth d n).kind ≡ 5 → suc (levels_at n) ≤ levels_at (owner_of d n)
  level-under n lo hi z = leb-le (rw (eq-eqb z) at (level-owned n lo hi))

  -- a place with an entry has a level
  level-some : (n : ℕ) → 1 ≤ n → n ≤ length d → 1 ≤ levels_at (owner_of d n)
  level-some n lo hi =
      eq-cases (nth d n).kind 5
      (λ z. omega (arith, level-under n lo hi z))
      (λ z. leb-le (rw (ne_eqb z) at (level-owned n lo hi)))

  -- an entry's depth, and the levels of its place
  depth-and-levels : (left n : ℕ) → n ≤ left → 1 ≤ n → n ≤ length d → depth_of d n + levels_at (owner_of d n) ≤ levels_at 0
  depth-and-levels zero n b lo hi = absurd (omega arith)
  depth-and-levels (suc left) n b lo hi =
      let early = owner-earlier L n lo hi in
      eq-cases (owner_of d n) 0
      (λ z. rw (z, depth-top d n z) (omega arith))
      (λ z.
      let ih = depth-and-levels left (owner_of d n) (omega arith) (omega arith) (omega arith) in
      let up = level-under (owner_of d n) (omega arith) (omega arith) (owner-kind L n lo hi z) in
      let deep = depth-under d n (λ k a c. owner-earlier L k a (omega arith)) early z in
      omega arith)

  -- an entry is less deep than there are levels
  pub depth-levels : (n : ℕ) → 1 ≤ n → n ≤ length d → depth_of d n < levels (place_of d 0)
  depth-levels n lo hi = omega (arith, depth-and-levels n n (omega arith) lo hi, level-some n lo hi)

-- ---- a normal form

-- no entry of the normal form is deeper than all entries of the description
pub normal-depth : (b : Background) (es : List Entry) → Legal Description es → (bound : ℕ) → ((n : ℕ) → 1 ≤ n → n ≤ length es → depth_of es n < bound)
    → (n : ℕ) → 1 ≤ n → n ≤ length (normal_entries b es) → depth_of (normal_entries b es) n < bound
normal-depth b es L bound shallow n lo hi =
    omega (arith, depth-levels (normal_entries b es) (normal-legal b es L) n lo hi, normal-levels b es, levels-most es L bound shallow)
