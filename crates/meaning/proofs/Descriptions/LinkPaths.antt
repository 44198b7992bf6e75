-- The links to an entry of a description: there are as many as the entry is deep, fewer than its number, and their names are those of
-- its owners.
-- Assumes nothing.
use Prim.Native.Nat.{◌<◌, ◌≤◌, suc, zero, ℕ}
use lib.Dec.{eqb}
use lib.ListN.{length, length-append}
use mathlib.Core.List.{List, [], ◌++◌, ◌∷◌}
use mathlib.Core.Path.{◌≡◌, refl}
use native.Mathlib.Omega.{arith}
use Rattle.base.proofs.Tests.{bool_cases, eq-cases, eq-eqb, ne_eqb}
use Rattle.blocks.proofs.Refusing.Legal.{owner-earlier, owner-kind}
use Rattle.blocks.specs.Entries.{nth}
use Rattle.blocks.specs.Owners.{chain, depth_of, owner_of}
use Rattle.blocks.specs.Promise.{Legal}
use Rattle.blocks.specs.declared.Entry.{Entry}
use Rattle.blocks.specs.declared.Schema.TheVariants.{Description}
use Rattle.logic.proofs.SpecimenTrees.WitnessFields.{AllNames, TargetFields}
use Rattle.logic.specs.Witness.{on}
use Rattle.meaning.proofs.Descriptions.EntryFields.{EntryFields, atom-fields}
use Rattle.meaning.proofs.Descriptions.PlaceSize.{depth-most}
use Rattle.meaning.specs.Description.{atom_of, links_to, links_up}

-- ---- how many

links-chain : (d : List Entry) (f k : ℕ) → length (links_up d f k) ≡ chain d f k
unfolding links_up chain
links-chain d zero k = refl
links-chain d (suc f) k =
    bool_cases (eqb (owner_of d k) 0)
    (λ q. rw q)
    (λ q. rw q (simp length-append (omega (arith, links-chain d f (owner_of d k)))))

-- as many as the entry is deep
pub links-depth : (d : List Entry) (n : ℕ) → length (links_to d n) ≡ depth_of d n
unfolding links_to depth_of
links-depth d n = links-chain d n n

module _ (d : List Entry) (L : Legal Description d) where
  links-before : (f k : ℕ) → 1 ≤ k → k ≤ length d → length (links_up d f k) < k
  unfolding links_up
  links-before zero k lo hi = omega arith
  links-before (suc f) k lo hi =
      let o = owner-earlier L k lo hi in
      eq-cases (owner_of d k) 0
      (λ z. rw (eq-eqb z) (omega arith))
      (λ z. rw (ne_eqb z) (simp length-append (omega (arith, links-before f (owner_of d k) (omega arith) (omega arith)))))

  -- fewer than the entry's number
  pub links-fewer : (n : ℕ) → 1 ≤ n → n ≤ length d → length (links_to d n) < n
  unfolding links_to
  links-fewer n lo hi = links-before n n lo hi

  -- at most 32
  pub links-most : (n : ℕ) → 1 ≤ n → n ≤ length d → length (links_to d n) ≤ 32
  links-most n lo hi = omega (arith, links-depth d n, depth-most d L n lo hi)

-- ---- their names

-- two lists of names in a row
names-append : (Name : ℕ → Type 0) (v w : List ℕ) → AllNames Name v → AllNames Name w → AllNames Name (v ++ w)
names-append Name [] w h k = k
names-append Name (x ∷ v) w h k = (h.0, names-append Name v w h.1 k)

-- where the entries up to number top have such fields
module _ (Name Number : ℕ → Type 0) (d : List Entry) (L : Legal Description d) (top : ℕ) (within : top ≤ length d)
    (each : (n : ℕ) → 1 ≤ n → n ≤ top → EntryFields Name Number (nth d n)) where
  links-names : (f k : ℕ) → 1 ≤ k → k ≤ top → AllNames Name (links_up d f k)
  unfolding links_up
  links-names zero k lo hi = tt
  links-names (suc f) k lo hi =
      let o = owner-earlier L k lo (omega arith) in
      eq-cases (owner_of d k) 0
      (λ z. rw (eq-eqb z) tt)
      (λ z.
      let five = owner-kind L k lo (omega arith) z in
      rw (ne_eqb z)
      (names-append Name (links_up d f (owner_of d k)) ((nth d (owner_of d k)).name ∷ [])
      (links-names f (owner_of d k) (omega arith) (omega arith))
      ((each (owner_of d k) (omega arith) (omega arith)).name (λ y. omega arith), tt)))

  -- the fields of the links to an entry, and of the entry
  pub target-fields : (n : ℕ) → 1 ≤ n → n ≤ top → TargetFields Name Number (on (links_to d n) (atom_of (nth d n)))
  unfolding links_to
  target-fields n lo hi = (links-names n n lo hi, atom-fields Name Number (nth d n) (each n lo hi))
