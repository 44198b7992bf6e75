-- Links that are noted.
-- Assumes nothing.
use Prim.Native.Nat.{◌+◌, ◌≤◌, ℕ}
use lib.Dec.{eqb}
use lib.ListN.{length, length-append}
use mathlib.Core.Bool.{false, true}
use mathlib.Core.List.{List, [], ◌∷◌}
use mathlib.Core.Logic.{◌≢◌}
use mathlib.Core.Path.{◌≡◌, refl}
use native.Mathlib.Omega.{arith}
use Rattle.base.proofs.Tests.{bool_cases, eq-eqb, ne_eqb}
use Rattle.blocks.specs.declared.Entry.{Entry}
use Rattle.narrowest.proofs.rows.CountLaws.{counted-none}
use Rattle.narrowest.specs.code.Codes.{code_below, leads, links_of}
use Rattle.narrowest.specs.code.Pushes.{Counted}
use Rattle.std.specs.List.{flat_map}

module _ (one two : List Entry) (F : List ℕ) (o s : ℕ) {e x : Entry} (i : e ≡ x) where
  -- an entry that leads nowhere, and one below which nothing stands
  pub link-none : {order : List ℕ} {n : ℕ} → n ≤ length order + 1 → leads e ≡ false → Counted (length order) order n (links_of one two F o s x) order n
  unfolding links_of
  link-none l f = let f' = rw i at f in rw f' (counted-none refl l)

  pub link-empty : {order : List ℕ} {n : ℕ} → n ≤ length order + 1 → leads e ≡ true → code_below one two F o s e.name ≡ 0
      → Counted (length order) order n (links_of one two F o s x) order n
  unfolding links_of
  link-empty l f z = let f' = rw i at f in let z' = rw i at z in rw (f', eq-eqb z') (counted-none refl l)

  -- any other
  pub link-listed : leads e ≡ true → code_below one two F o s e.name ≢ 0 → e.name ∷ [] ≡ links_of one two F o s x
  unfolding links_of
  link-listed f z = let f' = rw i at f in let z' = rw i at z in rw (i, f', ne_eqb z') refl

-- an entry notes one link at most
module _ (one two : List Entry) (F : List ℕ) (o s : ℕ) where
  one-link : (e : Entry) → length (links_of one two F o s e) ≤ 1
  unfolding links_of
  one-link e =
      bool_cases (leads e)
      (λ f. rw f (bool_cases (eqb (code_below one two F o s e.name) 0) (λ z. rw z (omega arith)) (λ z. rw z (omega arith))))
      (λ f. rw f (omega arith))

  pub links-few : (es : List Entry) → length (flat_map (links_of one two F o s) es) ≤ length es
  links-few [] = omega arith
  links-few (e ∷ es) = omega (arith, length-append (links_of one two F o s e) (flat_map (links_of one two F o s) es), one-link e, links-few es)
