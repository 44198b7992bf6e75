-- Owners that are allowed, entry by entry, and what unfolding does with one entry.
-- Assumes nothing.
use Prim.Native.Nat.{◌+◌, suc, ℕ}
use lib.Dec.{eqb}
use lib.ListN.{length}
use mathlib.Core.Bool.{Bool, false, true}
use mathlib.Core.List.{List, [], ◌++◌, ◌∷◌, map}
use mathlib.Core.Path.{◌≡◌}
use Rattle.base.proofs.Tests.{tests}
use Rattle.blocks.specs.Entries.{is_named}
use Rattle.blocks.specs.declared.Entry.{Entry}
use Rattle.names.proofs.Entries.Numbers.{owning}
use Rattle.names.specs.Unfold.{noted, owned_by, relocate, unfold_from}

-- each entry is owned by what may own before it, where the entries count from k
abbrev pub Owners : (ℕ → Bool) → ℕ → List Entry → Type 0
Owners own k [] = Unit {0}
Owners own k (e ∷ es) = (own e.owner ≡ true) × Owners (owning own k e) (suc k) es

-- a name is no 'every'
pub name-owns-none : (e : Entry) → is_named e ≡ true → eqb e.kind 5 ≡ false
name-owns-none e h = omega tests

module _ (T : ℕ → List Entry) (ν : ℕ → ℕ) (k m : ℕ) (e : Entry) (es : List Entry) where
  -- a name is replaced by its contents
  pub unfold-name : is_named e ≡ true
      → unfold_from T ν k m (e ∷ es) ≡ map (relocate m (ν e.owner)) (T e.name) ++ unfold_from T ν (suc k) (m + length (T e.name)) es
  unfolding unfold_from
  unfold-name h = rw h

  -- any other entry is taken over
  pub unfold-entry : is_named e ≡ false → unfold_from T ν k m (e ∷ es) ≡ owned_by (ν e.owner) e ∷ unfold_from T (noted ν k (suc m)) (suc k) (suc m) es
  unfolding unfold_from
  unfold-entry h = rw h
