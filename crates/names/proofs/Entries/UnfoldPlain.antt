-- A description without names unfolds to itself.
-- Assumes nothing.
use Prim.Native.Nat.{suc, ℕ}
use mathlib.Core.Bool.{false}
use mathlib.Core.List.{List, [], ◌∷◌}
use mathlib.Core.Path.{◌∙◌, ◌≡◌, refl, sym}
use Rattle.base.proofs.Tests.{eq-cases, eq-eqb, ne_eqb}
use Rattle.blocks.specs.Entries.{is_named}
use Rattle.blocks.specs.declared.Entry.{Entry}
use Rattle.names.proofs.Entries.EachEntry.{EachEntry, each-of-numbers}
use Rattle.names.proofs.Entries.OwnerSteps.{unfold-entry}
use Rattle.names.specs.Promise.{Plain}
use Rattle.names.specs.Unfold.{noted, unfold_from, unfolded}

plain-from : (T : ℕ → List Entry) (ν : ℕ → ℕ) (m : ℕ) (es : List Entry) → ((j : ℕ) → ν j ≡ j) → EachEntry (λ e. is_named e ≡ false) es
    → unfold_from T ν (suc m) m es ≡ es
unfolding unfold_from
plain-from T ν m [] same h = refl
plain-from T ν m (e ∷ es) same h =
    let ih = plain-from T (noted ν (suc m) (suc m)) (suc m) es
    (λ j. eq-cases j (suc m) (λ q. rw (eq-eqb q) (sym q)) (λ q. rw (ne_eqb q) (same j))) h.1 in
    unfold-entry T ν (suc m) m e es h.0 ∙ rw (ih, same e.owner)

-- a description without names unfolds to itself
pub unfold-plain : (T : ℕ → List Entry) (es : List Entry) → Plain es → unfolded T es ≡ es
unfolding unfolded
unfold-plain T es h = plain-from T (λ j. j) 0 es (λ j. refl) (each-of-numbers (λ e. is_named e ≡ false) es h)
