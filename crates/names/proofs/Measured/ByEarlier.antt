-- The size and the levels of each description of a dictionary are worked out from those of all, of which it names only earlier ones.
-- Assumes nothing.
use Prim.Native.Nat.{◌≤◌, suc, ℕ}
use mathlib.Core.List.{List, [], ◌∷◌}
use mathlib.Core.Path.{◌≡◌, refl}
use Rattle.base.proofs.Tests.{bool_cases}
use Rattle.blocks.specs.Entries.{is_named}
use Rattle.blocks.specs.declared.Entry.{Entry}
use Rattle.names.proofs.Dictionary.ByAllValues.{ByGiven, Given, given-name, in-turn-all}
use Rattle.names.specs.Measures.{levels_by, levels_from, levels_nth, size_by, size_nth}
use Rattle.names.specs.Promise.{Each, LegalNamed}
use Rattle.names.specs.Unfold.{described, noted}

-- sizes that agree on the names that are given count such entries alike
pub size-given : ByGiven size_by
unfolding size_by
size-given S T k same [] g = refl
size-given S T k same (e ∷ es) g =
    bool_cases (is_named e)
    (λ q. rw (q, same e.name (given-name k e g.0 q), size-given S T k same es g.1))
    (λ q. rw (q, size-given S T k same es g.1))

-- and so do levels
pub levels-given : (L M : ℕ → ℕ) (k : ℕ) → ((n : ℕ) → n ≤ k → L n ≡ M n) → (δ : ℕ → ℕ) (i : ℕ) (es : List Entry) → Given k es
    → levels_from L δ i es ≡ levels_from M δ i es
unfolding levels_from
levels-given L M k same δ i [] g = refl
levels-given L M k same δ i (e ∷ es) g =
    let ih = levels-given L M k same (noted δ i (suc (δ e.owner))) (suc i) es g.1 in
    bool_cases (is_named e)
    (λ q. rw (q, same e.name (given-name k e g.0 q), ih))
    (λ q. rw (q, ih))

pub size-described : (K : List (List Entry)) → Each LegalNamed K → (n : ℕ) → size_nth K n ≡ size_by (size_nth K) (described K n)
unfolding size_nth size_by
size-described K each = in-turn-all size_by size-given 0 refl K each

pub levels-described : (K : List (List Entry)) → Each LegalNamed K → (n : ℕ) → levels_nth K n ≡ levels_by (levels_nth K) (described K n)
unfolding levels_nth levels_from
levels-described K each = in-turn-all levels_by (λ L M k same d g. levels-given L M k same (λ j. 0) 1 d g) 0 refl K each
