-- The contents of a description are the description as it stands, unfolded by all contents.
-- Assumes nothing.
use Prim.Native.Nat.{◌+◌, ◌≤◌, suc, ℕ}
use lib.ListN.{length}
use mathlib.Core.List.{List, [], ◌∷◌}
use mathlib.Core.Path.{◌≡◌, refl}
use native.Mathlib.Omega.{arith}
use Rattle.base.proofs.Tests.{bool_cases}
use Rattle.blocks.specs.Entries.{is_named}
use Rattle.blocks.specs.declared.Entry.{Entry}
use Rattle.names.proofs.Dictionary.ByAllValues.{Given, given-name, in-turn-all}
use Rattle.names.proofs.Dictionary.InTurn.{in-turn}
use Rattle.names.specs.Promise.{Each, FormsOk, LegalNamed, OwnersOk}
use Rattle.names.specs.Unfold.{contents, described, noted, unfold_from, unfolded, unfolded_by}

-- contents that agree up to k unfold such entries alike
pub given-same : (S T : ℕ → List Entry) (k : ℕ) → ((n : ℕ) → n ≤ k → S n ≡ T n) → (ν : ℕ → ℕ) (i m : ℕ) (es : List Entry) → Given k es
    → unfold_from S ν i m es ≡ unfold_from T ν i m es
unfolding unfold_from
given-same S T k same ν i m [] h = refl
given-same S T k same ν i m (e ∷ es) h =
    bool_cases (is_named e)
    (λ q.
    let here : S e.name ≡ T e.name = same e.name (given-name k e h.0 q) in
    rw (q, here, given-same S T k same ν (suc i) (m + length (T e.name)) es h.1))
    (λ q. rw (q, given-same S T k same (noted ν i (suc m)) (suc i) (suc m) es h.1))

-- the contents of a description are the description, unfolded by all contents
pub contents-unfold : (K : List (List Entry)) → Each LegalNamed K → (n : ℕ) → contents K n ≡ unfolded_by K (described K n)
unfolding contents unfolded_by unfolded unfold_from
contents-unfold K each = in-turn-all unfolded (λ S T k agree d g. given-same S T k agree (λ j. j) 1 0 d g) [] refl K each

-- the forms and owners of each description as it stands are allowed
pub described-forms : (K : List (List Entry)) → Each LegalNamed K → (n : ℕ) → FormsOk (described K n)
unfolding described
described-forms K each =
    in-turn (λ (d d' : List Entry). FormsOk d) LegalNamed (λ made d. d) (λ made d. d) (λ k s t d N h. N.form) 0 (λ n. []) (λ n. []) K each
    (λ n i lo hi. absurd (omega arith))

pub described-owners : (K : List (List Entry)) → Each LegalNamed K → (n : ℕ) → OwnersOk (described K n)
unfolding described
described-owners K each =
    in-turn (λ (d d' : List Entry). OwnersOk d) LegalNamed (λ made d. d) (λ made d. d) (λ k s t d N h. N.owner) 0 (λ n. []) (λ n. []) K each
    (λ n i lo hi. absurd (omega arith))
