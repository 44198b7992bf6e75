-- The number of entries of an unfolded description.
-- Assumes nothing.
use Prim.Native.Nat.{◌+◌, suc, ℕ}
use lib.ListN.{length, length-append, length-map}
use mathlib.Core.List.{List, [], ◌∷◌, map}
use mathlib.Core.Path.{◌∙◌, ◌≡◌, ap, fun_ext, refl}
use native.Mathlib.Omega.{arith}
use Rattle.base.proofs.Tests.{bool_cases}
use Rattle.blocks.specs.Entries.{is_named}
use Rattle.blocks.specs.declared.Entry.{Entry}
use Rattle.names.proofs.Dictionary.InTurn.{each-any, in-turn}
use Rattle.names.specs.Measures.{size_by, size_named, size_nth}
use Rattle.names.specs.Unfold.{contents, noted, relocate, unfold_from, unfolded, unfolded_by}

-- unfolded by contents, it has their sizes in the places of the names
size-from : (T : ℕ → List Entry) (ν : ℕ → ℕ) (k m : ℕ) (es : List Entry) → length (unfold_from T ν k m es) ≡ size_by (λ n. length (T n)) es
unfolding unfold_from size_by
size-from T ν k m [] = refl
size-from T ν k m (e ∷ es) =
    bool_cases (is_named e)
    (λ q.
    let xs : List Entry = map (relocate m (ν e.owner)) (T e.name) in
    let ys : List Entry = unfold_from T ν (suc k) (m + length (T e.name)) es in
    let a = length-append xs ys in
    let b = length-map (T e.name) (relocate m (ν e.owner)) in
    let c = size-from T ν (suc k) (m + length (T e.name)) es in
    rw q (omega arith))
    (λ q. let c = size-from T (noted ν k (suc m)) (suc k) (suc m) es in rw q (omega arith))

pub unfold-size : (T : ℕ → List Entry) (es : List Entry) → length (unfolded T es) ≡ size_by (λ n. length (T n)) es
unfolding unfolded
unfold-size T es = size-from T (λ j. j) 1 0 es

-- the contents of a dictionary
pub contents-size : (K : List (List Entry)) (n : ℕ) → length (contents K n) ≡ size_nth K n
unfolding contents size_nth
contents-size K =
    in-turn (λ es s. length es ≡ s) (λ k d. Unit {0}) unfolded size_by
    (λ k T S d o h. unfold-size T d ∙ ap (λ (f : ℕ → ℕ). size_by f d) (fun_ext h)) 0 (λ n. []) (λ n. 0) K (each-any 0 K) (λ n. refl)

-- a description under a dictionary
pub named-size : (K : List (List Entry)) (es : List Entry) → length (unfolded_by K es) ≡ size_named K es
unfolding unfolded_by size_named
named-size K es = unfold-size (contents K) es ∙ ap (λ (f : ℕ → ℕ). size_by f es) (fun_ext (contents-size K))
