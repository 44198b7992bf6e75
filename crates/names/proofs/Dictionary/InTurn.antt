-- What is made of the descriptions of a dictionary in turn.
-- Assumes nothing.
use Prim.Native.Nat.{◌+◌, suc, ℕ}
use lib.Dec.{eqb}
use lib.ListN.{length}
use mathlib.Core.List.{List, [], ◌++◌, ◌∷◌}
use mathlib.Core.Path.{◌∙◌, ◌≡◌}
use native.Mathlib.Nat.{add-zero}
use native.Mathlib.Omega.{arith}
use Rattle.base.proofs.Tests.{bool_cases}
use Rattle.blocks.specs.declared.Entry.{Entry}
use Rattle.names.specs.Promise.{EachAfter}
use Rattle.names.specs.Unfold.{in_turn, noted}

module _ {A B : Type 0} (R : A → B → Type 0) where
  -- a value more in two tables that agree
  noted-both : (s : ℕ → A) (t : ℕ → B) (k : ℕ) (x : A) (y : B) → ((n : ℕ) → R (s n) (t n)) → R x y → (n : ℕ) → R (noted s k x n) (noted t k y n)
  noted-both s t k x y h r n = bool_cases (eqb n k) (λ q. rw q r) (λ q. rw q (h n))

  -- two ways of making values agree if they do so on each description, wherever they agree on what was made before
  pub in-turn : (P : ℕ → List Entry → Type 0) (f : (ℕ → A) → List Entry → A) (g : (ℕ → B) → List Entry → B)
      → ((k : ℕ) (s : ℕ → A) (t : ℕ → B) (d : List Entry) → P k d → ((n : ℕ) → R (s n) (t n)) → R (f s d) (g t d))
      → (k : ℕ) (s : ℕ → A) (t : ℕ → B) (K : List (List Entry)) → EachAfter P k K → ((n : ℕ) → R (s n) (t n))
      → (n : ℕ) → R (in_turn f s (suc k) K n) (in_turn g t (suc k) K n)
  unfolding in_turn
  in-turn P f g step k s t [] e h = h
  in-turn P f g step k s t (d ∷ ds) e h =
      in-turn P f g step (suc k) (noted s (suc k) (f s d)) (noted t (suc k) (g t d)) ds e.1
      (noted-both s t (suc k) (f s d) (g t d) h (step k s t d e.0 h))

-- where nothing is asked of the descriptions
pub each-any : (k : ℕ) (K : List (List Entry)) → EachAfter (λ k d. Unit {0}) k K
each-any k [] = tt
each-any k (d ∷ K) = (tt, each-any (suc k) K)

-- one description more, behind the others: what is made of it is noted
pub in-turn-more : {A : Type 0} (f : (ℕ → A) → List Entry → A) (made : ℕ → A) (k : ℕ) (K : List (List Entry)) (d : List Entry)
    → in_turn f made k (K ++ (d ∷ [])) ≡ noted (in_turn f made k K) (k + length K) (f (in_turn f made k K) d)
unfolding in_turn
in-turn-more f made k [] d = rw add-zero
in-turn-more f made k (c ∷ K) d =
    let z : k + suc (length K) ≡ suc k + length K = omega arith in
    in-turn-more f (noted made k (f made c)) (suc k) K d ∙ rw z

-- and each is as P says if it is
pub each_more : (P : ℕ → List Entry → Type 0) (k : ℕ) (K : List (List Entry)) (d : List Entry) → EachAfter P k K → P (k + length K) d
    → EachAfter P k (K ++ (d ∷ []))
each_more P k [] d h p = let z : k + 0 ≡ k = add-zero k in (rw z at p, tt)
each_more P k (c ∷ K) d h p =
    let z : k + suc (length K) ≡ suc k + length K = omega arith in
    (h.0, each_more P (suc k) K d h.1 (rw z at p))
