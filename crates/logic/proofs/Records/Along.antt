-- Passing along a path of links.
-- Assumes nothing.
use Prim.Native.Nat.{ℕ}
use mathlib.Core.Bool.{Bool, ◌||◌, not, true}
use mathlib.Core.List.{List, [], ◌++◌, ◌∷◌}
use mathlib.Core.Path.{◌≡◌, ap, refl}
use Rattle.base.proofs.Tests.{bool_cases}
use Rattle.logic.proofs.Records.Counting.{every-at, every-ext, every_of}
use Rattle.logic.specs.Record.{Record, along}

module _ (c : Record) where
  -- what follows from tests at an item holds along a path if the tests do
  pub along-follows : {I : Type 0} (p : I → ℕ → Bool) (q : ℕ → Bool) → ((y : ℕ) → ((i : I) → p i y ≡ true) → q y ≡ true)
      → (w : List ℕ) (x : ℕ) → ((i : I) → along c w x (p i) ≡ true) → along c w x q ≡ true
  unfolding along
  along-follows p q f [] x h = f x h
  along-follows p q f (l ∷ w) x h =
      every_of (λ y. not (c.link l x y) || along c w y q) c.size
      (λ y b. bool_cases (c.link l x y)
      (λ z. rw z (along-follows p q f w y (λ i. rw z at (every-at (λ u. not (c.link l x u) || along c w u (p i)) c.size (h i) y b))))
      (λ z. rw z))

  -- one path after another
  pub along-append : (v w : List ℕ) (x : ℕ) (p : ℕ → Bool) → along c (v ++ w) x p ≡ along c v x (λ y. along c w y p)
  unfolding along
  along-append [] w x p = refl
  along-append (l ∷ v) w x p =
      every-ext _ _ c.size (λ y h. ap (λ (b : Bool). not (c.link l x y) || b) (along-append v w y p))
