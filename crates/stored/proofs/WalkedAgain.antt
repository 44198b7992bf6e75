-- Depths that fit are those of a tree in walking order: so what is read from them is written as the same entries again.
-- Assumes nothing.
use Rattle.std.proofs.Common.{◌≡◌, ℕ, zero, suc, ◌<◌, ◌≤◌, List, [], ◌∷◌, ◌++◌, append_assoc, length, length-append, refl, ap, ◌∙◌, arith}
use Rattle.base.proofs.Tests.{eq-cases}
use Rattle.logic.specs.Tree.{Tree, end, leaf, node, tree}
use Rattle.stored.proofs.ReadWalked.{append-none, read-walked, rows_by}
use Rattle.stored.specs.Walked.{Mark, leaf_at, node_at, walked}

module _ {A B : Type 0} where
  -- Depths that fit: none is above m, which is the depth of the entry before, or one more where that is an 'every'.
  unfoldable pub Fitting : ℕ → List (Mark A B) → Type 0
  Fitting m [] = Unit {0}
  Fitting m (leaf_at d a ∷ xs) = (d ≤ m) × Fitting d xs
  Fitting m (node_at d b ∷ xs) = (d ≤ m) × Fitting (suc d) xs

  abbrev depth_at : Mark A B → ℕ
  depth_at (leaf_at d a) = d
  depth_at (node_at d b) = d

  -- what is left after a tree at depth d: nothing, or an entry above it, and depths that fit
  abbrev Left : ℕ → List (Mark A B) → Type 0
  Left d [] = Unit {0}
  Left d (x ∷ xs) = (depth_at x < d) × Fitting (depth_at x) (x ∷ xs)

  record Parsed (d : ℕ) (xs : List (Mark A B)) : Type 0 where
    whole : Tree A B
    rest : List (Mark A B)
    same : xs ≡ walked d whole ++ rest
    left : Left d rest

  fitting-left : (d : ℕ) (xs : List (Mark A B)) → Left (suc d) xs → Fitting d xs
  unfolding Fitting
  fitting-left d [] l = tt
  fitting-left d (leaf_at e a ∷ xs) l = (omega (arith, l.0), l.1.1)
  fitting-left d (node_at e b ∷ xs) l = (omega (arith, l.0), l.1.1)

  parse : (n d : ℕ) (xs : List (Mark A B)) → length xs ≤ n → Fitting d xs → Parsed d xs
  unfolding Fitting walked
  parse n d [] h f = record { whole = end; rest = []; same = refl; left = tt }
  parse zero d (x ∷ xs) h f = absurd (omega arith)
  parse (suc n) d (leaf_at e a ∷ xs) h f =
      eq-cases e d
      (λ z.
      let p = parse n d xs (omega arith) (rw z at f.1) in
      record { whole = leaf a p.whole; rest = p.rest; same = rw (z, ← p.same); left = p.left })
      (λ z. record { whole = end; rest = leaf_at e a ∷ xs; same = refl; left = (let l = f.0 in omega arith, (omega arith, f.1)) })
  parse (suc n) d (node_at e b ∷ xs) h f =
      eq-cases e d
      (λ z.
      let p = parse n (suc d) xs (omega arith) (rw z at f.1) in
      let l : length p.rest ≤ n = let a = ap length p.same in let b = length-append (walked (suc d) p.whole) p.rest in omega arith in
      let q = parse n d p.rest l (fitting-left d p.rest p.left) in
      record {
        whole = node b p.whole q.whole;
        rest = q.rest;
        same = ap (λ (ys : List (Mark A B)). node_at e b ∷ ys) (p.same ∙ ap (λ (ys : List (Mark A B)). walked (suc d) p.whole ++ ys) q.same) ∙ rw z (rw append_assoc);
        left = q.left;
      })
      (λ z. record { whole = end; rest = node_at e b ∷ xs; same = refl; left = (let l = f.0 in omega arith, (omega arith, f.1)) })

  none-left : (xs : List (Mark A B)) → Left 0 xs → xs ≡ []
  none-left [] l = refl
  none-left (x ∷ xs) l = absurd (omega (arith, l.0))

  -- what is read is written as it was
  pub walked-again : (xs : List (Mark A B)) → Fitting 0 xs → walked 0 (tree 1 (rows_by 1 (λ j. 0) xs) 0) ≡ xs
  walked-again xs f =
      let p = parse (length xs) 0 xs (omega arith) f in
      let e : xs ≡ walked 0 p.whole = p.same ∙ rw (none-left p.rest p.left) (append-none (walked 0 p.whole)) in
      rw (e) (ap (walked 0) (read-walked p.whole))
