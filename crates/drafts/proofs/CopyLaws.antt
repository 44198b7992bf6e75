-- Bytes after a copy within a memory, and after a store.
-- Assumes nothing.
use Rattle.std.proofs.Common.{◌≡◌, ℕ, suc, ◌+◌, ◌-◌, ◌≤◌, ◌<◌, List, [], ◌∷◌, ◌++◌, append_assoc, take, drop, length, length-drop, get_or, get_or-set_other, set, refl, ◌∙◌, ap, arith}
use lib.ListN.{get_or-append}
use lib.Seq.{get_or-append-add, length-take-le}
use Rattle.std.proofs.lemmas.List.{get_or-drop, get_or-take}
use Rattle.std.specs.List.{copy_within}
use Rattle.std.proofs.lemmas.List.Edits.{length-paste}
use Rattle.base.specs.Stores.{stored}

module _ (m : List ℕ) (from to at : ℕ) (a : from ≤ to) (b : to ≤ length m) (c : at + (to - from) ≤ length m) where
  front : length (take at m) ≡ at
  front = length-take-le at m (omega arith)

  middle : length (take (to - from) (drop from m)) ≡ to - from
  middle = length-take-le (to - from) (drop from m) (omega (arith, length-drop from m))

  -- the copy, as three lists
  parts : copy_within m from to at ≡ take at m ++ (take (to - from) (drop from m) ++ drop (at + (to - from)) m)
  parts = append_assoc (take at m) (take (to - from) (drop from m)) (drop (at + (to - from)) m)

  pub copied : (k : ℕ) → at ≤ k → k < at + (to - from) → get_or (copy_within m from to at) k 0 ≡ get_or m (from + (k - at)) 0
  copied k g h =
      let e : k ≡ length (take at m) + (k - at) = omega (arith, front) in
      ap (λ (l : List ℕ). get_or l k 0) parts
      ∙ ap (λ (i : ℕ). get_or (take at m ++ (take (to - from) (drop from m) ++ drop (at + (to - from)) m)) i 0) e
      ∙ get_or-append-add (take at m) (take (to - from) (drop from m) ++ drop (at + (to - from)) m) (k - at) 0
      ∙ get_or-append (take (to - from) (drop from m)) (drop (at + (to - from)) m) 0 (k - at) (omega (arith, middle))
      ∙ get_or-take (to - from) (drop from m) (k - at) 0 (omega arith)
      ∙ get_or-drop from m (k - at) 0

  pub copied-before : (k : ℕ) → k < at → get_or (copy_within m from to at) k 0 ≡ get_or m k 0
  copied-before k h =
      ap (λ (l : List ℕ). get_or l k 0) parts
      ∙ get_or-append (take at m) (take (to - from) (drop from m) ++ drop (at + (to - from)) m) 0 k (omega (arith, front))
      ∙ get_or-take at m k 0 h

  pub copied-behind : (k : ℕ) → at + (to - from) ≤ k → get_or (copy_within m from to at) k 0 ≡ get_or m k 0
  copied-behind k h =
      let e : k ≡ length (take at m) + (k - at) = omega (arith, front) in
      let f : k - at ≡ length (take (to - from) (drop from m)) + (k - at - (to - from)) = omega (arith, middle) in
      ap (λ (l : List ℕ). get_or l k 0) parts
      ∙ ap (λ (i : ℕ). get_or (take at m ++ (take (to - from) (drop from m) ++ drop (at + (to - from)) m)) i 0) e
      ∙ get_or-append-add (take at m) (take (to - from) (drop from m) ++ drop (at + (to - from)) m) (k - at) 0
      ∙ ap (λ (i : ℕ). get_or (take (to - from) (drop from m) ++ drop (at + (to - from)) m) i 0) f
      ∙ get_or-append-add (take (to - from) (drop from m)) (drop (at + (to - from)) m) (k - at - (to - from)) 0
      ∙ get_or-drop (at + (to - from)) m (k - at - (to - from)) 0
      ∙ ap (λ (i : ℕ). get_or m i 0) (omega arith)

pub stored-behind : (l xs : List ℕ) (at i : ℕ) → at + length xs ≤ i → get_or (stored l at xs) i 0 ≡ get_or l i 0
unfolding stored
stored-behind l [] at i h = refl
stored-behind l (x ∷ xs) at i h = stored-behind (set l at x) xs (suc at) i (omega arith) ∙ get_or-set_other l at i x 0 (omega arith)

pub length-copied : (m : List ℕ) (from to at : ℕ) → from ≤ to → to ≤ length m → at + (to - from) ≤ length m → length (copy_within m from to at) ≡ length m
length-copied m from to at a b c = length-paste m at (drop from m) (to - from) c (omega (arith, length-drop from m))
