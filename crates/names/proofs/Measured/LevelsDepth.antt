-- The levels of a list, and the depths of its entries.
-- Assumes nothing.
use Prim.Native.Nat.{◌+◌, ◌<◌, ◌≤◌, suc, ℕ}
use lib.Dec.{eqb, ltb}
use lib.ListN.{length}
use mathlib.Core.Bool.{Bool, ◌&&◌, cond, false, true}
use mathlib.Core.List.{List, [], ◌∷◌}
use mathlib.Core.Path.{◌∙◌, ◌≡◌, ap, sym}
use native.Mathlib.Omega.{arith}
use Rattle.base.proofs.Tests.{and_left, eq-cases, eq-eqb, ltb-lt, ne_eqb, or_cases, tests}
use Rattle.blocks.proofs.Refusing.LevelLaws.{depth-top, depth-under}
use Rattle.blocks.specs.Entries.{is_named, nth}
use Rattle.blocks.specs.Owners.{depth_of, owner_of, owner_ok}
use Rattle.blocks.specs.declared.Entry.{Entry}
use Rattle.names.proofs.Entries.OwnersByNumber.{Stands, stands-first, stands-rest, stands-whole}
use Rattle.names.specs.Measures.{levels_from, levels_of, under}
use Rattle.names.specs.Promise.{OwnersOk}
use Rattle.names.specs.Unfold.{noted}

module _ (es : List Entry) (own : OwnersOk es) where
  -- owners stand earlier
  owner-before : (n : ℕ) → 1 ≤ n → n ≤ length es → owner_of es n < n
  unfolding owner_ok
  owner-before n lo hi =
      or_cases (eqb (owner_of es n) 0) (ltb (owner_of es n) n && eqb (nth es (owner_of es n)).kind 5) (own n lo hi)
      (λ q. omega tests)
      (λ q. ltb-lt (and_left (ltb (owner_of es n) n) (eqb (nth es (owner_of es n)).kind 5) q))

  -- the depth of what j owns
  abbrev below : ℕ → ℕ
  below j = cond (eqb j 0) 0 (suc (depth_of es j))

  depth_below : (n : ℕ) → 1 ≤ n → n ≤ length es → depth_of es n ≡ below (owner_of es n)
  depth_below n lo hi =
      eq-cases (owner_of es n) 0
      (λ z. rw (eq-eqb z) (depth-top es n z))
      (λ z. rw (ne_eqb z) (depth-under es n (λ k a b. owner-before k a (omega arith)) (owner-before n lo hi) z))

  -- an entry has one level more than its depth
  level-here : (b : Bool) (d : ℕ) → under d (cond b 1 1) ≡ suc d
  level-here true d = omega arith
  level-here false d = omega arith

  module _ (δ : ℕ → ℕ) (k : ℕ) (e : Entry) (pos : 1 ≤ k) (few : k ≤ length es) (at : e ≡ nth es k) (same : (j : ℕ) → j < k → δ j ≡ below j) where
    depth-here : δ e.owner ≡ depth_of es k
    unfolding owner_of
    depth-here =
        ap (λ (x : Entry). δ x.owner) at ∙ same (nth es k).owner (owner-before k pos few) ∙ sym (depth_below k pos few)

    below_next : (j : ℕ) → j < suc k → noted δ k (suc (δ e.owner)) j ≡ below j
    below_next j l =
        eq-cases j k
        (λ q. let z : eqb k 0 ≡ false = omega tests in rw (eq-eqb q, q, z, depth-here))
        (λ q. rw (ne_eqb q) (same j (omega arith)))

  levels-to : (b : ℕ) (δ : ℕ → ℕ) (k : ℕ) (rest : List Entry) → 1 ≤ k → k + length rest ≡ suc (length es) → Stands es k rest
      → ((j : ℕ) → j < k → δ j ≡ below j) → levels_from (λ n. 1) δ k rest ≤ b → (n : ℕ) → k ≤ n → n ≤ length es → depth_of es n < b
  unfolding levels_from
  levels-to b δ k [] pos size s same h n lo hi = absurd (omega arith)
  levels-to b δ k (e ∷ rest) pos size s same h n lo hi =
      let at : e ≡ nth es k = stands-first es k e rest s in
      let few : k ≤ length es = omega arith in
      let here = depth-here δ k e pos few at same in
      let one = level-here (is_named e) (δ e.owner) in
      eq-cases n k
      (λ q. rw q (omega arith))
      (λ q. levels-to b (noted δ k (suc (δ e.owner))) (suc k) rest (omega arith) (omega arith) (stands-rest es k e rest s)
      (below_next δ k e pos few at same) (omega arith) n (omega arith) hi)

  levels-of : (b : ℕ) (δ : ℕ → ℕ) (k : ℕ) (rest : List Entry) → 1 ≤ k → k + length rest ≡ suc (length es) → Stands es k rest
      → ((j : ℕ) → j < k → δ j ≡ below j) → ((n : ℕ) → 1 ≤ n → n ≤ length es → depth_of es n < b) → levels_from (λ n. 1) δ k rest ≤ b
  unfolding levels_from
  levels-of b δ k [] pos size s same h = omega arith
  levels-of b δ k (e ∷ rest) pos size s same h =
      let at : e ≡ nth es k = stands-first es k e rest s in
      let few : k ≤ length es = omega arith in
      let here = depth-here δ k e pos few at same in
      let one = level-here (is_named e) (δ e.owner) in
      let deep = h k pos few in
      let ih = levels-of b (noted δ k (suc (δ e.owner))) (suc k) rest (omega arith) (omega arith) (stands-rest es k e rest s)
      (below_next δ k e pos few at same) h in
      omega arith

  -- each entry is less deep than there are levels
  pub depth-within : (b : ℕ) → levels_of es ≤ b → (n : ℕ) → 1 ≤ n → n ≤ length es → depth_of es n < b
  depth-within b = levels-to b (λ j. 0) 1 es (omega arith) (omega arith) (stands-whole es) (λ j l. let z : eqb j 0 ≡ true = omega tests in rw z)

  -- and there are no more than that asks for
  pub levels-within : (b : ℕ) → ((n : ℕ) → 1 ≤ n → n ≤ length es → depth_of es n < b) → levels_of es ≤ b
  levels-within b = levels-of b (λ j. 0) 1 es (omega arith) (omega arith) (stands-whole es) (λ j l. let z : eqb j 0 ≡ true = omega tests in rw z)
