-- Laws of gathering tags along a chain.
-- Assumes nothing.
use Rattle.std.specs.List.{All}
use Rattle.std.proofs.lemmas.List.Elements.{All-tail}
use Prim.Native.Nat.{◌+◌, ◌<◌, ◌≤◌, ℕ}
use lib.ListN.{get_or, length, length-append, length-set, set}
use mathlib.Core.List.{List, [], ◌++◌, ◌∷◌}
use mathlib.Core.Path.{◌∙◌, ◌≡◌, ap, refl}
use native.Mathlib.Nat.{add-zero}
use native.Mathlib.Omega.{arith}
use Rattle.base.proofs.StoresLaws.{stored-none, stored_one, stored-then}
use Rattle.base.proofs.Tests.{gt-leb, le-leb}
use Rattle.base.specs.Stores.{stored}
use Rattle.runs.proofs.AlongChains.{chain-inside, length-chain}
use Rattle.runs.specs.code.Walked.{Starting, TagPushed, chain_from, chain_start, gathered, tag_if, tags_along}
use Rattle.slots.specs.code.Tables.{low_part}
use Rattle.runs.specs.code.Tagged.{tag_of}

-- ---- one slot

module _ (low x s : ℕ) (order : List ℕ) (n : ℕ) {k : ℕ} (e : k ≡ low_part x) where
  pub push-none : k < low → TagPushed low x s order n order n
  unfolding tag_if
  push-none h =
      let q : tag_if low x s ≡ [] = rw (← e, gt-leb h) in
      record { many = rw (q, add-zero); stores = rw q (stored-none order n); most = omega arith; size = refl }

  pub push-one : low ≤ k → {y : ℕ} → y ≡ tag_of x s → TagPushed low x s order n (set order n y) (n + 1)
  unfolding tag_if
  push-one h {y} f =
      let q : tag_if low x s ≡ y ∷ [] = rw (← e, le-leb h, ← f) in
      record { many = rw q; stores = rw q (stored_one order n y); most = omega arith; size = length-set order n y }

-- ---- the walk

-- The walk has these slots left: n tags stand in `order`, which was `origin`, and those of the slots left make up the whole; there is room for one
-- of each, and no slot is past the end of the table.
pub record Gathering (t : List ℕ) (low : ℕ) (whole origin order left : List ℕ) (n : ℕ) : Type 0 where
  pub many : n + length (tags_along t low left) ≡ length whole
  pub stores : stored order n (tags_along t low left) ≡ stored origin 0 whole
  pub size : length order ≡ length origin
  pub room : n + length left ≤ length origin
  pub in_table : All (λ k. k < length t) left

-- nothing is gathered where there might not be room
pub gather_none : (t last before : List ℕ) (r low : ℕ) (order : List ℕ) {s : ℕ} → s ≡ chain_start t last before r → length order < s
    → (0 ≡ length (gathered t last before r low (length order))) × (order ≡ stored order 0 (gathered t last before r low (length order)))
unfolding gathered
gather_none t last before r low order e h =
    let q : gathered t last before r low (length order) ≡ [] = rw (← e, gt-leb h) in
    (rw q, rw q (stored-none order 0))

pub gather-starts : (t last before : List ℕ) (r low : ℕ) (order : List ℕ) {s : ℕ} → Starting t last before r s → s ≤ length order
    → Gathering t low (gathered t last before r low (length order)) order order (chain_from before s) 0
unfolding gathered
gather-starts t last before r low order {s} S fits =
    let whole : gathered t last before r low (length order) ≡ tags_along t low (chain_from before s) = rw (← S.is, le-leb fits) in
    record {
      many = rw whole (omega arith);
      stores = rw whole;
      size = refl;
      room = omega (arith, length-chain before s);
      in_table = chain-inside before s (length t) S.in_table;
    }

module _ {t : List ℕ} {low : ℕ} {whole origin order left : List ℕ} {n : ℕ} (G : Gathering t low whole origin order left n) where
  -- the next slot is s
  module _ {s : ℕ} {left' : List ℕ} (next : left ≡ s ∷ left') where
    pub gather-goes : {x m : ℕ} {order' : List ℕ} → x ≡ get_or t s 0 → TagPushed low x s order n order' m → Gathering t low whole origin order' left' m
    unfolding tags_along
    gather-goes {x} {m} {order'} is P =
        let tags : tags_along t low left ≡ tag_if low x s ++ tags_along t low left' = rw (next, is) in
        let sum : length (tags_along t low left) ≡ length (tag_if low x s) + length (tags_along t low left') = ap length tags ∙ length-append (tag_if low x s) (tags_along t low left') in
        let r = rw next at G.room in
        record {
          many = omega (arith, G.many, P.many);
          stores = stored-then order (tag_if low x s) (tags_along t low left') n m P.stores refl P.many ∙ rw (← tags) G.stores;
          size = P.size ∙ G.size;
          room = omega (arith, P.most);
          in_table = All-tail (λ k. k < length t) s left' (rw next at G.in_table);
        }

  -- none is left
  pub gather-ends : left ≡ [] → (n ≡ length whole) × (order ≡ stored origin 0 whole)
  unfolding tags_along
  gather-ends e =
      let zero' : length (tags_along t low left) ≡ 0 = rw e in
      (omega (arith, G.many), stored-none order n ∙ rw e at G.stores)
