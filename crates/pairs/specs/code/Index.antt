-- The properties that a list names, each beside the other of its pair, and the index by which a property's places in the list are found.
-- No public promise names these.
-- Assumes nothing.
use Rattle.std.specs.Prelude.{◌%◌, ◌*◌, ◌+◌, ◌-◌, ◌≤◌, suc, zero, ℕ, eqb, get_or, set, Bool, ◌&&◌, ◌||◌, cond, false, List, [], ◌∷◌}
use Rattle.base.specs.Chain.{Chains}
use Rattle.blocks.specs.Words.{word_at}
use Rattle.pairs.specs.Pairs.{pair_count}

-- ---- the properties by number

-- how many properties the whole pairs of a list name, two for each
abbrev pub named_count : List ℕ → ℕ
named_count P = 2 * pair_count P

-- property k of a list, counted from 1
unfoldable pub named_at : List ℕ → ℕ → ℕ
named_at P k = word_at P (2 * (k - 1))

-- the number of the other one of its pair, and that property
abbrev pub number_beside : ℕ → ℕ
number_beside k = cond (eqb (k % 2) 1) (k + 1) (k - 1)

unfoldable pub beside_at : List ℕ → ℕ → ℕ
beside_at P k = named_at P (number_beside k)

-- one of the first k is p and stands beside one that `has` holds of
unfoldable pub partnered : List ℕ → (ℕ → Bool) → ℕ → ℕ → Bool
partnered P has p zero = false
partnered P has p (suc k) = (eqb (named_at P (suc k)) p && has (beside_at P (suc k))) || partnered P has p k

-- what the list names beside p under the numbers up to k, that of the highest number first
unfoldable pub partners : List ℕ → ℕ → ℕ → List ℕ
partners P p zero = []
partners P p (suc k) = cond (eqb (named_at P (suc k)) p) (beside_at P (suc k) ∷ partners P p k) (partners P p k)

-- ---- the index

-- the bucket of a property
abbrev pub bucket_of : ℕ → ℕ
bucket_of p = p % 256

-- The index of a list: at b the last number of bucket b, and at 256 + k the one before number k in its bucket.
pub record PairsIndexed (P t : List ℕ) : Type 0 where
  pub few : pair_count P ≤ 64
  pub chains : Chains (λ k. bucket_of (named_at P k)) (λ k. get_or t (256 + k) 0) (λ b. get_or t b 0) 256 (named_count P)

-- number k put in front of its chain
unfoldable pub noted : List ℕ → List ℕ → ℕ → List ℕ
noted P t k = set (set t (256 + k) (get_or t (bucket_of (named_at P k)) 0)) (bucket_of (named_at P k)) k

-- the first k of them
unfoldable pub indexed_to : List ℕ → List ℕ → ℕ → List ℕ
indexed_to P t zero = t
indexed_to P t (suc k) = noted P (indexed_to P t k) (suc k)
