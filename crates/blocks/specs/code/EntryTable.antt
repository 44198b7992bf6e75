-- A table of the entries met that count, found by owner and name. No public promise names it.
-- Assumes nothing.
use Rattle.std.specs.Prelude.{◌≡◌, ℕ, ◌+◌, ◌*◌, ◌%◌, ◌<◌, ◌≤◌, Bool, cond, ◌&&◌, List, length, ◌==◌, slice_index, slice_set}
use Rattle.base.specs.Chain.{Chains}
use Rattle.blocks.specs.Entries.{nth}
use Rattle.blocks.specs.Owners.{owner_of}
use Rattle.blocks.specs.declared.Entry.{Entry}

-- an entry has this owner and this name
abbrev pub owned_as : ℕ → ℕ → Entry → Bool
owned_as o l e = o == e.owner && l == e.name

-- the bucket, of `most`, of an owner and a name: of one name, owners below `most` have different buckets where `most` and 31 have no
-- common factor
unfoldable pub entry_hash : ℕ → ℕ → ℕ → ℕ
entry_hash most o l = (31 * o + l) % most

-- the bucket of entry k if it counts, else one of its own past the `most`
unfoldable pub entry_bucket : (Entry → Bool) → ℕ → List Entry → ℕ → ℕ
entry_bucket counts most es k = cond (counts (nth es k)) (entry_hash most (owner_of es k) (nth es k).name) (most + k)

-- A table of those that count among the first n entries, with room for each: at b the last one of bucket b, and at `most` + k the one of
-- the same bucket before entry k.
pub record Met (counts : Entry → Bool) (es : List Entry) (most : ℕ) (t : List ℕ) (n : ℕ) : Type 0 where
  pub few : most ≤ 2017
  pub below : n < most
  pub within : n ≤ length es
  pub size : length t ≡ most + most
  pub chains : Chains (entry_bucket counts most es) (λ k. slice_index t (most + k)) (λ b. slice_index t b) most n
  pub unmet : (k : ℕ) → n < k → slice_index t (most + k) ≡ 0

-- the table after entry n, which is e
unfoldable pub noted : (Entry → Bool) → ℕ → List ℕ → ℕ → Entry → List ℕ
noted counts most t n e =
    cond (counts e) (slice_set (slice_set t (most + n) (slice_index t (entry_hash most e.owner e.name))) (entry_hash most e.owner e.name) n) t
