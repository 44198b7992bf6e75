-- The index of the entries of an input, as the code keeps it: of a description by owner, of a specimen by owner, kind and name. No public
-- promise names it.
-- Assumes nothing.
use Rattle.std.specs.Prelude.{MatchOption, Option, ◌≢◌, ◌≡◌, Bool, ◌&&◌, ◌||◌, cond, not, List, ℕ, ◌+◌, ◌*◌, ◌≤◌, ◌<◌, ◌-◌, eqb, length, get_or, set}
use Rattle.std.specs.Int.Bits.{bit_and}
use Rattle.base.specs.Chain.{Chains}
use Rattle.blocks.specs.declared.Entry.{Entry}
use Rattle.blocks.specs.declared.Schema.{Schema}
use Rattle.blocks.specs.declared.Schema.TheVariants.{Description, Named, Specimen}
use Rattle.blocks.specs.Entries.{entries_of, nth}
use Rattle.blocks.specs.Owners.{owner_of}
use Rattle.blocks.specs.code.Blockwise.{Whole}
use Rattle.fit.specs.code.Bare.{bare}
use Rattle.meaning.specs.Owned.{all_where}

-- entry k is there, with its bytes
pub record Has (s : List ℕ) (k : ℕ) : Type 0 where
  pub some : 1 ≤ k
  pub within : k ≤ length (entries_of s)
  pub few : length (entries_of s) < 2048
  pub whole : Whole s (length (entries_of s))

-- an entry of this owner, kind and name
abbrev pub is_of : Entry → ℕ → ℕ → ℕ → Bool
is_of e g kind name = eqb e.owner g && (eqb e.kind kind && eqb e.name name)

-- the bucket, of `most`, of an owner, a kind and a name: where `most` is a power of two, different owners below it have different buckets for one kind
-- and name
unfoldable pub hash_of : ℕ → ℕ → ℕ → ℕ → ℕ
hash_of most o k n = bit_and (o + (31 * n + k)) (most - 1)

-- the bucket of an entry with this owner, kind and name: in a description its owner alone
abbrev pub bucket_by : Schema → ℕ → ℕ → ℕ → ℕ → ℕ
bucket_by Description most o k n = o
bucket_by (Named names) most o k n = o
bucket_by Specimen most o k n = hash_of most o k n

-- the kind by which an entry is found: groups that own nothing stand apart from the others, as if of kind 8
unfoldable pub code_of : ℕ → Bool → ℕ
code_of kind nothing = cond (eqb kind 7 && nothing) 8 kind

-- the bucket of entry k
abbrev pub bucket_of : Schema → ℕ → List Entry → ℕ → ℕ
bucket_of σ most es k = bucket_by σ most (owner_of es k) (code_of (nth es k).kind (bare es k)) (nth es k).name

-- each of the entries stands after its owner
pub record Ordered (es : List Entry) : Type 0 where
  pub earlier : (k : ℕ) → 1 ≤ k → k ≤ length es → owner_of es k < k

-- Chains of the numbers 1 to n, fewer than `most`: at b the last number of bucket b, and at `most` + k the one of the same bucket before
-- number k.
pub record Indexed (most : ℕ) (c : ℕ → ℕ) (t : List ℕ) (n : ℕ) : Type 0 where
  pub sized : most ≤ 2048
  pub below : n < most
  pub size : length t ≡ most + most
  pub chains : Chains c (λ k. get_or t (most + k) 0) (λ b. get_or t b 0) most n

-- from number k back: the numbers before it are in the table, and each is below the one after it
pub record Falls (most : ℕ) (t : List ℕ) (k : ℕ) : Type 0 where
  pub room : most + k < length t
  pub lower : (j : ℕ) → 1 ≤ j → j ≤ k → get_or t (most + j) 0 < j

-- a step of a chain: it comes to the number that is next, if there is one, and goes on to the one before it
abbrev pub StepsBack : List ℕ → ℕ → ℕ → Option ℕ → List ℕ → ℕ → ℕ → Type 0
StepsBack t most k found t' most' k' = MatchOption found (k ≡ 0) (λ i. (i ≡ k) × (i ≢ 0) × (k' ≡ get_or t (most + k) 0)) × (t' ≡ t) × (most' ≡ most)

-- number n put in front of the chain of bucket b
unfoldable pub chained : List ℕ → ℕ → ℕ → ℕ → List ℕ
chained t most n b = set (set t (most + n) (get_or t b 0)) b n

-- an input with the bytes of all its entries, and its index
pub record Ready (σ : Schema) (most : ℕ) (s : List ℕ) (t : List ℕ) : Type 0 where
  pub whole : Whole s (length (entries_of s))
  pub index : Indexed most (bucket_of σ most (entries_of s)) t (length (entries_of s))

-- entry k is not of this owner, kind and name
abbrev pub not_of : List Entry → ℕ → ℕ → ℕ → ℕ → Bool
not_of es g kind name k = not (eqb (owner_of es k) g) || not (eqb (nth es k).kind kind && eqb (nth es k).name name)

-- an entry of bucket b is
unfoldable pub any_of : ℕ → List Entry → ℕ → ℕ → ℕ → ℕ → Bool
any_of most es b g kind name = not (all_where (bucket_of Specimen most es) (not_of es g kind name) b (length es))
