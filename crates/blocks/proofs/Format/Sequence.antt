-- Blocks one after the other: block i of the rows' encoding stands at byte 512 * i.
-- Assumes nothing.
use Rattle.std.proofs.Common.{◌≡◌, ℕ, zero, suc, ◌+◌, ◌*◌, ◌<◌, ◌≤◌, List, [], length, get_or, take, drop, sym, refl, ◌∙◌, mul-zero, zero-add, mul-suc, arith, length-take, get_or-drop, get_or-take, drop-drop}
use Rattle.base.proofs.Lists.{Holds, holds_as, listed, length-listed, get_d-listed}
use Rattle.blocks.proofs.Format.Blocks.{length-block}
use Rattle.blocks.proofs.Format.ByteRows.{Rows, rows_take, rows_drop, rows-listed, length-joined, row-held, rows-held}
use Rattle.blocks.proofs.Format.Lawful.{Lawful}
use Rattle.blocks.specs.Encoding.{joined, block_bytes, encode_from}
use Rattle.blocks.specs.Frame.{Frame}

-- the rows of block i
abbrev pub rows_in : Frame → List (List ℕ) → ℕ → List (List ℕ)
rows_in F rows i = take F.room (drop (F.room * i) rows)

-- block i
abbrev pub block_of : Frame → List (List ℕ) → ℕ → List ℕ
block_of F rows i = block_bytes F i (rows_in F rows i)

-- row j of block i
pub row_in : (F : Frame) (rows : List (List ℕ)) (i j : ℕ) → j < F.room → get_or (rows_in F rows i) j [] ≡ get_or rows (F.room * i + j) []
row_in F rows i j h = rw (get_or-take, get_or-drop)

-- the blocks from block i on are joined
encode-joined : (F : Frame) (rows : List (List ℕ)) (n i : ℕ)
    → encode_from F n i (drop (F.room * i) rows) ≡ joined (listed (block_of F rows) i n)
unfolding encode_from joined listed
encode-joined F rows zero i = refl
encode-joined F rows (suc n) i = rw (encode_from, drop-drop, ← mul-suc, encode-joined F rows n (suc i))

module _ (F : Frame) (L : Lawful F) {rows : List (List ℕ)} (wide : Rows F.width rows) where
  -- the rows of a block are of the same length, and fit it
  pub wide-in : (i : ℕ) → Rows F.width (rows_in F rows i)
  wide-in i = rows_take F.room (rows_drop (F.room * i) wide)

  pub fits_in_lem : (i : ℕ) → length (rows_in F rows i) ≤ F.room
  fits_in_lem i = simp length-take (omega arith)

  -- the encoding is the blocks, joined
  pub all-joined : (n : ℕ) → encode_from F n 0 rows ≡ joined (listed (block_of F rows) 0 n)
  all-joined n = rw mul-zero at (encode-joined F rows n 0)

  -- each of them has 512 bytes
  blocks-wide : (n : ℕ) → Rows 512 (listed (block_of F rows) 0 n)
  blocks-wide n = rows-listed (block_of F rows) (λ k. length-block F L k (wide-in k) (fits_in_lem k)) 0 n

  -- n blocks are 512 * n bytes
  pub length-blocks : (n : ℕ) → length (encode_from F n 0 rows) ≡ 512 * n
  length-blocks n = rw (all-joined n, length-joined (blocks-wide n), length-listed)

  -- block i is the one that stands at place i of their list
  pub block_listed : (n i : ℕ) → i < n → get_or (listed (block_of F rows) 0 n) i [] ≡ block_of F rows i
  block_listed n i h = get_d-listed (block_of F rows) 0 n [] i h ∙ rw zero-add

  -- block i stands at its place where the blocks stand
  pub block_within : (n : ℕ) {s : List ℕ} → Holds s 0 (encode_from F n 0 rows) → (i : ℕ) → i < n → Holds s (512 * i) (block_of F rows i)
  block_within n {s} h i b =
      let e = length-listed (block_of F rows) 0 n in
      holds_as (block_listed n i b) (zero-add (512 * i))
      (row-held (blocks-wide n) (rw (all-joined n) at h) i (omega arith))

  -- the blocks stand where each block stands at its place
  pub blocks-held : (n : ℕ) {s : List ℕ} → ((i : ℕ) → i < n → Holds s (512 * i) (block_of F rows i))
      → Holds s 0 (encode_from F n 0 rows)
  blocks-held n {s} h =
      let e = length-listed (block_of F rows) 0 n in
      rw (all-joined n)
      (rows-held (blocks-wide n)
      (λ j b. let c : j < n = omega arith in holds_as (sym (block_listed n j c)) (sym (zero-add (512 * j))) (h j c)))
