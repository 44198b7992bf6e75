-- An encoding is made of bytes, and the fields of entries read from bytes fit theirs.
-- Assumes nothing.
use Rattle.std.proofs.Common.{ℕ, zero, suc, ◌+◌, ◌*◌, ◌<◌, ◌≤◌, List, [], ◌∷◌, ◌++◌, map, length, get_or, replicate, mul_comm, le-mul_of_pos_right, arith, length-drop, length-take}
use lib.ListN.{length-map}
use Rattle.base.proofs.Lists.{listed, length-listed, get_d-listed, get_d-map-in}
use Rattle.blocks.proofs.Format.Blocks.{spare}
use Rattle.blocks.proofs.Format.ByteRows.{Rows}
use Rattle.blocks.proofs.Format.EntryBytes.{rows-entries, entries-listed, length-entries}
use Rattle.blocks.proofs.Format.Lawful.{Lawful, plain-lawful}
use Rattle.blocks.proofs.Format.Sequence.{rows_in, block_of, row_in, all-joined, block_listed, fits_in_lem}
use Rattle.blocks.proofs.Format.WordBytes.{Bytes, second-small}
use Rattle.blocks.specs.Encoding.{joined, block_body, block_front, block_bytes, blocks_for, encode_rows, encode}
use Rattle.blocks.specs.Entries.{Bounded, entry_from, entry_bytes, entry_at, entries_of, zero_entry}
use Rattle.blocks.specs.Frame.{Frame, plain, total_in, entry_pos}
use Rattle.blocks.specs.Words.{check_of, second_of, word_at, word_bytes}
use Rattle.blocks.specs.declared.Entry.{Entry}

-- ---- lists of bytes

-- none, one more, two lists in a row, zeros, and the bytes of a word
bytes-none : Bytes []
bytes-none = record { small = λ k. omega arith }

bytes-cons : (x : ℕ) {xs : List ℕ} → x < 256 → Bytes xs → Bytes (x ∷ xs)
bytes-cons x {xs} h b = record { small = each }
  where
    each : (k : ℕ) → get_or (x ∷ xs) k 0 < 256
    each zero = h
    each (suc k) = b.small k

bytes-both : (xs ys : List ℕ) → Bytes xs → Bytes ys → Bytes (xs ++ ys)
bytes-both [] ys p q = q
bytes-both (x ∷ xs) ys p q = bytes-cons x (p.small 0) (bytes-both xs ys (record { small = λ k. p.small (suc k) }) q)

bytes-zeros : (n : ℕ) → Bytes (replicate n 0)
bytes-zeros zero = bytes-none
bytes-zeros (suc n) = bytes-cons 0 (omega arith) (bytes-zeros n)

bytes_word : (x : ℕ) → x < 65536 → Bytes (word_bytes x)
unfolding word_bytes
bytes_word x h = bytes-cons _ (omega arith) (bytes-cons _ (omega arith) bytes-none)

-- ---- lists of rows of bytes

-- each row is made of bytes
pub record RowBytes (rows : List (List ℕ)) : Type 0 where
  pub each : (j : ℕ) → j < length rows → Bytes (get_or rows j [])

-- joined, they are bytes
bytes-joined : (rows : List (List ℕ)) → RowBytes rows → Bytes (joined rows)
unfolding joined
bytes-joined [] b = bytes-none
bytes-joined (r ∷ rows) b =
    bytes-both r (joined rows) (b.each 0 (omega arith)) (bytes-joined rows (record { each = λ j h. b.each (suc j) (omega arith) }))

module _ (F : Frame) (L : Lawful F) {rows : List (List ℕ)} (wide : Rows F.width rows) (b : RowBytes rows) where
  -- the rows of a block, and the block
  bytes-in : (i : ℕ) → RowBytes (rows_in F rows i)
  bytes-in i = record {
    each = λ j h.
        let m = simp (length-take, length-drop) at h in
        let hj : j < F.room = omega arith in
        rw (row_in F rows i j hj) (b.each (F.room * i + j) (omega arith));
  }

  bytes-block : (i : ℕ) → suc i < 65536 → Bytes (block_of F rows i)
  unfolding block_body block_front block_bytes check_of
  bytes-block i h =
      let rs : List (List ℕ) = rows_in F rows i in
      let body : List ℕ = block_body F i rs in
      let front : List ℕ = block_front F i rs in
      let zeros : List ℕ = replicate (spare F rs) 0 in
      let room : F.room ≤ 504 = omega (arith, mul_comm F.width F.room, le-mul_of_pos_right F.room L.width-pos, L.cells) in
      bytes-both front (word_bytes (check_of front 0))
      (bytes-both body (word_bytes (second_of body 0))
      (bytes-both (word_bytes (suc i)) (word_bytes (length rs) ++ (joined rs ++ zeros)) (bytes_word (suc i) h)
      (bytes-both (word_bytes (length rs)) (joined rs ++ zeros) (bytes_word (length rs) (omega (arith, fits_in_lem F L wide i)))
      (bytes-both (joined rs) zeros (bytes-joined rs (bytes-in i)) (bytes-zeros (spare F rs)))))
      (bytes_word (second_of body 0) (second-small body 0)))
      (bytes_word (check_of front 0) (omega arith))

  -- the encoding of rows of bytes is made of bytes, as long as the numbers of the blocks fit a word
  pub rows-bytes : blocks_for F (length rows) < 65536 → Bytes (encode_rows F rows)
  unfolding encode_rows
  rows-bytes h =
      let n = blocks_for F (length rows) in
      let e = length-listed (block_of F rows) 0 n in
      rw (all-joined F L wide n)
      (bytes-joined (listed (block_of F rows) 0 n)
      (record { each = λ j l. let m : j < n = omega arith in rw (block_listed F L wide n j m) (bytes-block j (omega arith)) }))

-- ---- entries

-- every entry's fields fit their bytes
pub record AllBounded (es : List Entry) : Type 0 where
  pub each : (k : ℕ) → k < length es → Bounded (get_or es k zero_entry)

-- the bytes of such an entry
bytes-entry : (e : Entry) → Bounded e → Bytes (entry_bytes e)
unfolding entry_bytes
bytes-entry e b =
    bytes-cons _ b.kind (bytes-cons _ b.reserved
    (bytes-both (word_bytes e.owner) (word_bytes e.name ++ word_bytes e.number) (bytes_word _ b.owner)
    (bytes-both (word_bytes e.name) (word_bytes e.number) (bytes_word _ b.name) (bytes_word _ b.number))))

-- the encoding of such entries is made of bytes
pub encode-bytes : (es : List Entry) → AllBounded es → blocks_for plain (length es) < 65536 → Bytes (encode es)
unfolding encode
encode-bytes es b h =
    let l = length-map es entry_bytes in
    let rows : RowBytes (map entry_bytes es) = record {
      each = λ j m.
          let d : j < length es = omega arith in
          rw (get_d-map-in entry_bytes es zero_entry [] j d) (bytes-entry (get_or es j zero_entry) (b.each j d));
    } in
    rows-bytes plain plain-lawful (rows-entries es) rows (rw l h)

-- the entries of bytes are such entries
pub entries-bounded : {s : List ℕ} → Bytes s → AllBounded (entries_of s)
unfolding entry_at entry_from word_at
entries-bounded {s} b =
    let e = length-entries s in
    record {
      each = λ k h.
          rw (entries-listed s, get_d-listed (entry_at s) 1 (total_in plain s) zero_entry k (omega arith)) (bounded (entry_pos plain (1 + k)));
    }
  where
    bounded : (a : ℕ) → Bounded (entry_from s a)
    bounded a =
        record {
          kind = b.small a;
          reserved = b.small (a + 1);
          owner = omega (arith, b.small (a + 2), b.small (a + 2 + 1));
          name = omega (arith, b.small (a + 4), b.small (a + 4 + 1));
          number = omega (arith, b.small (a + 6), b.small (a + 6 + 1));
        }
