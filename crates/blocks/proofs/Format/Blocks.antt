-- Blocks and their parts: lengths, and where each part stands.
-- Assumes nothing.
use Rattle.std.proofs.Common.{◌≡◌, ℕ, suc, ◌+◌, ◌-◌, ◌*◌, ◌≤◌, List, ◌++◌, length, replicate, sym, refl, ap, mul-le-mul_left, arith, length-append}
use lib.ListN.{length-replicate}
use Rattle.base.proofs.Lists.{Holds, holds-left, holds-right, holds-both, holds_as}
use Rattle.blocks.proofs.Format.ByteRows.{Rows, length-joined}
use Rattle.blocks.proofs.Format.Lawful.{Lawful}
use Rattle.blocks.proofs.Format.WordBytes.{check-within, length-word, second-within}
use Rattle.blocks.specs.Encoding.{joined, block_body, block_front, block_bytes}
use Rattle.blocks.specs.Frame.{Frame}
use Rattle.blocks.specs.Words.{check_of, second_of, word_bytes}

-- the bytes after the rows of a block, up to its second word
abbrev pub spare : Frame → List (List ℕ) → ℕ
spare F rows = F.width * F.room - F.width * length rows

-- the rows and the zeros of a block, and these with the used count before them
abbrev from_cells : Frame → List (List ℕ) → List ℕ
from_cells F rows = joined rows ++ replicate (spare F rows) 0

abbrev from_used : Frame → List (List ℕ) → List ℕ
from_used F rows = word_bytes (length rows) ++ from_cells F rows

-- the parts of block i with these rows, each at its place from offset a on
pub record Parts (F : Frame) (s : List ℕ) (a i : ℕ) (rows : List (List ℕ)) : Type 0 where
  pub number : Holds s a (word_bytes (suc i))
  pub used : Holds s (a + 2) (word_bytes (length rows))
  pub cells : Holds s (a + 4) (joined rows)
  pub rest : Holds s (a + 4 + F.width * length rows) (replicate (spare F rows) 0)
  pub second : Holds s (a + 508) (word_bytes (second_of s a))
  pub check : Holds s (a + 510) (word_bytes (check_of s a))

module _ (F : Frame) (L : Lawful F) where
  module _ (i : ℕ) {rows : List (List ℕ)} (wide : Rows F.width rows) (fits : length rows ≤ F.room) where
    -- lengths: to the second word, to the check, and whole
    pub length-body : length (block_body F i rows) ≡ 508
    unfolding block_body
    length-body =
        let m = mul-le-mul_left F.width fits in
        let c = L.cells in
        simp (block_body, length-append, length-word, length-joined wide, length-replicate) (omega arith)

    -- its first 510 bytes
    pub length_front : length (block_front F i rows) ≡ 510
    unfolding block_front
    length_front = simp (block_front, length-append, length-word, length-body)

    pub length-block : length (block_bytes F i rows) ≡ 512
    unfolding block_bytes
    length-block = simp (block_bytes, length-append, length-word, length_front)

    -- where a block stands, its parts stand
    pub parts : {s : List ℕ} {a : ℕ} → Holds s a (block_bytes F i rows) → Parts F s a i rows
    unfolding block_body block_front block_bytes
    parts {s} {a} h =
        let body : List ℕ = block_body F i rows in
        let front : List ℕ = block_front F i rows in
        let in-front : Holds s a front = holds-left front (word_bytes (check_of front 0)) h in
        let in_body : Holds s a body = holds-left body (word_bytes (second_of body 0)) in-front in
        let after-number = holds-right (word_bytes (suc i)) (from_used F rows) (length-word (suc i)) in_body in
        let after-used = holds-right (word_bytes (length rows)) (from_cells F rows) (length-word (length rows)) after-number in
        let at_second = holds-right body (word_bytes (second_of body 0)) length-body in-front in
        let at-check = holds-right front (word_bytes (check_of front 0)) length_front h in
        record {
          number = holds-left (word_bytes (suc i)) (from_used F rows) in_body;
          used = holds-left (word_bytes (length rows)) (from_cells F rows) after-number;
          cells = holds_as refl (omega arith) (holds-left (joined rows) (replicate (spare F rows) 0) after-used);
          rest = holds_as refl (omega arith) (holds-right (joined rows) (replicate (spare F rows) 0) (length-joined wide) after-used);
          second = holds_as (ap word_bytes (sym (second-within length-body in_body))) refl at_second;
          check = holds_as (ap word_bytes (sym (check-within length_front in-front))) refl at-check;
        }

    -- where its parts stand, the block stands
    pub block_held : {s : List ℕ} {a : ℕ} → Parts F s a i rows → Holds s a (block_bytes F i rows)
    unfolding block_body block_front block_bytes
    block_held {s} {a} p =
        let body : List ℕ = block_body F i rows in
        let front : List ℕ = block_front F i rows in
        let at_cells : Holds s (a + 2 + 2) (from_cells F rows) =
        holds-both (joined rows) (replicate (spare F rows) 0) (length-joined wide)
        (holds_as refl (omega arith) p.cells) (holds_as refl (omega arith) p.rest) in
        let at-used : Holds s (a + 2) (from_used F rows) =
        holds-both (word_bytes (length rows)) (from_cells F rows) (length-word (length rows)) p.used at_cells in
        let in_body : Holds s a body = holds-both (word_bytes (suc i)) (from_used F rows) (length-word (suc i)) p.number at-used in
        let at_second = holds_as (ap word_bytes (second-within length-body in_body)) refl p.second in
        let in-front : Holds s a front = holds-both body (word_bytes (second_of body 0)) length-body in_body at_second in
        let at-check = holds_as (ap word_bytes (check-within length_front in-front)) refl p.check in
        holds-both front (word_bytes (check_of front 0)) length_front in-front at-check
