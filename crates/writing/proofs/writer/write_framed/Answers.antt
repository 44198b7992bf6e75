-- `write_framed` meets its contract: refused in three ways, or written.
use Rattle.std.proofs.Common.{ℕ, ◌≡◌, ◌≤◌, ◌*◌, length, length-take, take, arith}
use Rattle.blocks.proofs.Format.Counts.{blocks-limit}
use Rattle.blocks.proofs.Format.Lawful.{framed-lawful}
use Rattle.blocks.specs.Encoding.{blocks_for, row_bytes_of}
use Rattle.blocks.specs.Frame.{framed}
use Rattle.writing.proofs.WritingLaws.{too_few, too_many, too_short, write-all, write-nothing}
use Rattle.writing.proofs.writer.write_framed.Goals as goal
use Rattle.writing.proofs.writer.write_framed.Goals.{then-rows-count-via-then-rows-count, then-rows-count-via-else-rows-count+then-most-count}

pub returns-then-rows-count : goal.returns-then-rows-count
returns-then-rows-count g c =
    let a = c.args in
    let F = framed g.row.WIDTH g.row.ROOM in
    write-nothing F a.most (row_bytes_of g.row.WIDTH) a.out.now a.rows.now a.count
    (elim c.then-rows-count.branch [
      | then-rows-count-via-then-rows-count w ↦ too_few F a.most (length a.out.now) (length a.rows.now) a.count w.if-rows-count.true
      | then-rows-count-via-else-rows-count+then-most-count w ↦ too_many F a.most (length a.out.now) (length a.rows.now) a.count w.if-rows-count.false w.if-most-count.true
    ])

pub returns-then-out-n : goal.returns-then-out-n
returns-then-out-n g c =
    let a = c.args in
    let F = framed g.row.WIDTH g.row.ROOM in
    write-nothing F a.most (row_bytes_of g.row.WIDTH) a.out.now a.rows.now a.count
    (too_short F a.most (length a.out.now) (length a.rows.now) a.count c.if-rows-count.false c.if-most-count.false c.blocks_for-n.ensures c.if-out-n.true)

pub returns : goal.returns
returns g c =
    write-all (framed g.row.WIDTH g.row.ROOM) _ (framed-lawful g.row.WIDTH g.row.ROOM c.requires.0) c.requires.1 _ _ _ c.if-rows-count.false c.if-most-count.false c.blocks_for-n.ensures c.if-out-n.false
    c.put_blocks.ensures

-- so many entries take 32 blocks at most
few : (w r : ℕ) {most count n : ℕ} → w * r ≡ 504 → most ≤ r * 32 → count ≤ most → n ≡ blocks_for (framed w r) count → n ≤ 32
few w r {count = count} cells room h e = let l = blocks-limit (framed w r) (framed-lawful w r cells) count 32 (omega arith) (omega arith) in omega (arith, e, l)

pub overflow_mul-n : goal.overflow_mul-n
overflow_mul-n g c =
    let l = few g.row.WIDTH g.row.ROOM c.requires.0 c.requires.3 c.if-most-count.false c.blocks_for-n.ensures in omega (arith, l)

pub put_blocks-requires : goal.put_blocks-requires
put_blocks-requires g c =
    let a = c.args in
    let size : length (take a.count a.rows.now) ≡ a.count = let n = length-take a.count a.rows.now in omega (arith, n) in (
      c.requires.0,
      c.requires.1,
      c.requires.2,
      rw size c.blocks_for-n.ensures,
      few g.row.WIDTH g.row.ROOM c.requires.0 c.requires.3 c.if-most-count.false c.blocks_for-n.ensures,
      c.if-out-n.false,
    )
