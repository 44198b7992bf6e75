use Rattle.std.proofs.Common.{arith, ℕ, ◌∙◌, ◌≡◌, ◌≤◌, ◌<◌, ◌+◌, ◌*◌, ◌-◌, length, length-take, length-drop}
use Rattle.blocks.proofs.Format.Lawful.{framed-lawful}
use Rattle.blocks.specs.Encoding.{blocks_for}
use Rattle.blocks.specs.Frame.{framed}
use Rattle.writing.proofs.WritingLaws.{block-begins, blocks_start, blocks_step}
use Rattle.writing.proofs.writer.put_blocks.Goals as goal

pub loop-i-init : goal.loop-i-init
loop-i-init g c = blocks_start (framed-lawful g.row.WIDTH g.row.ROOM c.requires.0) c.requires.1 c.args.rows.now _

pub loop-i-preserved : goal.loop-i-preserved
loop-i-preserved g c =
    let l = c.loop-i in
    let i = l.i in
    let n : 512 * i + 512 - 512 * i ≡ 512 = omega arith in
    let long : length c.put_block.new.block ≡ 512 = c.put_block.auto.block ∙ simp (length-take, length-drop) (omega arith) in
    rw n (blocks_step (framed-lawful g.row.WIDTH g.row.ROOM c.requires.0) c.requires.1 c.args.rows.now _ i (omega arith) long l.invariant (rw c.min-end.ensures) c.put_block.ensures)

-- where block i begins among the entries
begins : (w r c : ℕ) {n i : ℕ} → w * r ≡ 504 → n ≡ blocks_for (framed w r) c → i < n → r * i ≤ c
begins w r c cells e l = block-begins (framed-lawful w r cells) {c = c} (rw e at l)

pub slice_bounds-put_block-count-in-loop-i : goal.slice_bounds-put_block-count-in-loop-i
slice_bounds-put_block-count-in-loop-i g c =
    let m = begins g.row.WIDTH g.row.ROOM (length c.args.rows.now) c.requires.0 c.requires.3 c.loop-i-test.true in rw c.min-end.ensures (omega (arith, m))

pub slice_bounds-put_block-start-in-loop-i : goal.slice_bounds-put_block-start-in-loop-i
slice_bounds-put_block-start-in-loop-i g c =
    let m = begins g.row.WIDTH g.row.ROOM (length c.args.rows.now) c.requires.0 c.requires.3 c.loop-i-test.true in omega (arith, m)
