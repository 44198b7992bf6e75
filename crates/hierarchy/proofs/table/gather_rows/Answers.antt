use Rattle.std.proofs.Common.{◌≡◌, ◌+◌, ◌*◌, arith}
use Rattle.hierarchy.proofs.table.gather_rows.Goals as goal

pub gather-requires-in-loop-i : goal.gather-requires-in-loop-i
gather-requires-in-loop-i c =
    let i = c.loop-i.i in (
      c.requires.0,
      λ j h. (
        omega (arith, h, c.requires.0, c.loop-i-test.true),
        let e : i + 64 * j ≡ 64 * j + i = omega arith in rw e (c.requires.1 j i h c.loop-i-test.true),
      ),
    )
