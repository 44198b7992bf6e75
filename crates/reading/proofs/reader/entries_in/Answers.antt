-- `entries_in` meets its contract.
use Rattle.std.proofs.Common.{◌∙◌, ◌-◌, ◌≤◌}
use native.Mathlib.Nat.{mul-le-mul_left}
use native.Mathlib.Omega.{arith}
use Rattle.blocks.specs.Frame.{framed, used_in}
use Rattle.reading.proofs.reader.ReadingLaws.{total-read}
use Rattle.reading.proofs.reader.entries_in.Goals as goal

pub overflow_mul-result : goal.overflow_mul-result
overflow_mul-result g c =
    let l : c.args.n - 1 ≤ 31 = omega arith in let m = mul-le-mul_left g.row.ROOM l in omega (arith, m)

pub returns : goal.returns
unfolding used_in
returns g c =
    let p = c.requires in
    let used = c.from.ensures ∙ c.word.ensures in
    let l : c.args.n - 1 ≤ 31 = omega arith in
    let m = mul-le-mul_left g.row.ROOM l in
    (total-read (framed g.row.WIDTH g.row.ROOM) _ p.1 p.3 used, omega (arith, m, p.4))
