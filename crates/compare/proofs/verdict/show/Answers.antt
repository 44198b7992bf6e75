-- `show` meets its contract: the specimen can be shown in tables of each size, and is the one that is promised.
use native.Mathlib.Omega.{arith}
use Rattle.compare.proofs.verdict.RoomLaws.{both-within}
use Rattle.compare.proofs.verdict.ShownLaws.{failed-few, failed-many, failed-shown, failed-small}
use Rattle.compare.proofs.verdict.show.Goals.{else-are_within+else-are_within-2, else-are_within+then-are_within-2, then-are_within}
use Rattle.compare.proofs.verdict.show.Goals as goal

pub show_sized-count-requires : goal.show_sized-count-requires
show_sized-count-requires c =
    let within = both-within c.args.c.now c.args.d.now 512 c.are_within.ensures c.if-are_within.true in
    let f = failed-few c.requires.0.ruled c.requires.0.failed _ c.requires.1 1 (omega arith) within.0 within.1 in
    (f.0, f.1, omega arith, omega arith, omega arith)

pub show_sized-requires : goal.show_sized-requires
show_sized-requires c =
    let within = both-within c.args.c.now c.args.d.now 2048 c.are_within-else-are_within.ensures c.if-are_within-2.true in
    let f = failed-few c.requires.0.ruled c.requires.0.failed _ c.requires.1 4 (omega arith) within.0 within.1 in
    (f.0, f.1, omega arith, omega arith, omega arith)

pub show_sized-requires-else-are_within-2 : goal.show_sized-requires-else-are_within-2
show_sized-requires-else-are_within-2 c =
    let a = c.requires in
    (failed-many a.0.ruled a.0.failed _ a.1, a.0.failed.stood.few, omega arith, omega arith, omega arith)

pub overflow_cast-result : goal.overflow_cast-result
overflow_cast-result c = omega (arith, failed-small c.requires.0.ruled c.requires.0.failed)

pub returns : goal.returns
returns c = λ b R f.
    let a = c.requires in
    elim c.if-are_within.branch [
      | then-are_within w ↦ let e = w.show_sized-count.ensures in rw (w.count-is, w.out-is) (failed-shown R f _ a.1 e.0 e.2)
      | else-are_within+then-are_within-2 w ↦ let e = w.show_sized.ensures in rw (w.count-is, w.out-is) (failed-shown R f _ a.1 e.0 e.2)
      | else-are_within+else-are_within-2 w ↦ let e = w.show_sized-else-are_within-2.ensures in rw (w.count-is, w.out-is) (failed-shown R f _ a.1 e.0 e.2)
    ]
