use Rattle.std.proofs.Common.{◌≡◌, ◌∙◌, ◌+◌, ◌-◌, ◌*◌, ℕ, ap, eqb, get_or, arith}
use Rattle.base.specs.Range.{bit}
use Rattle.hierarchy.proofs.WordLaws.{byte-bit, more-small, told-more}
use Rattle.hierarchy.proofs.table.gather.Goals as goal

pub loop-j-preserved : goal.loop-j-preserved
loop-j-preserved c =
    let n = c.args.n in
    let j = c.loop-j.j in
    let A = c.loop-j.invariant in
    let h = c.loop-j-test.true in
    let g = λ (k : ℕ). eqb (get_or c.args.table.now (c.args.from + c.args.apart * (n - (j + 1) + k)) 0) 1 in
    let low = (c.requires.1 (n - 1 - j) (omega (arith, h))).1 in
    let first : n - (j + 1) + 0 ≡ n - 1 - j = omega (arith, h) in
    let b : c.from.result ≡ bit (g 0) = rw first (c.from.ensures ∙ byte-bit _ low) in (
      more-small j A.0 (omega (arith, low, c.from.ensures)),
      told-more A.1 g c.from.result b
          (λ k l.
          let e : n - j + k ≡ n - (j + 1) + (k + 1) = omega (arith, h) in
          ap (λ (i : ℕ). eqb (get_or c.args.table.now (c.args.from + c.args.apart * i) 0) 1) e),
    )
