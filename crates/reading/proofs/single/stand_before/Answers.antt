-- `stand_before` meets its contract.
use Rattle.std.proofs.Common.{ap, sym, ◌-◌, ◌∙◌}
use Rattle.blocks.proofs.Refusing.Readings.{refused-finding, accepted-finding}
use Rattle.reading.proofs.single.stand_before.Goals as goal

pub returns-in-Err : goal.returns-in-Err
returns-in-Err c = λ i f e.
    let r = c.in-Err.refusal in
    let g = refused-finding i tt f {k = r.cause} {j = r.input} {p = r.place} (rw c.in-Err.is at (sym e)) in
    rw g.1 (c.saturating_sub.ensures ∙ ap (λ k. k - 1) c.from.ensures)

pub returns-in-Ok : goal.returns-in-Ok
returns-in-Ok c = λ i f e. let g = accepted-finding i tt f (rw c.in-Ok.is at (sym e)) in rw g.1
